-- What the laws on hiding say of two keysets that differ in one byte of their key, 7 or 8; the bytes are those that
-- protobuf gives for EncryptedKeyset and KeysetInfo.
use Rattle.std.proofs.Common.{◌≡◌, refl, ℕ, false, [], ◌∷◌, length, codes}
use Rattle.keyset_model.specs.Keyset.{Keys}
use Rattle.keyset_model.specs.Writing.{binary_of}
use Rattle.keyset_model.specs.declared.record.Record.{Record}
use Rattle.proto_wire.specs.Written.{groups_of}
use Rattle.seal_wrap.specs.Info.{info_of, without_keys}
use Rattle.seal_wrap.specs.Wrapped.{wrapped_binary, wrapped_text}

abbrev pub record_of : (secret : ℕ) → Record
record_of secret = record {
  id = 42;
  status = 1;
  prefix = 1;
  url = codes "u";
  value = secret ∷ [];
  material = 1;
}

abbrev pub keyset_of : (secret : ℕ) → Keys
keyset_of secret = record { primary = 42; records = record_of secret ∷ [] }

pub alike : without_keys (keyset_of 7) ≡ without_keys (keyset_of 8)
alike = refl

pub one_length : length (binary_of (keyset_of 7)) ≡ length (binary_of (keyset_of 8))
unfolding binary_of groups_of
one_length = refl

-- around one sealed byte, 9: the info, in which neither 7 nor 8 is
pub text : wrapped_text false (9 ∷ []) (info_of (without_keys (keyset_of 7)))
    ≡ (18 ∷ 1 ∷ 9 ∷ 26 ∷ 13 ∷ 8 ∷ 42 ∷ 18 ∷ 9 ∷ 10 ∷ 1 ∷ 117 ∷ 16 ∷ 1 ∷ 24 ∷ 42 ∷ 32 ∷ 1 ∷ [])
unfolding wrapped_binary groups_of
text = refl
