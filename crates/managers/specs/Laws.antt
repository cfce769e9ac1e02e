-- The laws of schemes and of what keys give, over the definitions alone.
use Rattle.std.specs.Prelude.{◌≡◌, ◌↔◌, ℕ, List, length, take, Ok, Some}
use Rattle.key_msgs.specs.KeyTypes.{primitive_of_type}
use Rattle.key_msgs.specs.Keys.{type_of, IsValid}
use Rattle.key_msgs.specs.declared.key.KeyKind.{KeyKind}
use Rattle.key_msgs.specs.declared.primitive.Primitive.{Primitive}
use Rattle.key_msgs.specs.declared.primitive.Primitive.TheVariants.{Aead, Daead}
use Rattle.managers.specs.Schemes.{Scheme, key_under, IsAdmitted}
use Rattle.managers.specs.Uses.{dopen_key, dseal_of, iv_size, open_key, seal_of}

-- a valid key of a kind that is for this primitive
abbrev pub IsFor : Primitive → KeyKind → Type 0
IsFor primitive key = (primitive_of_type (type_of key) ≡ primitive) × IsValid key

-- a key that a message reads as is admitted
abbrev pub ReadingIsAdmitted : Type 0
ReadingIsAdmitted = (scheme : Scheme) (value : List ℕ) (key : KeyKind)
    → key_under scheme value ≡ Ok key → IsAdmitted scheme key

-- bytes open to a plaintext exactly where they are its sealing under the IV at their own front
abbrev pub OpensSealings : Type 0
OpensSealings = (key : KeyKind) (bytes plain ad : List ℕ) → IsFor Aead key
    → open_key key bytes ad ≡ Some plain ↔ bytes ≡ seal_of key (take (iv_size key) bytes) plain ad

-- what is sealed under an IV of its size opens
abbrev pub SealingsOpen : Type 0
SealingsOpen = (key : KeyKind) (iv plain ad : List ℕ) → IsFor Aead key → length iv ≡ iv_size key
    → open_key key (seal_of key iv plain ad) ad ≡ Some plain

-- the same two of deterministic sealing, which has no IV
abbrev pub DopensSealings : Type 0
DopensSealings = (key : KeyKind) (bytes plain ad : List ℕ) → IsFor Daead key
    → dopen_key key bytes ad ≡ Some plain ↔ bytes ≡ dseal_of key plain ad
