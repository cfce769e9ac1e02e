-- How long the messages of keys are, and their type URLs.
use Rattle.std.proofs.Common.{inl, inr, sym, subst, ℕ, ◌+◌, ◌≤◌, List, [], ◌∷◌, ◌++◌, length, ap, arith, length-append, lit≤}
use Rattle.proto_wire.specs.Written.{message, written}
use Rattle.proto_wire.proofs.Writing.{length-written}
use Rattle.key_msgs.proofs.Forms.{form_of}
use Rattle.key_msgs.proofs.Made.{is_made, length-material}
use Rattle.key_msgs.proofs.WritingLemmas.{length-plain}
use Rattle.key_msgs.specs.Contents.{Contents}
use Rattle.key_msgs.specs.KeyTypes.{aes_ctr_fields, hmac_fields, layout_of, url_of_type}
use Rattle.key_msgs.specs.Keys.{contents_of, type_of}
use Rattle.key_msgs.specs.Templates.{made_by}
use Rattle.key_msgs.specs.Writing.{mac_contents, plain_written, value_of, written_by}
use Rattle.key_msgs.specs.declared.key_type.KeyType.{KeyType}
use Rattle.key_msgs.specs.declared.key_type.KeyType.TheVariants as types
use Rattle.key_msgs.specs.declared.template.Recipe.{Recipe}

-- the bytes of what a message holds
abbrev held : Contents → ℕ
held m = length m.salt + (length m.key + length m.mac)

length-ctr_hmac : (m : Contents) → length (written_by types.AesCtrHmac m) ≤ 520 + held m
length-ctr_hmac m =
    let first = plain_written aes_ctr_fields m in
    let second = plain_written hmac_fields (mac_contents m) in
    omega (
      arith,
      length-append (written (message 2 first)) (written (message 3 second) ++ []),
      length-append (written (message 3 second)) [],
      length-written (message 2 first),
      length-written (message 3 second),
      length-plain aes_ctr_fields m,
      length-plain hmac_fields (mac_contents m),
    )

-- a message has at most 520 bytes beside its lists
pub length-of_type : (type : KeyType) (m : Contents) → length (written_by type m) ≤ 520 + held m
length-of_type type m = elim (form_of type) [
  | inl one ↦ omega (arith, ap length (one.written m), length-plain (layout_of type) m)
  | inr both ↦ subst (λ t. length (written_by t m) ≤ 520 + held m) (sym both) (length-ctr_hmac m)
]

-- the message of a made key
pub length-made : (recipe : Recipe) (random : List ℕ) → length (value_of (made_by recipe random)) ≤ 520 + length random
length-made recipe random =
    let key = made_by recipe random in
    omega (arith, length-of_type (type_of key) (contents_of key), length-material recipe random, ap length (is_made recipe random).salt)

-- a type URL is some bytes, and not many
pub length-url : (type : KeyType) → length (url_of_type type) ≤ 100
length-url types.AesGcm = lit≤ tt
length-url types.AesEax = lit≤ tt
length-url types.AesCtrHmac = lit≤ tt
length-url types.AesSiv = lit≤ tt
length-url types.Hmac = lit≤ tt
length-url types.AesCmac = lit≤ tt
length-url types.HkdfPrf = lit≤ tt
length-url types.HmacPrf = lit≤ tt
length-url types.CmacPrf = lit≤ tt
length-url types.GcmStream = lit≤ tt
length-url types.CtrStream = lit≤ tt
length-url types.AesGcmSiv = lit≤ tt
