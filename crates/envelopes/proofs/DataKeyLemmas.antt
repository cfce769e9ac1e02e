-- The data keys that templates make: how long their messages are, and what they read as.
use Rattle.std.proofs.Common.{◌≡◌, ◌∙◌, refl, sym, ap, subst, ℕ, ◌+◌, ◌<◌, ◌≤◌, ◌*◌, ◌^◌, inl, inr, ◌++◌, nat_le, Bool, true, ◌&&◌, List, [], ◌∷◌, length, take, drop, Contains, lit<, arith}
use Rattle.std.proofs.lemmas.Bool.{and_parts}
use Rattle.std.proofs.lemmas.Bool.Decides.{eqb_tells}
use Rattle.std.proofs.lemmas.List.{length-append, length-drop, length-take}
use Rattle.std.proofs.lemmas.Option.{same_Some}
use Rattle.key_msgs.proofs.Made.{is_made, made-within, made_are_numbers}
use Rattle.key_msgs.proofs.TableLemmas.{each_row, leb-le, made_valid, most_random}
use Rattle.key_msgs.specs.Contents.{Contents}
use Rattle.key_msgs.specs.KeyTypes.{aes_ctr_fields, hmac_fields, layout_of, primitive_of_type}
use Rattle.key_msgs.specs.Keys.{contents_of, type_of}
use Rattle.key_msgs.specs.Reading.{key_of}
use Rattle.key_msgs.specs.Templates.{MadeKeysAreValid, Row, made, made_by, random_by, random_of, templates, type_made}
use Rattle.key_msgs.specs.Writing.{KeysReadBack, ListsWithin, mac_contents, plain_written, value_of}
use Rattle.key_msgs.specs.declared.key.KeyKind.{KeyKind}
use Rattle.key_msgs.specs.declared.key.KeyKind.TheVariants as kinds
use Rattle.key_msgs.specs.declared.key_type.KeyType.{KeyType}
use Rattle.key_msgs.specs.declared.key_type.KeyType.TheVariants as types
use Rattle.key_msgs.specs.declared.primitive.Primitive.TheVariants.{Aead}
use Rattle.key_msgs.specs.declared.template.Recipe.{Recipe}
use Rattle.key_msgs.specs.declared.template.Recipe.TheVariants.{Gcm, Eax, CtrHmac, Siv, Hmac, Cmac, HkdfPrf, HmacPrf, CmacPrf, GcmStream, CtrStream, GcmSiv}
use Rattle.managers.proofs.StandardLemmas.{has_scheme}
use Rattle.managers.specs.Schemes.{Scheme, type_under}
use Rattle.proto_wire.proofs.Writing.{varint_of-last}
use Rattle.proto_wire.specs.Written.{content, message, uint32, written, written_all}
use Rattle.tink_base.specs.declared.hash.Hash.TheVariants.{Sha256}
use Rattle.envelopes.specs.Enveloped.{data_key_of}
use Rattle.tink_spec.specs.Outside.{EntropyState}
use Rattle.envelopes.specs.EnvelopeSteps.{Makes}
use Rattle.envelopes.specs.EnvelopeLaws.{DataKeysAreServed, DataKeysAreValid, IsDataKeyRow}

-- ---- the rows of the table

-- a recipe of an AEAD has one of these sizes
abbrev is_known : Recipe → Bool
is_known (Gcm size) = nat_le size 32
is_known (Eax size) = nat_le size 32
is_known (CtrHmac size tag) = nat_le size 32 && nat_le tag 32
is_known (GcmSiv size) = nat_le size 32
is_known recipe = nat_le (random_by recipe) 64

known : (row : Row) → Contains templates row → is_known row.recipe ≡ true
known row is = each_row (λ (x : Row). is_known x.recipe) refl row is

-- a made key's lists have few bytes
pub lists-made : (row : Row) (random : List ℕ) (key : KeyKind) → Contains templates row → length random ≡ random_of row → key ≡ made row random → ListsWithin (2 ^ 30) (contents_of key)
lists-made row random key is whole same =
    let few : length random ≤ 2 ^ 30 = omega (arith, most_random row is, whole) in
    subst (λ (k : KeyKind). ListsWithin (2 ^ 30) (contents_of k)) (sym same) (made-within (2 ^ 30) row.recipe random few)

-- ---- how long the message is

short-number : (number value : ℕ) → number * 8 + 0 < 128 → value < 128 → length (written (uint32 number value)) ≤ 2
short-number number value tag few = elim (eqb_tells value 0) [
  | inl none ↦ rw none.0 (omega arith)
  | inr some ↦ rw (some.0, varint_of-last (number * 8 + 0) tag, varint_of-last value few) (omega arith)
]

short-message : (number : ℕ) (of : List ℕ) → number * 8 + 2 < 128 → length of < 128 → length (written (message number of)) ≤ 2 + length of
short-message number of tag few = rw (varint_of-last (number * 8 + 2) tag, varint_of-last (length of) few) (omega arith)

short-content : (number : ℕ) (of : List ℕ) → number * 8 + 2 < 128 → length of < 128 → length (written (content number of)) ≤ 2 + length of
short-content number of tag few = elim (eqb_tells (length of) 0) [
  | inl none ↦ rw none.0 (omega arith)
  | inr some ↦ rw some.0 (short-message number of tag few)
]

-- a key value alone
single-long : (random : List ℕ) → length random ≤ 32 → length (plain_written (layout_of types.AesGcm) (contents_of (kinds.AesGcm random))) ≤ 34
unfolding plain_written
single-long random few =
    omega (arith, length-append (written (content 3 random)) [], short-content 3 random (lit< tt) (omega (arith, few)))

-- behind an IV size of one byte
eax-long : (m : Contents) → m.iv_size < 128 → length m.key ≤ 32 → length (plain_written aes_ctr_fields m) ≤ 38
unfolding plain_written
eax-long m iv few =
    let params = written_all (uint32 1 m.iv_size ∷ []) in
    let short : length params ≤ 2 = omega (arith, length-append (written (uint32 1 m.iv_size)) [], short-number 1 m.iv_size (lit< tt) iv) in
    omega (
      arith,
      length-append (written (message 2 params)) (written (content 3 m.key) ++ []),
      length-append (written (content 3 m.key)) [],
      short-message 2 params (lit< tt) (omega (arith, short)),
      short-content 3 m.key (lit< tt) (omega (arith, few)),
      short,
    )

mac-long : (m : Contents) → m.hash < 128 → m.tag_size < 128 → length m.key ≤ 32 → length (plain_written hmac_fields m) ≤ 40
unfolding plain_written
mac-long m hash tag few =
    let params = written_all (uint32 1 m.hash ∷ uint32 2 m.tag_size ∷ []) in
    let short : length params ≤ 4 = omega (
      arith,
      length-append (written (uint32 1 m.hash)) (written (uint32 2 m.tag_size) ++ []),
      length-append (written (uint32 2 m.tag_size)) [],
      short-number 1 m.hash (lit< tt) hash,
      short-number 2 m.tag_size (lit< tt) tag,
    ) in
    omega (
      arith,
      length-append (written (message 2 params)) (written (content 3 m.key) ++ []),
      length-append (written (content 3 m.key)) [],
      short-message 2 params (lit< tt) (omega (arith, short)),
      short-content 3 m.key (lit< tt) (omega (arith, few)),
      short,
    )

ctr_hmac-long : (aes mac : List ℕ) (tag : ℕ) → length aes ≤ 32 → length mac ≤ 32 → tag ≤ 32 → length (value_of (kinds.AesCtrHmac aes 16 Sha256 mac tag)) ≤ 82
ctr_hmac-long aes mac tag few less small =
    let m = contents_of (kinds.AesCtrHmac aes 16 Sha256 mac tag) in
    let first = plain_written aes_ctr_fields m in
    let second = plain_written hmac_fields (mac_contents m) in
    let one : length first ≤ 38 = eax-long m (lit< tt) few in
    let two : length second ≤ 40 = mac-long (mac_contents m) (lit< tt) (omega (arith, small)) less in
    omega (
      arith,
      length-append (written (message 2 first)) (written (message 3 second) ++ []),
      length-append (written (message 3 second)) [],
      short-message 2 first (lit< tt) (omega (arith, one)),
      short-message 3 second (lit< tt) (omega (arith, two)),
      one,
      two,
    )

value-long : (recipe : Recipe) (random : List ℕ) → is_known recipe ≡ true → primitive_of_type (type_of (made_by recipe [])) ≡ Aead → length random ≡ random_by recipe → length (value_of (made_by recipe random)) ≤ 82
value-long (Gcm size) random known aead whole = omega (arith, single-long random (omega (arith, whole, leb-le size 32 known)))
value-long (GcmSiv size) random known aead whole = omega (arith, single-long random (omega (arith, whole, leb-le size 32 known)))
value-long (Eax size) random known aead whole = omega (arith, eax-long (contents_of (kinds.AesEax random 16)) (lit< tt) (omega (arith, whole, leb-le size 32 known)))
value-long (CtrHmac size tag) random known aead whole =
    let both = and_parts (nat_le size 32) (nat_le tag 32) known in
    ctr_hmac-long (take size random) (drop size random) tag
    (omega (arith, length-take size random, leb-le size 32 both.0)) (omega (arith, length-drop size random, whole)) (leb-le tag 32 both.1)
value-long Siv random known aead whole = cc
value-long (Hmac size hash tag) random known aead whole = cc
value-long Cmac random known aead whole = cc
value-long HkdfPrf random known aead whole = cc
value-long (HmacPrf size hash) random known aead whole = cc
value-long CmacPrf random known aead whole = cc
value-long (GcmStream size segment) random known aead whole = cc
value-long (CtrStream size segment) random known aead whole = cc

-- the message of a data key has at most 82 bytes
pub data_key-long : (row : Row) (random : List ℕ) → IsDataKeyRow row → length random ≡ random_of row → length (data_key_of row random) ≤ 82
data_key-long row random is whole = value-long row.recipe random (known row is.known) is.aead whole

pub message-long : (scheme : Scheme) (row : Row) (old new : EntropyState) (value : List ℕ) (key : KeyKind) → IsDataKeyRow row → Makes scheme row old new value key → length value ≤ 1000
message-long scheme row old new value key is made = omega (arith, ap length made.message, data_key-long row made.drawn is made.makes.whole)

-- ---- under the standard table

pub data_keys_are_served : DataKeysAreServed
data_keys_are_served row aead = let own = has_scheme Aead (type_made row) refl aead in (own.scheme, own.at, own.under)

pub data_keys_are_valid : MadeKeysAreValid → KeysReadBack → DataKeysAreValid
data_keys_are_valid valid back row scheme random is at whole =
    let served' = data_keys_are_served row is.aead in
    let key : KeyKind = made row random in
    let same : type_under scheme ≡ type_of key
    = ap type_under (same_Some _ _ (sym at ∙ served'.1)) ∙ served'.2 ∙ sym (is_made row.recipe random).type in
    let few : length random ≤ 2 ^ 31 = omega (arith, most_random row is.known, whole) in
    ap (λ (t : KeyType). key_of t (value_of key)) same
    ∙ back key (made_valid valid row random is.known whole) (made_are_numbers row random is.known) (made-within (2 ^ 31) row.recipe random few)
