-- A written key reads back: one lemma for all kinds with one key value, and one for AES-CTR-HMAC.
use Rattle.std.proofs.Common.{◌≡◌, ◌∙◌, ap, sym, refl, ℕ, suc, ◌<◌, ◌≤◌, ◌^◌, List, [], ◌∷◌, ◌++◌, length, arith, lit<, lit≤, inl, inr, Ok, Result, Option, Some}
use Rattle.std.specs.Prelude.{max}
use Rattle.std.proofs.lemmas.Bool.Decides.{leb_tells, eqb_tells}
use Rattle.tink_base.specs.Hash.{hash_of_number}
use Rattle.tink_base.specs.declared.hash.Hash.{Hash}
use Rattle.tink_base.specs.declared.hash.Hash.TheVariants.{Sha1, Sha224, Sha256, Sha384, Sha512}
use Rattle.tink_spec.specs.Wire.{WireField, greatest_number}
use Rattle.tink_spec.specs.Messages.{number_in, merged}
use Rattle.proto_wire.specs.Written.{Entry, uint32, content, message, written_all, fields_of_all, IsWritable}
use Rattle.proto_wire.proofs.ReadBack.{AreWritable, cut-all, entries_of, IsNumber, IsContent, IsMessage, number-back, content-back, message-back}
use Rattle.key_msgs.specs.declared.key.KeyKind.{KeyKind}
use Rattle.key_msgs.specs.declared.key.KeyKind.TheVariants as kinds
use Rattle.key_msgs.specs.declared.key_type.KeyType.{KeyType}
use Rattle.key_msgs.specs.declared.key_type.KeyType.TheVariants as types
use Rattle.key_msgs.specs.declared.layout.Layout.{Layout}
use Rattle.key_msgs.specs.declared.rule.Rule.{Rule}
use Rattle.key_msgs.specs.Contents.{Contents, nothing}
use Rattle.key_msgs.specs.KeyTypes.{layout_of, aes_ctr_fields, hmac_fields}
use Rattle.key_msgs.specs.Keys.{type_of, contents_of, hash_number, key_from}
use Rattle.key_msgs.specs.Reading.{plain, ctr_hmac, contents_in, formed, unless_broken, checked, key_of}
use Rattle.key_msgs.specs.Writing.{if_field, hmac_entries, params_entries, params_entry, plain_entries, plain_written, value_of, ListsWithin, AreNumbers, IsLayout, KeysReadBack}
use Rattle.key_msgs.proofs.ReadingLemmas.{message_gives}
use Rattle.key_msgs.proofs.WritingLemmas.{length-hmac, length-params, length-plain}

-- ---- what is written can be

if_field-are : (number : ℕ) (entry : Entry) → (0 < number → IsWritable entry) → AreWritable (if_field number entry)
if_field-are number entry is = elim (eqb_tells number 0) [
  | inl none ↦ rw none.0 tt
  | inr some ↦ rw some.0 (is (omega (arith, some.1)), tt)
]

both-are : (front more : List Entry) → AreWritable front → AreWritable more → AreWritable (front ++ more)
both-are [] more front_are more_are = more_are
both-are (entry ∷ front) more front_are more_are = (front_are.0, both-are front more front_are.1 more_are)

number-is : (number value : ℕ) → number ≤ greatest_number → value < 2 ^ 32 → AreWritable (if_field number (uint32 number value))
number-is number value most below = if_field-are number (uint32 number value) (λ least. ((least, most), below))

hmac-are : (m : Contents) → AreNumbers m → AreWritable (hmac_entries m)
hmac-are m held = (((lit< tt, lit≤ tt), held.mac_hash), (((lit< tt, lit≤ tt), held.mac_tag_size), tt))

params-are : (layout : Layout) (m : Contents) → IsLayout layout → AreNumbers m → ListsWithin (2 ^ 31) m → AreWritable (params_entries layout m)
params-are layout m laid held lists =
    both-are _ _ (number-is layout.iv_size m.iv_size laid.iv_size held.iv_size)
    (both-are _ _ (number-is layout.segment m.segment laid.segment held.segment)
    (both-are _ _ (number-is layout.derived m.derived laid.derived held.derived)
    (both-are _ _ (number-is layout.hash m.hash laid.hash held.hash)
    (both-are _ _ (number-is layout.tag_size m.tag_size laid.tag_size held.tag_size)
    (both-are _ _ (if_field-are layout.salt (content layout.salt m.salt) (λ least. ((least, laid.salt), omega (arith, lists.salt))))
    (if_field-are layout.hmac_params (message layout.hmac_params (written_all (hmac_entries m))) (λ least. ((least, laid.hmac_params), omega (arith, length-hmac m)))))))))

plain-are : (layout : Layout) (m : Contents) → IsLayout layout → AreNumbers m → ListsWithin (2 ^ 31) m → AreWritable (plain_entries layout m)
plain-are layout m laid held lists =
    let key : IsWritable (content layout.key_value m.key) = ((laid.least, laid.key_value), omega (arith, lists.key)) in
    let params : AreWritable (params_entry layout m) = if_field-are layout.params (message layout.params (written_all (params_entries layout m))) (λ least. ((least, laid.params), omega (arith, length-params layout m, lists.salt))) in
    elim (leb_tells (suc layout.key_value) layout.params) [
      | inl is ↦ rw is.0 (key, params)
      | inr other ↦ rw other.0 (both-are (params_entry layout m) (content layout.key_value m.key ∷ []) params (key, tt))
    ]

-- ---- messages with one key value

-- these entries, those of params and those of hmac_params hold these contents
record IsReadAs (layout : Layout) (entries inner within : List Entry) (m : Contents) : Type 0 where
  version : IsNumber (entries_of 1 entries) m.version
  params : IsMessage (entries_of layout.params entries) inner
  iv_size : IsNumber (entries_of layout.iv_size inner) m.iv_size
  segment : IsNumber (entries_of layout.segment inner) m.segment
  derived : IsNumber (entries_of layout.derived inner) m.derived
  hash : IsNumber (entries_of layout.hash inner) m.hash
  tag_size : IsNumber (entries_of layout.tag_size inner) m.tag_size
  salt : IsContent (entries_of layout.salt inner) m.salt
  hmac : IsMessage (entries_of layout.hmac_params inner) within
  mac_hash : IsNumber (entries_of 1 within) m.mac_hash
  mac_tag_size : IsNumber (entries_of 2 within) m.mac_tag_size
  key : IsContent (entries_of layout.key_value entries) m.key
  mac : [] ≡ m.mac

plain-back : (layout : Layout) (entries params hmac : List Entry) (m : Contents) (at : ℕ) → IsReadAs layout entries params hmac m → AreNumbers m → AreWritable params → AreWritable hmac
    → plain layout (fields_of_all at entries) ≡ Ok m
unfolding plain
plain-back layout entries params hmac m at is held params_are hmac_are =
    let inner = message-back layout.params at entries params is.params params_are in
    let salt = content-back layout.salt inner.0 params m.salt is.salt in
    let mac = message-back layout.hmac_params inner.0 params hmac is.hmac hmac_are in
    let key = content-back layout.key_value at entries m.key is.key in
    rw (
      number-back 1 at entries m.version is.version held.version,
      inner.1,
      number-back layout.iv_size inner.0 params m.iv_size is.iv_size held.iv_size,
      number-back layout.segment inner.0 params m.segment is.segment held.segment,
      number-back layout.derived inner.0 params m.derived is.derived held.derived,
      number-back layout.hash inner.0 params m.hash is.hash held.hash,
      number-back layout.tag_size inner.0 params m.tag_size is.tag_size held.tag_size,
      salt.1,
      mac.1,
      number-back 1 mac.0 hmac m.mac_hash is.mac_hash held.mac_hash,
      number-back 2 mac.0 hmac m.mac_tag_size is.mac_tag_size held.mac_tag_size,
      key.1,
    )
    (ap (λ (l : List ℕ). Ok (record m { mac = l })) is.mac)

plain-key : (type : KeyType) (m : Contents) (hmac : List Entry) → ((fields : List WireField) → contents_in type fields ≡ plain (layout_of type) fields) → IsLayout (layout_of type)
    → IsReadAs (layout_of type) (plain_entries (layout_of type) m) (params_entries (layout_of type) m) hmac m → AreWritable hmac → AreNumbers m → ListsWithin (2 ^ 31) m
    → key_of type (plain_written (layout_of type) m) ≡ checked type m
unfolding plain_written
plain-key type m hmac same laid is hmac_are held lists =
    let layout = layout_of type in
    let entries = plain_entries layout m in
    message_gives type (written_all entries) (fields_of_all 0 entries) m (cut-all 0 entries (plain-are layout m laid held lists))
    (ap (λ (r : Result Contents ℕ). formed r) (same (fields_of_all 0 entries) ∙ plain-back layout entries (params_entries layout m) hmac m 0 is held (params-are layout m laid held lists) hmac_are))

-- ---- AES-CTR-HMAC

aes_laid : IsLayout aes_ctr_fields
aes_laid = record { params = lit≤ tt; iv_size = lit≤ tt; segment = lit≤ tt; derived = lit≤ tt; hash = lit≤ tt; tag_size = lit≤ tt; salt = lit≤ tt; hmac_params = lit≤ tt; least = lit< tt; key_value = lit≤ tt }

hmac_laid : IsLayout hmac_fields
hmac_laid = record { params = lit≤ tt; iv_size = lit≤ tt; segment = lit≤ tt; derived = lit≤ tt; hash = lit≤ tt; tag_size = lit≤ tt; salt = lit≤ tt; hmac_params = lit≤ tt; least = lit< tt; key_value = lit≤ tt }

ctr-back : (fields aes_fields mac_fields : List WireField) (aes mac : Contents) → number_in 1 fields ≡ Ok 0 → merged 2 fields ≡ Ok aes_fields → plain aes_ctr_fields aes_fields ≡ Ok aes
    → merged 3 fields ≡ Ok mac_fields → plain hmac_fields mac_fields ≡ Ok mac
    → ctr_hmac fields ≡ Ok (record aes { version = max 0 (max aes.version mac.version); mac_hash = mac.hash; mac_tag_size = mac.tag_size; mac = mac.key })
unfolding ctr_hmac
ctr-back fields aes_fields mac_fields aes mac version aes_is aes_plain mac_is mac_plain = rw (version, aes_is, aes_plain, mac_is, mac_plain) refl

-- what is written of the key of AES-CTR
abbrev aes_contents : List ℕ → ℕ → Contents
aes_contents key iv_size = record nothing { key = key; iv_size = iv_size }

ctr-key : (aes : List ℕ) (iv_size mac_hash : ℕ) (mac : List ℕ) (tag_size : ℕ) (m : Contents) → m ≡ record nothing { key = aes; iv_size = iv_size; mac_hash = mac_hash; mac = mac; mac_tag_size = tag_size }
    → length aes ≤ 2 ^ 31 → length mac ≤ 2 ^ 31 → iv_size < 2 ^ 32 → mac_hash < 2 ^ 32 → tag_size < 2 ^ 32
    → key_of types.AesCtrHmac (written_all (message 2 (plain_written aes_ctr_fields (aes_contents aes iv_size)) ∷ message 3 (plain_written hmac_fields (record nothing { hash = mac_hash; tag_size = tag_size; key = mac })) ∷ [])) ≡ checked types.AesCtrHmac m
unfolding plain_written
ctr-key aes iv_size mac_hash mac tag_size m is aes_short mac_short iv_below hash_below tag_below =
    let first = aes_contents aes iv_size in
    let second : Contents = record nothing { hash = mac_hash; tag_size = tag_size; key = mac } in
    let zero : 0 < 2 ^ 32 = lit< tt in
    let first_held : AreNumbers first = record { version = zero; iv_size = iv_below; segment = zero; derived = zero; hash = zero; tag_size = zero; mac_hash = zero; mac_tag_size = zero } in
    let second_held : AreNumbers second = record { version = zero; iv_size = zero; segment = zero; derived = zero; hash = hash_below; tag_size = tag_below; mac_hash = zero; mac_tag_size = zero } in
    let first_short : ListsWithin (2 ^ 31) first = record { key = aes_short; salt = lit≤ tt; mac = lit≤ tt } in
    let second_short : ListsWithin (2 ^ 31) second = record { key = mac_short; salt = lit≤ tt; mac = lit≤ tt } in
    let first_entries = plain_entries aes_ctr_fields first in
    let second_entries = plain_entries hmac_fields second in
    let entries = message 2 (written_all first_entries) ∷ message 3 (written_all second_entries) ∷ [] in
    let aes_message = message-back 2 0 entries first_entries refl (plain-are aes_ctr_fields first aes_laid first_held first_short) in
    let mac_message = message-back 3 0 entries second_entries refl (plain-are hmac_fields second hmac_laid second_held second_short) in
    let aes_plain : plain aes_ctr_fields (fields_of_all aes_message.0 first_entries) ≡ Ok first =
    plain-back aes_ctr_fields first_entries (params_entries aes_ctr_fields first) [] first aes_message.0
    (record { version = refl; params = refl; iv_size = refl; segment = refl; derived = refl; hash = refl; tag_size = refl; salt = refl; hmac = refl; mac_hash = refl; mac_tag_size = refl; key = refl; mac = refl })
    first_held (params-are aes_ctr_fields first aes_laid first_held first_short) tt in
    let mac_plain : plain hmac_fields (fields_of_all mac_message.0 second_entries) ≡ Ok second =
    plain-back hmac_fields second_entries (params_entries hmac_fields second) [] second mac_message.0
    (record { version = refl; params = refl; iv_size = refl; segment = refl; derived = refl; hash = refl; tag_size = refl; salt = refl; hmac = refl; mac_hash = refl; mac_tag_size = refl; key = refl; mac = refl })
    second_held (params-are hmac_fields second hmac_laid second_held second_short) tt in
    let version = number-back 1 0 entries 0 refl zero in
    let read : ctr_hmac (fields_of_all 0 entries) ≡ Ok m = ctr-back (fields_of_all 0 entries) _ _ first second version aes_message.1 aes_plain mac_message.1 mac_plain ∙ ap (λ (c : Contents). Ok c) (sym is) in
    message_gives types.AesCtrHmac (written_all entries) (fields_of_all 0 entries) m
    (cut-all 0 entries (((lit< tt, lit≤ tt), omega (arith, length-plain aes_ctr_fields first)), (((lit< tt, lit≤ tt), omega (arith, length-plain hmac_fields second)), tt)))
    (ap (λ (r : Result Contents ℕ). formed r) read)

-- ---- every kind

hash-back : (hash : Hash) → hash_of_number (hash_number hash) ≡ Some hash
hash-back Sha1 = refl
hash-back Sha224 = refl
hash-back Sha256 = refl
hash-back Sha384 = refl
hash-back Sha512 = refl

from-back : (key : KeyKind) → key_from (type_of key) (contents_of key) ≡ Ok key
from-back (kinds.AesGcm key) = refl
from-back (kinds.AesEax key iv_size) = refl
from-back (kinds.AesCtrHmac aes iv_size hash mac tag_size) = rw (hash-back hash) refl
from-back (kinds.AesSiv key) = refl
from-back (kinds.Hmac key hash tag_size) = rw (hash-back hash) refl
from-back (kinds.AesCmac key tag_size) = refl
from-back (kinds.HkdfPrf key hash salt) = rw (hash-back hash) refl
from-back (kinds.HmacPrf key hash) = rw (hash-back hash) refl
from-back (kinds.CmacPrf key) = refl
from-back (kinds.GcmStream key segment derived hash) = rw (hash-back hash) refl
from-back (kinds.CtrStream key segment derived hash mac_hash tag_size) = rw (hash-back hash, hash-back mac_hash) refl
from-back (kinds.AesGcmSiv key) = refl

abbrev IsReadKey : KeyKind → Type 0
IsReadKey key = AreNumbers (contents_of key) → ListsWithin (2 ^ 31) (contents_of key) → key_of (type_of key) (value_of key) ≡ checked (type_of key) (contents_of key)

read-back : (key : KeyKind) → IsReadKey key
unfolding plain_written
read-back (kinds.AesGcm key) held lists =
    plain-key types.AesGcm (contents_of (kinds.AesGcm key)) [] (λ fields. refl)
    (record { params = lit≤ tt; iv_size = lit≤ tt; segment = lit≤ tt; derived = lit≤ tt; hash = lit≤ tt; tag_size = lit≤ tt; salt = lit≤ tt; hmac_params = lit≤ tt; least = lit< tt; key_value = lit≤ tt })
    (record { version = refl; params = refl; iv_size = refl; segment = refl; derived = refl; hash = refl; tag_size = refl; salt = refl; hmac = refl; mac_hash = refl; mac_tag_size = refl; key = refl; mac = refl }) tt held lists
read-back (kinds.AesEax key iv_size) held lists =
    plain-key types.AesEax (contents_of (kinds.AesEax key iv_size)) [] (λ fields. refl)
    (record { params = lit≤ tt; iv_size = lit≤ tt; segment = lit≤ tt; derived = lit≤ tt; hash = lit≤ tt; tag_size = lit≤ tt; salt = lit≤ tt; hmac_params = lit≤ tt; least = lit< tt; key_value = lit≤ tt })
    (record { version = refl; params = refl; iv_size = refl; segment = refl; derived = refl; hash = refl; tag_size = refl; salt = refl; hmac = refl; mac_hash = refl; mac_tag_size = refl; key = refl; mac = refl }) tt held lists
read-back (kinds.AesCtrHmac aes iv_size hash mac tag_size) held lists =
    ctr-key aes iv_size (hash_number hash) mac tag_size (contents_of (kinds.AesCtrHmac aes iv_size hash mac tag_size)) refl lists.key lists.mac held.iv_size held.mac_hash held.mac_tag_size
read-back (kinds.AesSiv key) held lists =
    plain-key types.AesSiv (contents_of (kinds.AesSiv key)) [] (λ fields. refl)
    (record { params = lit≤ tt; iv_size = lit≤ tt; segment = lit≤ tt; derived = lit≤ tt; hash = lit≤ tt; tag_size = lit≤ tt; salt = lit≤ tt; hmac_params = lit≤ tt; least = lit< tt; key_value = lit≤ tt })
    (record { version = refl; params = refl; iv_size = refl; segment = refl; derived = refl; hash = refl; tag_size = refl; salt = refl; hmac = refl; mac_hash = refl; mac_tag_size = refl; key = refl; mac = refl }) tt held lists
read-back (kinds.Hmac key hash tag_size) held lists =
    plain-key types.Hmac (contents_of (kinds.Hmac key hash tag_size)) [] (λ fields. refl)
    (record { params = lit≤ tt; iv_size = lit≤ tt; segment = lit≤ tt; derived = lit≤ tt; hash = lit≤ tt; tag_size = lit≤ tt; salt = lit≤ tt; hmac_params = lit≤ tt; least = lit< tt; key_value = lit≤ tt })
    (record { version = refl; params = refl; iv_size = refl; segment = refl; derived = refl; hash = refl; tag_size = refl; salt = refl; hmac = refl; mac_hash = refl; mac_tag_size = refl; key = refl; mac = refl }) tt held lists
read-back (kinds.AesCmac key tag_size) held lists =
    plain-key types.AesCmac (contents_of (kinds.AesCmac key tag_size)) [] (λ fields. refl)
    (record { params = lit≤ tt; iv_size = lit≤ tt; segment = lit≤ tt; derived = lit≤ tt; hash = lit≤ tt; tag_size = lit≤ tt; salt = lit≤ tt; hmac_params = lit≤ tt; least = lit< tt; key_value = lit≤ tt })
    (record { version = refl; params = refl; iv_size = refl; segment = refl; derived = refl; hash = refl; tag_size = refl; salt = refl; hmac = refl; mac_hash = refl; mac_tag_size = refl; key = refl; mac = refl }) tt held lists
read-back (kinds.HkdfPrf key hash salt) held lists =
    plain-key types.HkdfPrf (contents_of (kinds.HkdfPrf key hash salt)) [] (λ fields. refl)
    (record { params = lit≤ tt; iv_size = lit≤ tt; segment = lit≤ tt; derived = lit≤ tt; hash = lit≤ tt; tag_size = lit≤ tt; salt = lit≤ tt; hmac_params = lit≤ tt; least = lit< tt; key_value = lit≤ tt })
    (record { version = refl; params = refl; iv_size = refl; segment = refl; derived = refl; hash = refl; tag_size = refl; salt = refl; hmac = refl; mac_hash = refl; mac_tag_size = refl; key = refl; mac = refl }) tt held lists
read-back (kinds.HmacPrf key hash) held lists =
    plain-key types.HmacPrf (contents_of (kinds.HmacPrf key hash)) [] (λ fields. refl)
    (record { params = lit≤ tt; iv_size = lit≤ tt; segment = lit≤ tt; derived = lit≤ tt; hash = lit≤ tt; tag_size = lit≤ tt; salt = lit≤ tt; hmac_params = lit≤ tt; least = lit< tt; key_value = lit≤ tt })
    (record { version = refl; params = refl; iv_size = refl; segment = refl; derived = refl; hash = refl; tag_size = refl; salt = refl; hmac = refl; mac_hash = refl; mac_tag_size = refl; key = refl; mac = refl }) tt held lists
read-back (kinds.CmacPrf key) held lists =
    plain-key types.CmacPrf (contents_of (kinds.CmacPrf key)) [] (λ fields. refl)
    (record { params = lit≤ tt; iv_size = lit≤ tt; segment = lit≤ tt; derived = lit≤ tt; hash = lit≤ tt; tag_size = lit≤ tt; salt = lit≤ tt; hmac_params = lit≤ tt; least = lit< tt; key_value = lit≤ tt })
    (record { version = refl; params = refl; iv_size = refl; segment = refl; derived = refl; hash = refl; tag_size = refl; salt = refl; hmac = refl; mac_hash = refl; mac_tag_size = refl; key = refl; mac = refl }) tt held lists
read-back (kinds.GcmStream key segment derived hash) held lists =
    plain-key types.GcmStream (contents_of (kinds.GcmStream key segment derived hash)) [] (λ fields. refl)
    (record { params = lit≤ tt; iv_size = lit≤ tt; segment = lit≤ tt; derived = lit≤ tt; hash = lit≤ tt; tag_size = lit≤ tt; salt = lit≤ tt; hmac_params = lit≤ tt; least = lit< tt; key_value = lit≤ tt })
    (record { version = refl; params = refl; iv_size = refl; segment = refl; derived = refl; hash = refl; tag_size = refl; salt = refl; hmac = refl; mac_hash = refl; mac_tag_size = refl; key = refl; mac = refl }) tt held lists
read-back (kinds.CtrStream key segment derived hash mac_hash tag_size) held lists =
    plain-key types.CtrStream (contents_of (kinds.CtrStream key segment derived hash mac_hash tag_size)) (hmac_entries (contents_of (kinds.CtrStream key segment derived hash mac_hash tag_size))) (λ fields. refl)
    (record { params = lit≤ tt; iv_size = lit≤ tt; segment = lit≤ tt; derived = lit≤ tt; hash = lit≤ tt; tag_size = lit≤ tt; salt = lit≤ tt; hmac_params = lit≤ tt; least = lit< tt; key_value = lit≤ tt })
    (record { version = refl; params = refl; iv_size = refl; segment = refl; derived = refl; hash = refl; tag_size = refl; salt = refl; hmac = refl; mac_hash = refl; mac_tag_size = refl; key = refl; mac = refl }) (hmac-are _ held) held lists
read-back (kinds.AesGcmSiv key) held lists =
    plain-key types.AesGcmSiv (contents_of (kinds.AesGcmSiv key)) [] (λ fields. refl)
    (record { params = lit≤ tt; iv_size = lit≤ tt; segment = lit≤ tt; derived = lit≤ tt; hash = lit≤ tt; tag_size = lit≤ tt; salt = lit≤ tt; hmac_params = lit≤ tt; least = lit< tt; key_value = lit≤ tt })
    (record { version = refl; params = refl; iv_size = refl; segment = refl; derived = refl; hash = refl; tag_size = refl; salt = refl; hmac = refl; mac_hash = refl; mac_tag_size = refl; key = refl; mac = refl }) tt held lists

pub keys-back : KeysReadBack
keys-back key valid held lists =
    read-back key held lists ∙ ap (λ (broken : Option Rule). unless_broken broken (key_from (type_of key) (contents_of key))) valid ∙ from-back key
