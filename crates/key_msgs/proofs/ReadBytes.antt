-- Keys that are read of bytes have bytes.
use Rattle.std.proofs.Common.{◌≡◌, inl, inr, refl, sym, subst, ℕ, ◌+◌, ◌==◌, Bool, List, [], ◌∷◌, ◌++◌, length, Option, Some, None, Ok, Err, Result}
use Rattle.std.specs.Prelude.{IfOk, filter, fold}
use Rattle.std.specs.List.{AllByRecursion}
use Rattle.std.proofs.lemmas.List.Elements.{All-filter, All-from_recursion, recursion_from_All}
use Rattle.key_msgs.proofs.Forms.{form_of}
use Rattle.key_msgs.proofs.FromContents.{IsFrom, key_from-is}
use Rattle.key_msgs.proofs.WrittenBytes.{AreBytes, bytes-behind, bytes-front, each-append}
use Rattle.key_msgs.specs.Contents.{Contents}
use Rattle.key_msgs.specs.KeyTypes.{aes_ctr_fields, hmac_fields, layout_of}
use Rattle.key_msgs.specs.Keys.{contents_of, key_from}
use Rattle.key_msgs.specs.Reading.{and_checked, contents_in, ctr_hmac, formed, key_of, plain, unless_broken}
use Rattle.key_msgs.specs.Rules.{first_broken}
use Rattle.key_msgs.specs.declared.key.KeyKind.{KeyKind}
use Rattle.key_msgs.specs.declared.key_type.KeyType.{KeyType}
use Rattle.key_msgs.specs.declared.layout.Layout.{Layout}
use Rattle.key_msgs.specs.declared.rule.Rule.{Rule}
use Rattle.proto_wire.proofs.Cuts.{cut-spells}
use Rattle.tink_spec.specs.Messages.{◌>>=◌, at_place, bytes_in, embedded, embedded_all, first_other, is_bytes, joined, last_bytes, later_bytes, merged, number_in, of_number, unless_at}
use Rattle.tink_spec.specs.Wire.{IsCutInto, Payload, SpellsField, WireField, bytes, cut, eight, four, varint}

kept : {A : Type 0} (P : A → Type 0) (test : A → Bool) (xs : List A) → AllByRecursion P xs → AllByRecursion P (filter test xs)
kept P test xs all = recursion_from_All P (filter test xs) (All-filter test P xs (All-from_recursion P xs all))

-- ---- what is read has a property, where it is read

record Gives {A : Type 0} (P : A → Type 0) (read : Result A ℕ) : Type 0 where
  has : (a : A) → read ≡ Ok a → P a

given : {A : Type 0} (P : A → Type 0) (a : A) → P a → Gives P (Ok a)
given P a has = record { has = λ b is. let same : a ≡ b = cc in subst P same has }

nothing_given : {A : Type 0} (P : A → Type 0) (place : ℕ) → Gives P (Err place)
nothing_given P place = record { has = λ b is. cc }

skip : {A B : Type 0} (Q : B → Type 0) (read : Result A ℕ) (behind : A → Result B ℕ) → ((a : A) → Gives Q (behind a)) → Gives Q (read >>= behind)
skip Q (Ok a) behind each = each a
skip Q (Err place) behind each = nothing_given Q place

next : {A B : Type 0} (P : A → Type 0) (Q : B → Type 0) (read : Result A ℕ) (behind : A → Result B ℕ) → Gives P read → ((a : A) → P a → Gives Q (behind a)) → Gives Q (read >>= behind)
next P Q (Ok a) behind first each = each a (first.has a refl)
next P Q (Err place) behind first each = nothing_given Q place

unless : {A : Type 0} (P : A → Type 0) (place : Option ℕ) (a : A) → P a → Gives P (unless_at place a)
unless P None a has = given P a has
unless P (Some place) a has = nothing_given P place

-- ---- fields

-- the bytes of a payload
abbrev content_of : Payload → List ℕ
content_of (bytes start content) = content
content_of _ = []

-- those of a field are bytes
record HasByteContent (field : WireField) : Type 0 where
  are : AreBytes (content_of field.payload)

abbrev AllHaveBytes : List WireField → Type 0
AllHaveBytes fields = AllByRecursion HasByteContent fields

spelled-bytes : (spelling : List ℕ) (field : WireField) (payload : Payload) → field.payload ≡ payload → SpellsField spelling field → AreBytes spelling → AreBytes (content_of payload)
spelled-bytes spelling field (varint value) is spells all = tt
spelled-bytes spelling field eight is spells all = tt
spelled-bytes spelling field four is spells all = tt
spelled-bytes spelling field (bytes start content) is spells all =
    let spelled = rw is at spells.spelled in
    let behind = bytes-behind spells.tag spells.behind (subst AreBytes (sym spells.whole) all) in
    bytes-behind spelled.0 content (subst AreBytes (sym spelled.2) behind)

fields-bytes : (at : ℕ) (part : List ℕ) (fields : List WireField) → IsCutInto at part fields → AreBytes part → AllHaveBytes fields
fields-bytes at part [] is all = tt
fields-bytes at part (field ∷ fields) is all =
    let whole = subst AreBytes (sym is.2) all in
    (record { are = spelled-bytes is.0 field field.payload refl is.4 (bytes-front is.0 is.1 whole) }, fields-bytes (at + length is.0) is.1 fields is.5 (bytes-behind is.0 is.1 whole))

cut-bytes : (at : ℕ) (part : List ℕ) → AreBytes part → Gives AllHaveBytes (cut at part)
cut-bytes at part all = record { has = λ fields is. fields-bytes at part fields (cut-spells at part fields is) all }

embedded-bytes : (place : ℕ) (payload : Payload) → AreBytes (content_of payload) → Gives AllHaveBytes (at_place place (embedded payload))
embedded-bytes place (bytes start content) all = placed (cut start content) (cut-bytes start content all)
  where
    placed : (read : Result (List WireField) ℕ) → Gives AllHaveBytes read → Gives AllHaveBytes (at_place place read)
    placed (Ok fields) gives = gives
    placed (Err inside) gives = nothing_given AllHaveBytes place
embedded-bytes place (varint value) all = nothing_given AllHaveBytes place
embedded-bytes place eight all = nothing_given AllHaveBytes place
embedded-bytes place four all = nothing_given AllHaveBytes place

joined-bytes : (front rest : Result (List WireField) ℕ) → Gives AllHaveBytes front → Gives AllHaveBytes rest → Gives AllHaveBytes (joined front rest)
joined-bytes (Ok xs) (Ok ys) front rest = given AllHaveBytes (xs ++ ys) (each-append HasByteContent xs ys (front.has xs refl) (rest.has ys refl))
joined-bytes (Ok xs) (Err place) front rest = nothing_given AllHaveBytes place
joined-bytes (Err place) rest front gives = nothing_given AllHaveBytes place

all-bytes : (these : List WireField) → AllHaveBytes these → Gives AllHaveBytes (embedded_all these)
all-bytes [] all = given AllHaveBytes [] tt
all-bytes (field ∷ these) all =
    joined-bytes (at_place field.at (embedded field.payload)) (embedded_all these) (embedded-bytes field.at field.payload all.0.are) (all-bytes these all.1)

merged-bytes : (number : ℕ) (fields : List WireField) → AllHaveBytes fields → Gives AllHaveBytes (merged number fields)
merged-bytes number fields all = all-bytes (of_number number fields) (kept HasByteContent (λ field. field.number == number) fields all)

later-bytes : (payload : Payload) (before : ℕ × List ℕ) → AreBytes before.1 → AreBytes (content_of payload) → AreBytes (later_bytes before payload).1
later-bytes (bytes start content) before are all = all
later-bytes (varint value) before are all = are
later-bytes eight before are all = are
later-bytes four before are all = are

last-bytes : (these : List WireField) (before : ℕ × List ℕ) → AreBytes before.1 → AllHaveBytes these → AreBytes (fold (λ before field. later_bytes before field.payload) before these).1
last-bytes [] before are all = are
last-bytes (field ∷ these) before are all = last-bytes these (later_bytes before field.payload) (later-bytes field.payload before are all.0.are) all.1

abbrev IsContent : ℕ × List ℕ → Type 0
IsContent value = AreBytes value.1

value-bytes : (number : ℕ) (fields : List WireField) → AllHaveBytes fields → Gives IsContent (bytes_in number fields)
value-bytes number fields all =
    let these = of_number number fields in
    unless IsContent (first_other is_bytes these) (last_bytes these) (last-bytes these (0, []) tt (kept HasByteContent (λ field. field.number == number) fields all))

-- ---- key messages

-- the key value is bytes
abbrev HasByteKey : Contents → Type 0
HasByteKey m = AreBytes m.key

plain-bytes : (layout : Layout) (fields : List WireField) → AllHaveBytes fields → Gives HasByteKey (plain layout fields)
unfolding plain
plain-bytes layout fields all =
    skip HasByteKey (number_in 1 fields) _ (λ version.
    skip HasByteKey (merged layout.params fields) _ (λ params.
    skip HasByteKey (number_in layout.iv_size params) _ (λ iv_size.
    skip HasByteKey (number_in layout.segment params) _ (λ segment.
    skip HasByteKey (number_in layout.derived params) _ (λ derived.
    skip HasByteKey (number_in layout.hash params) _ (λ hash.
    skip HasByteKey (number_in layout.tag_size params) _ (λ tag_size.
    skip HasByteKey (bytes_in layout.salt params) _ (λ salt.
    skip HasByteKey (merged layout.hmac_params params) _ (λ hmac.
    skip HasByteKey (number_in 1 hmac) _ (λ mac_hash.
    skip HasByteKey (number_in 2 hmac) _ (λ mac_tag_size.
    next IsContent HasByteKey (bytes_in layout.key_value fields) _ (value-bytes layout.key_value fields all) (λ key is.
    given HasByteKey _ is))))))))))))

ctr_hmac-bytes : (fields : List WireField) → AllHaveBytes fields → Gives HasByteKey (ctr_hmac fields)
unfolding ctr_hmac
ctr_hmac-bytes fields all =
    skip HasByteKey (number_in 1 fields) _ (λ version.
    next AllHaveBytes HasByteKey (merged 2 fields) _ (merged-bytes 2 fields all) (λ aes_message within.
    next HasByteKey HasByteKey (plain aes_ctr_fields aes_message) _ (plain-bytes aes_ctr_fields aes_message within) (λ aes is.
    skip HasByteKey (merged 3 fields) _ (λ mac_message.
    skip HasByteKey (plain hmac_fields mac_message) _ (λ mac.
    given HasByteKey _ is)))))

contents-bytes : (type : KeyType) (fields : List WireField) → AllHaveBytes fields → Gives HasByteKey (contents_in type fields)
contents-bytes type fields all = elim (form_of type) [
  | inl one ↦ subst (Gives HasByteKey) (sym (one.read fields)) (plain-bytes (layout_of type) fields all)
  | inr both ↦ subst (λ t. Gives HasByteKey (contents_in t fields)) (sym both) (ctr_hmac-bytes fields all)
]

-- ---- keys

-- the bytes of the cipher's key are bytes
abbrev pub IsOfBytes : KeyKind → Type 0
IsOfBytes key = AreBytes (contents_of key).key

from-bytes : (type : KeyType) (m : Contents) (key : KeyKind) → HasByteKey m → (read : Result KeyKind Rule) → IfOk read (IsFrom type m) → read ≡ Ok key → IsOfBytes key
from-bytes type m key are (Ok k) from is = let same : k ≡ key = cc in subst IsOfBytes same (subst AreBytes (sym from.value) are)
from-bytes type m key are (Err rule) from is = cc

checked-bytes : (broken : Option Rule) (type : KeyType) (m : Contents) (key : KeyKind) → HasByteKey m → unless_broken broken (key_from type m) ≡ Ok key → IsOfBytes key
checked-bytes None type m key are is = from-bytes type m key are (key_from type m) (key_from-is type m) is
checked-bytes (Some rule) type m key are is = cc

formed-bytes : (type : KeyType) (read : Result Contents ℕ) (key : KeyKind) → Gives HasByteKey read → and_checked type (formed read) ≡ Ok key → IsOfBytes key
formed-bytes type (Ok m) key gives is = checked-bytes (first_broken type m) type m key (gives.has m refl) is
formed-bytes type (Err place) key gives is = cc

pub message-bytes : (type : KeyType) (value : List ℕ) (key : KeyKind) → AreBytes value → key_of type value ≡ Ok key → IsOfBytes key
unfolding key_of
message-bytes type value key all is =
    formed-bytes type (cut 0 value >>= contents_in type) key (next AllHaveBytes HasByteKey (cut 0 value) (contents_in type) (cut-bytes 0 value all) (contents-bytes type)) is
