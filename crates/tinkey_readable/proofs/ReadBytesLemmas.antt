-- What is read of bytes is held by the types: in the binary form its values are bytes too.
use Rattle.std.proofs.Common.{◌≡◌, ap, refl, sym, subst, ℕ, suc, ◌+◌, ◌<◌, ◌==◌, Bool, true, false, List, [], ◌∷◌, ◌++◌, length, arith, Option, Some, None, Ok, Err, Result}
use Rattle.std.specs.Prelude.{filter, fold, slice_index}
use Rattle.std.specs.List.{AllByRecursion, filter_map}
use Rattle.std.specs.Result.{result_ok}
use Rattle.tink_spec.specs.Wire.{Payload, varint, eight, bytes, four, WireField, SpellsField, IsCutInto, cut}
use Rattle.tink_spec.specs.Messages.{is_bytes, of_number, first_other, unless_at, at_place, joined, ◌>>=◌, later_bytes, last_bytes, number_in, bytes_in, text_in, embedded, embedded_all, merged}
use Rattle.proto_wire.proofs.Cuts.{cut-spells}
use Rattle.keyset_model.specs.declared.keyset.KeysetRefusal.{KeysetRefusal}
use Rattle.keyset_model.specs.declared.record.Record.{Record}
use Rattle.keyset_json.specs.Reading.{reads_json}
use Rattle.keyset_json.specs.Stored.{JsonIsShort, JsonIsStored}
use Rattle.keyset_json.specs.Writing.{HasJsonBounds}
use Rattle.keyset_model.specs.Keyset.{IsShort, Keys, fault_of, unless_fault}
use Rattle.keyset_model.specs.Reading.{record_of, key_of, fault_at, keys_in, without_fault, well_formed, reads_binary}
use Rattle.keyset_model.specs.Writing.{HasWireBounds, ReadKeysFit}
use Rattle.tinkey_session.specs.HeldLaws.{AreBytes, AreStored, IsStored}
use Rattle.tinkey_readable.proofs.RunLemmas.{ok_of}
use Rattle.tinkey_readable.specs.Runs.{ReadIsStored, read_in}
use Rattle.tinkey_words.specs.declared.words.rows.Format.{Format}
use Rattle.tinkey_words.specs.declared.words.rows.Format.TheVariants as formats

-- ---- answers, taken apart

then-ok : {A B : Type 0} (read : Result A ℕ) (next : A → Result B ℕ) (b : B) → (read >>= next) ≡ Ok b → (a : A) × (read ≡ Ok a) × (next a ≡ Ok b)
then-ok (Ok a) next b is = (a, refl, is)
then-ok (Err place) next b is = cc

unless-ok : {A : Type 0} (place : Option ℕ) (value given : A) → unless_at place value ≡ Ok given → (place ≡ None) × (value ≡ given)
unless-ok (Some at) value given is = cc
unless-ok None value given is = (refl, cc)

place-ok : {A : Type 0} (place : ℕ) (read : Result A ℕ) (value : A) → at_place place read ≡ Ok value → read ≡ Ok value
place-ok place (Ok a) value is = is
place-ok place (Err inside) value is = cc

joined-ok : (front rest : Result (List WireField) ℕ) (all : List WireField) → joined front rest ≡ Ok all → (xs : List WireField) × (ys : List WireField) × (front ≡ Ok xs) × (rest ≡ Ok ys) × (xs ++ ys ≡ all)
joined-ok (Ok xs) (Ok ys) all is = (xs, ys, refl, refl, cc)
joined-ok (Ok xs) (Err place) all is = cc
joined-ok (Err place) rest all is = cc

-- ---- parts of bytes

front_bytes : (xs ys : List ℕ) → AreBytes (xs ++ ys) → AreBytes xs
front_bytes [] ys all = tt
front_bytes (x ∷ xs) ys all = (all.0, front_bytes xs ys all.1)

back_bytes : (xs ys : List ℕ) → AreBytes (xs ++ ys) → AreBytes ys
back_bytes [] ys all = all
back_bytes (x ∷ xs) ys all = back_bytes xs ys all.1

both : {A : Type 0} (P : A → Type 0) (xs ys : List A) → AllByRecursion P xs → AllByRecursion P ys → AllByRecursion P (xs ++ ys)
both P [] ys front back = back
both P (x ∷ xs) ys front back = (front.0, both P xs ys front.1 back)

kept_here : {A : Type 0} (P : A → Type 0) (p : A → Bool) (x : A) (xs : List A) (b : Bool) → p x ≡ b → P x → AllByRecursion P (filter p xs) → AllByRecursion P (filter p (x ∷ xs))
kept_here P p x xs true test here rest = rw test (here, rest)
kept_here P p x xs false test here rest = rw test rest

kept : {A : Type 0} (P : A → Type 0) (p : A → Bool) (xs : List A) → AllByRecursion P xs → AllByRecursion P (filter p xs)
kept P p [] all = tt
kept P p (x ∷ xs) all = kept_here P p x xs _ refl all.0 (kept P p xs all.1)

-- ---- payloads

-- the bytes of a payload
abbrev bytes_of : Payload → List ℕ
bytes_of (bytes start content) = content
bytes_of _ = []

record HasBytes (field : WireField) : Type 0 where
  are : AreBytes (bytes_of field.payload)

bytes-spelled : (spelling : List ℕ) (field : WireField) (payload : Payload) → field.payload ≡ payload → SpellsField spelling field → AreBytes spelling → AreBytes (bytes_of payload)
bytes-spelled spelling field (varint value) is spells all = tt
bytes-spelled spelling field eight is spells all = tt
bytes-spelled spelling field four is spells all = tt
bytes-spelled spelling field (bytes start content) is spells all =
    let spelled = rw is at spells.spelled in
    let behind = back_bytes spells.tag spells.behind (subst AreBytes (sym spells.whole) all) in
    back_bytes spelled.0 content (subst AreBytes (sym spelled.2) behind)

bytes-cut : (at : ℕ) (part : List ℕ) (fields : List WireField) → IsCutInto at part fields → AreBytes part → AllByRecursion HasBytes fields
bytes-cut at part [] is all = tt
bytes-cut at part (field ∷ fields) is all =
    let whole = subst AreBytes (sym is.2) all in
    (record { are = bytes-spelled is.0 field field.payload refl is.4 (front_bytes is.0 is.1 whole) }, bytes-cut (at + length is.0) is.1 fields is.5 (back_bytes is.0 is.1 whole))

cut-bytes : (at : ℕ) (part : List ℕ) (fields : List WireField) → AreBytes part → cut at part ≡ Ok fields → AllByRecursion HasBytes fields
cut-bytes at part fields all is = bytes-cut at part fields (cut-spells at part fields is) all

embedded-bytes : (payload : Payload) (fields : List WireField) → AreBytes (bytes_of payload) → embedded payload ≡ Ok fields → AllByRecursion HasBytes fields
embedded-bytes (bytes start content) fields all is = cut-bytes start content fields all is
embedded-bytes (varint value) fields all is = cc
embedded-bytes eight fields all is = cc
embedded-bytes four fields all is = cc

all-bytes : (these fields : List WireField) → AllByRecursion HasBytes these → embedded_all these ≡ Ok fields → AllByRecursion HasBytes fields
all-bytes [] fields all is = let none : Ok [] ≡ Ok fields = is in let same : [] ≡ fields = cc in subst (AllByRecursion HasBytes) same tt
all-bytes (field ∷ these) fields all is =
    let parts = joined-ok (at_place field.at (embedded field.payload)) (embedded_all these) fields is in
    let first = embedded-bytes field.payload parts.0 all.0.are (place-ok field.at (embedded field.payload) parts.0 parts.2) in
    let rest = all-bytes these parts.1 all.1 parts.3 in
    subst (AllByRecursion HasBytes) parts.4 (both HasBytes parts.0 parts.1 first rest)

later_all : (payload : Payload) (before : ℕ × List ℕ) → AreBytes before.1 → AreBytes (bytes_of payload) → AreBytes (later_bytes before payload).1
later_all (bytes start content) before are all = all
later_all (varint value) before are all = are
later_all eight before are all = are
later_all four before are all = are

last-all : (these : List WireField) (before : ℕ × List ℕ) → AreBytes before.1 → AllByRecursion HasBytes these → AreBytes (fold (λ before field. later_bytes before field.payload) before these).1
last-all [] before are all = are
last-all (field ∷ these) before are all = last-all these (later_bytes before field.payload) (later_all field.payload before are all.0.are) all.1

value-bytes : (number : ℕ) (fields : List WireField) (value : ℕ × List ℕ) → AllByRecursion HasBytes fields → bytes_in number fields ≡ Ok value → AreBytes value.1
value-bytes number fields value all is =
    let these = of_number number fields in
    let parts = unless-ok (first_other is_bytes these) (last_bytes these) value is in
    subst (λ (t : ℕ × List ℕ). AreBytes t.1) parts.1 (last-all these (0, []) tt (kept HasBytes (λ field. field.number == number) fields all))

-- ---- records

abbrev HasByteValue : Record → Type 0
HasByteValue r = AreBytes r.value

record-bytes : (fields : List WireField) (r : Record) → AllByRecursion HasBytes fields → record_of fields ≡ Ok r → HasByteValue r
unfolding record_of
record-bytes fields r all is =
    let data' = then-ok (merged 1 fields) _ r is in
    let within = all-bytes (of_number 1 fields) data'.0 (kept HasBytes (λ field. field.number == 1) fields all) data'.1 in
    let url = then-ok (text_in 1 data'.0) _ r data'.2 in
    let value = then-ok (bytes_in 2 data'.0) _ r url.2 in
    let material = then-ok (number_in 3 data'.0) _ r value.2 in
    let status = then-ok (number_in 2 fields) _ r material.2 in
    let id = then-ok (number_in 3 fields) _ r status.2 in
    let prefix = then-ok (number_in 4 fields) _ r id.2 in
    let whole : record { id = id.0; status = status.0; prefix = prefix.0; url = url.0.1; value = value.0.1; material = material.0 } ≡ r = let last = prefix.2 in cc in
    subst HasByteValue whole (value-bytes 2 data'.0 value.0 within value.1)

key-bytes : (field : WireField) (r : Record) → HasBytes field → key_of field ≡ Ok r → HasByteValue r
unfolding key_of
key-bytes field r all is =
    let inner = then-ok (embedded field.payload) record_of r (place-ok field.at _ r is) in
    record-bytes inner.0 r (embedded-bytes field.payload inner.0 all.are inner.1) inner.2

keys_here : (P : Record → Type 0) (field : WireField) (these : List WireField) (read : Result Record ℕ) → key_of field ≡ read → ((r : Record) → key_of field ≡ Ok r → P r) → AllByRecursion P (filter_map (λ field. result_ok (key_of field)) these)
    → AllByRecursion P (filter_map (λ field. result_ok (key_of field)) (field ∷ these))
keys_here P field these (Ok r) is here rest = rw is (here r is, rest)
keys_here P field these (Err place) is here rest = rw is rest

keys-bytes : (these : List WireField) → AllByRecursion HasBytes these → AllByRecursion HasByteValue (filter_map (λ field. result_ok (key_of field)) these)
keys-bytes [] all = tt
keys-bytes (field ∷ these) all = keys_here HasByteValue field these _ refl (λ r is. key-bytes field r all.0 is) (keys-bytes these all.1)

-- ---- keys

unless_fault-ok : (fault : Option KeysetRefusal) (keys given : Keys) → without_fault (unless_fault fault keys) ≡ Ok given → keys ≡ given
unless_fault-ok (Some fault) keys given is = cc
unless_fault-ok None keys given is = cc

formed-ok : (read : Result Keys ℕ) (given : Keys) → well_formed read ≡ Ok given → read ≡ Ok given
formed-ok (Err place) given is = cc
formed-ok (Ok keys) given is = ap (λ (k : Keys). Ok k) (unless_fault-ok (fault_of keys) keys given is)

read-bytes : (source : List ℕ) (keys : Keys) → AreBytes source → reads_binary source ≡ Ok keys → AllByRecursion HasByteValue keys.records
unfolding reads_binary
read-bytes source keys all read =
    let fields = then-ok (cut 0 source) keys_in keys (formed-ok (cut 0 source >>= keys_in) keys read) in
    let each = cut-bytes 0 source fields.0 all fields.1 in
    let parts = unless-ok (fault_at fields.0) _ keys fields.2 in
    subst (λ (k : Keys). AllByRecursion HasByteValue k.records) parts.1 (keys-bytes (of_number 2 fields.0) (kept HasBytes (λ field. field.number == 2) fields.0 each))

-- bytes by their places, one after another
bytes_from : (value : List ℕ) → ((i : ℕ) → slice_index value i < 256) → AreBytes value
bytes_from [] h = tt
bytes_from (b ∷ value) h = (h 0, bytes_from value (λ i. h (suc i)))

stored_both : (rs : List Record) → AllByRecursion HasWireBounds rs → AllByRecursion HasByteValue rs → AllByRecursion IsStored rs
stored_both [] held all = tt
stored_both (r ∷ rs) held all = (record { held = held.0; bytes = all.0 }, stored_both rs held.1 all.1)

held_by_json : (rs : List Record) → AllByRecursion HasJsonBounds rs → AllByRecursion IsShort rs → AllByRecursion IsStored rs
held_by_json [] held short = tt
held_by_json (r ∷ rs) held short = (record { held = record { id = held.0.id; utf8 = held.0.utf8; short = (let s = short.0 in omega (arith, s)) }; bytes = bytes_from r.value held.0.bytes }, held_by_json rs held.1 short.1)

pub read_is_stored : ReadKeysFit → JsonIsStored → JsonIsShort → ReadIsStored
read_is_stored fit stored short written keys holds within e = by_form written.form e
  where
    by_form : (form : Format) → read_in form written.bytes ≡ Some keys → AreStored keys
    by_form formats.Json e =
        let read = ok_of (reads_json written.bytes) keys e in
        held_by_json keys.records (stored written.bytes keys read).2 (short written.bytes keys (omega (arith, within)) read)
    by_form formats.Binary e =
        let read = ok_of (reads_binary written.bytes) keys e in
        stored_both keys.records (fit written.bytes keys (omega (arith, within)) read).1 (read-bytes written.bytes keys holds read)
