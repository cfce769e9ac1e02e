-- What is read has no fault, and its numbers, texts and sizes are bounded: no byte is read twice.
use Rattle.std.proofs.Common.{◌≡◌, ◌≢◌, ap, refl, subst, ℕ, ◌+◌, ◌<◌, ◌≤◌, ◌^◌, ◌==◌, Bool, true, false, List, [], ◌∷◌, ◌++◌, length, arith, Option, Some, None, Ok, Err, Result, inl, inr}
use Rattle.std.specs.Prelude.{filter, fold}
use Rattle.std.specs.List.{AllByRecursion, filter_map}
use Rattle.std.specs.Result.{result_ok}
use Rattle.std.specs.Str.{is_utf8, chars}
use Rattle.std.proofs.lemmas.Bool.{eqb-true}
use Rattle.std.proofs.lemmas.Bool.Decides.{eqb_tells}
use Rattle.std.proofs.lemmas.List.{length-append}
use Rattle.tink_spec.specs.Wire.{Payload, varint, eight, bytes, four, WireField, SpellsField, IsCutInto, cut}
use Rattle.tink_spec.specs.Messages.{is_bytes, is_text, of_number, first_other, unless_at, at_place, joined, ◌>>=◌, later_bytes, last_bytes, last_number, number_in, bytes_in, text_in, embedded, embedded_all, merged}
use Rattle.proto_wire.proofs.Cuts.{cut-spells}
use Rattle.keyset_model.specs.declared.keyset.KeysetRefusal.{KeysetRefusal}
use Rattle.keyset_model.specs.declared.record.Record.{Record}
use Rattle.keyset_model.specs.Keyset.{Keys, IsShort, fault_of, unless_fault}
use Rattle.keyset_model.specs.Reading.{record_of, key_of, fault_at, keys_in, without_fault, well_formed, reads_binary}
use Rattle.keyset_model.specs.Writing.{ReadKeysFit, ReadWithin}

-- ---- answers, taken apart

then-ok : {A B : Type 0} (read : Result A ℕ) (next : A → Result B ℕ) (b : B) → (read >>= next) ≡ Ok b → (a : A) × (read ≡ Ok a) × (next a ≡ Ok b)
then-ok (Ok a) next b is = (a, refl, is)
then-ok (Err place) next b is = cc

unless-ok : {A : Type 0} (place : Option ℕ) (value given : A) → unless_at place value ≡ Ok given → (place ≡ None) × (value ≡ given)
unless-ok (Some at) value given is = cc
unless-ok None value given is = (refl, cc)

place-ok : {A : Type 0} (place : ℕ) (read : Result A ℕ) (value : A) → at_place place read ≡ Ok value → read ≡ Ok value
place-ok place (Ok a) value is = is
place-ok place (Err inside) value is = cc

joined-ok : (front rest : Result (List WireField) ℕ) (all : List WireField) → joined front rest ≡ Ok all → (xs : List WireField) × (ys : List WireField) × (front ≡ Ok xs) × (rest ≡ Ok ys) × (xs ++ ys ≡ all)
joined-ok (Ok xs) (Ok ys) all is = (xs, ys, refl, refl, cc)
joined-ok (Ok xs) (Err place) all is = cc
joined-ok (Err place) rest all is = cc

-- ---- the sizes of payloads

abbrev size_of : Payload → ℕ
size_of (bytes start content) = length content
size_of _ = 0

-- the bytes of all payloads
abbrev sizes : List WireField → ℕ
sizes [] = 0
sizes (field ∷ fields) = size_of field.payload + sizes fields

sizes-append : (xs ys : List WireField) → sizes (xs ++ ys) ≡ sizes xs + sizes ys
sizes-append [] ys = omega arith
sizes-append (x ∷ xs) ys = omega (arith, sizes-append xs ys)

-- what two tests take, of which none takes what the other does
parted_here : (p q : WireField → Bool) (x : WireField) (xs : List WireField) (a b : Bool) → p x ≡ a → q x ≡ b → (a ≡ true → b ≡ false) → sizes (filter p xs) + sizes (filter q xs) ≤ sizes xs
    → sizes (filter p (x ∷ xs)) + sizes (filter q (x ∷ xs)) ≤ sizes (x ∷ xs)
parted_here p q x xs true true first second other rest = let clash : true ≡ false = other refl in absurd cc
parted_here p q x xs true false first second other rest = rw (first, second) (omega (arith, rest))
parted_here p q x xs false true first second other rest = rw (first, second) (omega (arith, rest))
parted_here p q x xs false false first second other rest = rw (first, second) (omega (arith, rest))

parted : (p q : WireField → Bool) (xs : List WireField) → ((x : WireField) → p x ≡ true → q x ≡ false) → sizes (filter p xs) + sizes (filter q xs) ≤ sizes xs
parted p q [] other = omega arith
parted p q (x ∷ xs) other = parted_here p q x xs _ _ refl refl (other x) (parted p q xs other)

-- no field has two numbers
two_numbers : (a b : ℕ) → a ≢ b → (x : WireField) → (x.number == a) ≡ true → (x.number == b) ≡ false
two_numbers a b other x is = elim (eqb_tells x.number b) [
  | inl same ↦ absurd (other (omega (arith, eqb-true _ _ is, same.1)))
  | inr none ↦ none.0
]

of_two : (a b : ℕ) (fields : List WireField) → a ≢ b → sizes (of_number a fields) + sizes (of_number b fields) ≤ sizes fields
of_two a b fields other = parted (λ field. field.number == a) (λ field. field.number == b) fields (two_numbers a b other)

size-spelled : (spelling : List ℕ) (field : WireField) (payload : Payload) → field.payload ≡ payload → SpellsField spelling field → size_of payload ≤ length spelling
size-spelled spelling field (varint value) is spells = omega arith
size-spelled spelling field eight is spells = omega arith
size-spelled spelling field four is spells = omega arith
size-spelled spelling field (bytes start content) is spells =
    let spelled = rw is at spells.spelled in
    omega (arith, ap length spells.whole, length-append spells.tag spells.behind, ap length spelled.2, length-append spelled.0 content)

spelled-sizes : (at : ℕ) (part : List ℕ) (fields : List WireField) → IsCutInto at part fields → sizes fields ≤ length part
spelled-sizes at part [] is = omega arith
spelled-sizes at part (field ∷ fields) is =
    let spelling = is.0 in
    let rest = is.1 in
    let whole = ap length is.2 in
    omega (arith, length-append spelling rest, size-spelled spelling field field.payload refl is.4, spelled-sizes (at + length spelling) rest fields is.5)

cut-sizes : (at : ℕ) (part : List ℕ) (fields : List WireField) → cut at part ≡ Ok fields → sizes fields ≤ length part
cut-sizes at part fields is = spelled-sizes at part fields (cut-spells at part fields is)

embedded-sizes : (payload : Payload) (fields : List WireField) → embedded payload ≡ Ok fields → sizes fields ≤ size_of payload
embedded-sizes (bytes start content) fields is = cut-sizes start content fields is
embedded-sizes (varint value) fields is = cc
embedded-sizes eight fields is = cc
embedded-sizes four fields is = cc

all-sizes : (these fields : List WireField) → embedded_all these ≡ Ok fields → sizes fields ≤ sizes these
all-sizes [] fields is = let none : Ok [] ≡ Ok fields = is in let same : [] ≡ fields = cc in subst (λ (l : List WireField). sizes l ≤ 0) same (omega arith)
all-sizes (field ∷ these) fields is =
    let parts = joined-ok (at_place field.at (embedded field.payload)) (embedded_all these) fields is in
    let first = embedded-sizes field.payload parts.0 (place-ok field.at (embedded field.payload) parts.0 parts.2) in
    let rest = all-sizes these parts.1 parts.3 in
    subst (λ (l : List WireField). sizes l ≤ size_of field.payload + sizes these) parts.4 (omega (arith, first, rest, sizes-append parts.0 parts.1))

-- ---- the last bytes and the last text

later_size : (payload : Payload) (before : ℕ × List ℕ) → length (later_bytes before payload).1 ≤ length before.1 + size_of payload
later_size (bytes start content) before = omega arith
later_size (varint value) before = omega arith
later_size eight before = omega arith
later_size four before = omega arith

last-sizes : (these : List WireField) (before : ℕ × List ℕ) → length (fold (λ before field. later_bytes before field.payload) before these).1 ≤ length before.1 + sizes these
last-sizes [] before = omega arith
last-sizes (field ∷ these) before = omega (arith, later_size field.payload before, last-sizes these (later_bytes before field.payload))

text_here : (field : WireField) (these : List WireField) (b : Bool) → is_text field.payload ≡ b → first_other is_text (field ∷ these) ≡ None → (is_text field.payload ≡ true) × (first_other is_text these ≡ None)
text_here field these true is none = (is, rw is at none)
text_here field these false is none = let clash : Some field.at ≡ None = rw is at none in cc

later_text : (payload : Payload) (before : ℕ × List ℕ) → is_text payload ≡ true → is_utf8 (later_bytes before payload).1 ≡ true
later_text (bytes start content) before is = is
later_text (varint value) before is = cc
later_text eight before is = cc
later_text four before is = cc

last-text : (these : List WireField) (before : ℕ × List ℕ) → is_utf8 before.1 ≡ true → first_other is_text these ≡ None → is_utf8 (fold (λ before field. later_bytes before field.payload) before these).1 ≡ true
last-text [] before utf8 none = utf8
last-text (field ∷ these) before utf8 none =
    let here = text_here field these _ refl none in
    last-text these (later_bytes before field.payload) (later_text field.payload before here.0) here.1

no_text : is_utf8 [] ≡ true
unfolding is_utf8 chars
no_text = refl

number-below : (number : ℕ) (fields : List WireField) (value : ℕ) → number_in number fields ≡ Ok value → value < 2 ^ 32
number-below number fields value is =
    let parts = unless-ok _ (last_number (of_number number fields)) value is in
    omega (arith, parts.1)

text-bounds : (number : ℕ) (fields : List WireField) (text : ℕ × List ℕ) → text_in number fields ≡ Ok text → (length text.1 ≤ sizes (of_number number fields)) × (is_utf8 text.1 ≡ true)
text-bounds number fields text is =
    let these = of_number number fields in
    let parts = unless-ok (first_other is_text these) (last_bytes these) text is in
    let size : length (last_bytes these).1 ≤ sizes these = omega (arith, last-sizes these (0, [])) in
    let utf8 = last-text these (0, []) no_text parts.0 in
    (subst (λ (t : ℕ × List ℕ). length t.1 ≤ sizes these) parts.1 size, subst (λ (t : ℕ × List ℕ). is_utf8 t.1 ≡ true) parts.1 utf8)

bytes-bounds : (number : ℕ) (fields : List WireField) (value : ℕ × List ℕ) → bytes_in number fields ≡ Ok value → length value.1 ≤ sizes (of_number number fields)
bytes-bounds number fields value is =
    let these = of_number number fields in
    let parts = unless-ok (first_other is_bytes these) (last_bytes these) value is in
    let size : length (last_bytes these).1 ≤ sizes these = omega (arith, last-sizes these (0, [])) in
    subst (λ (t : ℕ × List ℕ). length t.1 ≤ sizes these) parts.1 size

-- ---- records

-- a record that is read of so many bytes
record IsReadOf (n : ℕ) (r : Record) : Type 0 where
  id : r.id < 2 ^ 32
  utf8 : is_utf8 r.url ≡ true
  sizes : length r.url + length r.value ≤ n

record-bounds : (fields : List WireField) (r : Record) → record_of fields ≡ Ok r → IsReadOf (sizes fields) r
unfolding record_of
record-bounds fields r is =
    let data' = then-ok (merged 1 fields) _ r is in
    let within = all-sizes (of_number 1 fields) data'.0 data'.1 in
    let url = then-ok (text_in 1 data'.0) _ r data'.2 in
    let value = then-ok (bytes_in 2 data'.0) _ r url.2 in
    let material = then-ok (number_in 3 data'.0) _ r value.2 in
    let status = then-ok (number_in 2 fields) _ r material.2 in
    let id = then-ok (number_in 3 fields) _ r status.2 in
    let prefix = then-ok (number_in 4 fields) _ r id.2 in
    let whole : record { id = id.0; status = status.0; prefix = prefix.0; url = url.0.1; value = value.0.1; material = material.0 } ≡ r = let last = prefix.2 in cc in
    let text = text-bounds 1 data'.0 url.0 url.1 in
    let content = bytes-bounds 2 data'.0 value.0 value.1 in
    subst (IsReadOf (sizes fields)) whole (record {
      id = number-below 3 fields id.0 id.1;
      utf8 = text.1;
      sizes = omega (arith, text.0, content, of_two 1 2 data'.0 (omega arith), within, of_two 1 2 fields (omega arith));
    })

key-bounds : (n : ℕ) (field : WireField) (r : Record) → size_of field.payload ≤ n → key_of field ≡ Ok r → IsReadOf n r
unfolding key_of
key-bounds n field r most is =
    let inner = then-ok (embedded field.payload) record_of r (place-ok field.at _ r is) in
    let within = record-bounds inner.0 r inner.2 in
    record { id = within.id; utf8 = within.utf8; sizes = omega (arith, within.sizes, embedded-sizes field.payload inner.0 inner.1) }

keys_here : (P : Record → Type 0) (field : WireField) (these : List WireField) (read : Result Record ℕ) → key_of field ≡ read → ((r : Record) → key_of field ≡ Ok r → P r) → AllByRecursion P (filter_map (λ field. result_ok (key_of field)) these)
    → AllByRecursion P (filter_map (λ field. result_ok (key_of field)) (field ∷ these))
keys_here P field these (Ok r) is here rest = rw is (here r is, rest)
keys_here P field these (Err place) is here rest = rw is rest

keys-bounds : (n : ℕ) (these : List WireField) → sizes these ≤ n → AllByRecursion (IsReadOf n) (filter_map (λ field. result_ok (key_of field)) these)
keys-bounds n [] most = tt
keys-bounds n (field ∷ these) most = keys_here (IsReadOf n) field these _ refl (λ r is. key-bounds n field r (omega (arith, most)) is) (keys-bounds n these (omega (arith, most)))

-- ---- keys

unless_fault-ok : (fault : Option KeysetRefusal) (keys given : Keys) → without_fault (unless_fault fault keys) ≡ Ok given → (fault ≡ None) × (keys ≡ given)
unless_fault-ok (Some fault) keys given is = cc
unless_fault-ok None keys given is = (refl, cc)

formed-ok : (read : Result Keys ℕ) (given : Keys) → well_formed read ≡ Ok given → (read ≡ Ok given) × (fault_of given ≡ None)
formed-ok (Err place) given is = cc
formed-ok (Ok keys) given is =
    let parts = unless_fault-ok (fault_of keys) keys given is in
    (ap (λ (k : Keys). Ok k) parts.1, subst (λ (k : Keys). fault_of k ≡ None) parts.1 parts.0)

read-bounds : (source : List ℕ) (keys : Keys) → reads_binary source ≡ Ok keys → (fault_of keys ≡ None) × AllByRecursion (IsReadOf (length source)) keys.records
unfolding reads_binary
read-bounds source keys read =
    let formed = formed-ok (cut 0 source >>= keys_in) keys read in
    let fields = then-ok (cut 0 source) keys_in keys formed.0 in
    let parts = unless-ok (fault_at fields.0) _ keys fields.2 in
    let most : sizes (of_number 2 fields.0) ≤ length source = omega (arith, cut-sizes 0 source fields.0 fields.1, of_two 2 1 fields.0 (omega arith)) in
    (formed.1, subst (λ (k : Keys). AllByRecursion (IsReadOf (length source)) k.records) parts.1 (keys-bounds (length source) (of_number 2 fields.0) most))

each : {A : Type 0} {P Q : A → Type 0} (xs : List A) → ((x : A) → P x → Q x) → AllByRecursion P xs → AllByRecursion Q xs
each [] f all = tt
each (x ∷ xs) f all = (f x all.0, each xs f all.1)

pub read-fits : ReadKeysFit
read-fits source keys few read =
    let bounds = read-bounds source keys read in
    (bounds.0, each keys.records (λ r is. record { id = is.id; utf8 = is.utf8; short = omega (arith, is.sizes) }) bounds.1)

-- what was read can be written
pub read-short : (source : List ℕ) (keys : Keys) → length source ≤ 2 ^ 30 → reads_binary source ≡ Ok keys → AllByRecursion IsShort keys.records
read-short source keys few read = each keys.records (λ r is. omega (arith, is.sizes)) (read-bounds source keys read).1

pub read-within : ReadWithin
read-within source keys read = each keys.records (λ r is. is.sizes) (read-bounds source keys read).1
