-- The binary form of a keyset reads back.
use Rattle.std.proofs.Common.{◌≡◌, ap, sym, refl, ℕ, ◌+◌, ◌<◌, ◌^◌, ◌==◌, Bool, true, false, ◌&&◌, List, [], ◌∷◌, ◌++◌, length, map, arith, lit<, lit≤, inl, inr, None, Ok}
use Rattle.std.specs.List.{AllByRecursion}
use Rattle.std.specs.Str.{is_utf8}
use Rattle.std.proofs.lemmas.Bool.{true≢false}
use Rattle.std.proofs.lemmas.Bool.Decides.{eqb_tells, nat_tests}
use Rattle.tink_spec.specs.Wire.{WireField, cut}
use Rattle.tink_spec.specs.Messages.{of_number, last_number, number_in, bytes_in, text_in, merged}
use Rattle.proto_wire.specs.Written.{uint32, content, varint_of, tag_of, written, written_all, bytes_from, fields_of, fields_of_all}
use Rattle.proto_wire.proofs.ReadBack.{AreWritable, cut-all, number-back, content-back, message-back}
use Rattle.keyset_model.specs.declared.record.Record.{Record}
use Rattle.keyset_model.specs.Keyset.{Keys, IsKnown, is_bare, fault_of}
use Rattle.keyset_model.specs.WellFormed.{HasData}
use Rattle.keyset_model.specs.Reading.{record_of, key_of, fault_at, records_in, reads_binary}
use Rattle.keyset_model.specs.Writing.{data_entries, record_entries, record_written, key_entry, keys_entries, binary_of, HasWireBounds, BinaryBack}
use Rattle.keyset_model.proofs.WellFormedLemmas.{all_known, all_data}
use Rattle.keyset_model.proofs.PrimaryLemmas.{primary_same}
use Rattle.keyset_model.proofs.WritingLemmas.{length-data, length-record}

-- a record that can be written, with its numbers and its text
record IsWire (r : Record) : Type 0 where
  status : r.status < 2 ^ 32
  prefix : r.prefix < 2 ^ 32
  material : r.material < 2 ^ 32
  bounds : HasWireBounds r

each_wire : (records : List Record) → AllByRecursion IsKnown records → AllByRecursion HasData records → AllByRecursion HasWireBounds records → AllByRecursion IsWire records
each_wire [] known has bounds = tt
each_wire (r ∷ records) known has bounds = (
  record {
    status = omega (arith, known.0.most_status);
    prefix = omega (arith, known.0.most_prefix);
    material = omega (arith, has.0.most_material);
    bounds = bounds.0;
  },
  each_wire records known.1 has.1 bounds.1,
)

-- ---- the record of a `Key` message

no_length : (l : List ℕ) → length l ≡ 0 → l ≡ []
no_length [] none = refl
no_length (b ∷ l) none = absurd (omega arith)

record-of : (fields data' : List WireField) (r : Record) (a b : ℕ) → merged 1 fields ≡ Ok data' → text_in 1 data' ≡ Ok (a, r.url) → bytes_in 2 data' ≡ Ok (b, r.value) → number_in 3 data' ≡ Ok r.material
    → number_in 2 fields ≡ Ok r.status → number_in 3 fields ≡ Ok r.id → number_in 4 fields ≡ Ok r.prefix → record_of fields ≡ Ok r
unfolding record_of
record-of fields data' r a b inner url value material status id prefix = rw (inner, url, value, material, status, id, prefix) refl

-- behind the URL no field has its number
no_url : (at : ℕ) (value : List ℕ) (material : ℕ) → of_number 1 (fields_of_all at (content 2 value ∷ uint32 3 material ∷ [])) ≡ []
no_url at value material = elim (eqb_tells (length value) 0) [
  | inl none ↦ elim (eqb_tells material 0) [
    | inl zero ↦ rw (none.0, zero.0) refl
    | inr more ↦ rw (none.0, more.0) refl
  ]
  | inr some ↦ elim (eqb_tells material 0) [
    | inl zero ↦ rw (some.0, zero.0) refl
    | inr more ↦ rw (some.0, more.0) refl
  ]
]

-- the text of a field before others that have another number
text_before : (at : ℕ) (text : List ℕ) (rest : List WireField) → of_number 1 rest ≡ [] → is_utf8 text ≡ true → (start : ℕ) × (text_in 1 (fields_of at (content 1 text) ++ rest) ≡ Ok (start, text))
text_before at text rest others utf8 = elim (eqb_tells (length text) 0) [
  | inl none ↦ (0, rw (none.0, others) (ap (λ (l : List ℕ). Ok (0, l)) (sym (no_length text none.1))))
  | inr some ↦ (at + length (tag_of 1 2) + length (varint_of (length text)), rw (some.0, others, utf8) refl)
]

url-back : (at : ℕ) (r : Record) → is_utf8 r.url ≡ true → (start : ℕ) × (text_in 1 (fields_of_all at (data_entries r)) ≡ Ok (start, r.url))
url-back at r utf8 =
    let behind = at + length (written (content 1 r.url)) in
    text_before at r.url (fields_of_all behind (content 2 r.value ∷ uint32 3 r.material ∷ [])) (no_url behind r.value r.material) utf8

-- what is written can be
data-are : (r : Record) → IsWire r → AreWritable (data_entries r)
data-are r is = (((lit< tt, lit≤ tt), omega (arith, is.bounds.short)), (((lit< tt, lit≤ tt), omega (arith, is.bounds.short)), (((lit< tt, lit≤ tt), is.material), tt)))

full-are : (r : Record) → IsWire r → is_bare r ≡ false → AreWritable (record_entries r)
full-are r is full = rw full (((lit< tt, lit≤ tt), omega (arith, is.bounds.short, length-data r)), (((lit< tt, lit≤ tt), is.status), (((lit< tt, lit≤ tt), is.bounds.id), (((lit< tt, lit≤ tt), is.prefix), tt))))

bare-are : (r : Record) → IsWire r → is_bare r ≡ true → AreWritable (record_entries r)
bare-are r is bare = rw bare (((lit< tt, lit≤ tt), is.status), (((lit< tt, lit≤ tt), is.bounds.id), (((lit< tt, lit≤ tt), is.prefix), tt)))

-- a record with key data
full-back : (start : ℕ) (r : Record) → IsWire r → is_bare r ≡ false → record_of (fields_of_all start (record_entries r)) ≡ Ok r
full-back start r is full =
    let entries = record_entries r in
    let data' = data_entries r in
    let inner = message-back 1 start entries data' (rw full refl) (data-are r is) in
    let url = url-back inner.0 r is.bounds.utf8 in
    let value = content-back 2 inner.0 data' r.value refl in
    record-of (fields_of_all start entries) (fields_of_all inner.0 data') r url.0 value.0 inner.1 url.1 value.1
    (number-back 3 inner.0 data' r.material refl is.material)
    (number-back 2 start entries r.status (rw full refl) is.status)
    (number-back 3 start entries r.id (rw full refl) is.bounds.id)
    (number-back 4 start entries r.prefix (rw full refl) is.prefix)

-- a bare one
record IsBare (r : Record) : Type 0 where
  url : r.url ≡ []
  value : r.value ≡ []
  material : r.material ≡ 0

bare_of : (r : Record) (a b c : Bool) → (length r.url == 0) ≡ a → (length r.value == 0) ≡ b → (r.material == 0) ≡ c → (a && b && c) ≡ true → IsBare r
bare_of r true true true url value material bare = record {
  url = no_length r.url (grind (arith, nat_tests));
  value = no_length r.value (grind (arith, nat_tests));
  material = grind (arith, nat_tests);
}
bare_of r true true false url value material bare = absurd (true≢false (sym bare))
bare_of r true false c url value material bare = absurd (true≢false (sym bare))
bare_of r false b c url value material bare = absurd (true≢false (sym bare))

bare-back : (start : ℕ) (r : Record) → IsWire r → is_bare r ≡ true → record_of (fields_of_all start (record_entries r)) ≡ Ok r
bare-back start r is bare =
    let entries = record_entries r in
    let none = bare_of r _ _ _ refl refl refl bare in
    let inner = message-back 1 start entries [] (rw bare refl) tt in
    record-of (fields_of_all start entries) [] r 0 0 inner.1
    (ap (λ (l : List ℕ). Ok (0, l)) (sym none.url))
    (ap (λ (l : List ℕ). Ok (0, l)) (sym none.value))
    (ap (λ (n : ℕ). Ok n) (sym none.material))
    (number-back 2 start entries r.status (rw bare refl) is.status)
    (number-back 3 start entries r.id (rw bare refl) is.bounds.id)
    (number-back 4 start entries r.prefix (rw bare refl) is.prefix)

message-of : (start : ℕ) (r : Record) (bare : Bool) → is_bare r ≡ bare → IsWire r → AreWritable (record_entries r) × (record_of (fields_of_all start (record_entries r)) ≡ Ok r)
message-of start r true bare is = (bare-are r is bare, bare-back start r is bare)
message-of start r false full is = (full-are r is full, full-back start r is full)

key-back : (at : ℕ) (r : Record) → IsWire r → key_of (bytes_from at 2 (record_written r)) ≡ Ok r
unfolding key_of
key-back at r is =
    let start = at + length (tag_of 2 2) + length (varint_of (length (record_written r))) in
    let read = message-of start r _ refl is in
    rw (cut-all start (record_entries r) read.0, read.1) refl

-- ---- the fields of a `Keyset` message

keys-are : (records : List Record) → AllByRecursion IsWire records → AreWritable (map key_entry records)
keys-are [] all = tt
keys-are (r ∷ records) all = (((lit< tt, lit≤ tt), omega (arith, all.0.bounds.short, length-record r)), keys-are records all.1)

no_primary : (at : ℕ) (records : List Record) → of_number 1 (fields_of_all at (map key_entry records)) ≡ []
no_primary at [] = refl
no_primary at (r ∷ records) = no_primary (at + length (written (key_entry r))) records

no_fault : (at : ℕ) (records : List Record) → AllByRecursion IsWire records → fault_at (fields_of_all at (map key_entry records)) ≡ None
no_fault at [] all = refl
no_fault at (r ∷ records) all = rw (key-back at r all.0) (no_fault (at + length (written (key_entry r))) records all.1)

records-back : (at : ℕ) (records : List Record) → AllByRecursion IsWire records → records_in (fields_of_all at (map key_entry records)) ≡ records
records-back at [] all = refl
records-back at (r ∷ records) all = rw (key-back at r all.0) (ap (λ (l : List Record). r ∷ l) (records-back (at + length (written (key_entry r))) records all.1))

-- the same behind the primary id
record AreRead (fields : List WireField) (keys : Keys) : Type 0 where
  fault : fault_at fields ≡ None
  primary : last_number (of_number 1 fields) ≡ keys.primary
  records : records_in fields ≡ keys.records

primary_before : (keys : Keys) (rest : List WireField) → keys.primary < 2 ^ 32 → fault_at rest ≡ None → of_number 1 rest ≡ [] → records_in rest ≡ keys.records → AreRead (fields_of 0 (uint32 1 keys.primary) ++ rest) keys
primary_before keys rest below fault others records = elim (eqb_tells keys.primary 0) [
  | inl none ↦ record {
    fault = rw none.0 fault;
    primary = rw (none.0, others) (sym none.1);
    records = rw none.0 records;
  }
  | inr some ↦ record {
    fault = rw some.0 fault;
    primary = rw (some.0, others) (omega arith);
    records = rw some.0 records;
  }
]

fields-read : (keys : Keys) → keys.primary < 2 ^ 32 → AllByRecursion IsWire keys.records → AreRead (fields_of_all 0 (keys_entries keys)) keys
fields-read keys below all =
    let behind = 0 + length (written (uint32 1 keys.primary)) in
    primary_before keys (fields_of_all behind (map key_entry keys.records)) below (no_fault behind keys.records all) (no_primary behind keys.records) (records-back behind keys.records all)

keys-read : (bytes : List ℕ) (fields : List WireField) (keys : Keys) → cut 0 bytes ≡ Ok fields → AreRead fields keys → fault_of keys ≡ None → reads_binary bytes ≡ Ok keys
unfolding reads_binary
keys-read bytes fields keys is read faultless = rw (is, read.fault, read.primary, read.records, faultless) refl

pub binary-back : BinaryBack
unfolding binary_of
binary-back keys faultless bounds =
    let all = each_wire keys.records (all_known keys faultless) (all_data keys faultless) bounds in
    let there = primary_same HasWireBounds keys faultless bounds in
    let below : keys.primary < 2 ^ 32 = omega (arith, there.1.id, there.2) in
    let are : AreWritable (keys_entries keys) = (((lit< tt, lit≤ tt), below), keys-are keys.records all) in
    keys-read (written_all (keys_entries keys)) (fields_of_all 0 (keys_entries keys)) keys (cut-all 0 (keys_entries keys) are) (fields-read keys below all) faultless
