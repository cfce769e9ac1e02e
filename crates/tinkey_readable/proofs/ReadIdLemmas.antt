-- Ids that are read of the binary form are words, however long it is.
use Rattle.std.proofs.Common.{◌≡◌, ap, refl, subst, ℕ, ◌<◌, ◌^◌, List, [], ◌∷◌, arith, Option, Some, None, Ok, Err, Result}
use Rattle.std.specs.List.{AllByRecursion, filter_map}
use Rattle.std.specs.Result.{result_ok}
use Rattle.tink_spec.specs.Wire.{WireField, cut}
use Rattle.tink_spec.specs.Messages.{of_number, unless_at, at_place, ◌>>=◌, last_number, number_in, bytes_in, text_in, embedded, merged}
use Rattle.keyset_model.specs.declared.keyset.KeysetRefusal.{KeysetRefusal}
use Rattle.keyset_model.specs.declared.record.Record.{Record}
use Rattle.keyset_model.specs.Keyset.{Keys, fault_of, unless_fault}
use Rattle.keyset_model.specs.Reading.{record_of, key_of, fault_at, keys_in, without_fault, well_formed, reads_binary}

then-ok : {A B : Type 0} (read : Result A ℕ) (next : A → Result B ℕ) (b : B) → (read >>= next) ≡ Ok b → (a : A) × (read ≡ Ok a) × (next a ≡ Ok b)
then-ok (Ok a) next b is = (a, refl, is)
then-ok (Err place) next b is = cc

unless-ok : {A : Type 0} (place : Option ℕ) (value given : A) → unless_at place value ≡ Ok given → (place ≡ None) × (value ≡ given)
unless-ok (Some at) value given is = cc
unless-ok None value given is = (refl, cc)

place-ok : {A : Type 0} (place : ℕ) (read : Result A ℕ) (value : A) → at_place place read ≡ Ok value → read ≡ Ok value
place-ok place (Ok a) value is = is
place-ok place (Err inside) value is = cc

number-below : (number : ℕ) (fields : List WireField) (value : ℕ) → number_in number fields ≡ Ok value → value < 2 ^ 32
number-below number fields value is =
    let parts = unless-ok _ (last_number (of_number number fields)) value is in
    omega (arith, parts.1)

record-id : (fields : List WireField) (r : Record) → record_of fields ≡ Ok r → r.id < 2 ^ 32
unfolding record_of
record-id fields r is =
    let data' = then-ok (merged 1 fields) _ r is in
    let url = then-ok (text_in 1 data'.0) _ r data'.2 in
    let value = then-ok (bytes_in 2 data'.0) _ r url.2 in
    let material = then-ok (number_in 3 data'.0) _ r value.2 in
    let status = then-ok (number_in 2 fields) _ r material.2 in
    let id = then-ok (number_in 3 fields) _ r status.2 in
    let prefix = then-ok (number_in 4 fields) _ r id.2 in
    let whole : record { id = id.0; status = status.0; prefix = prefix.0; url = url.0.1; value = value.0.1; material = material.0 } ≡ r = let last = prefix.2 in cc in
    subst (λ (r : Record). r.id < 2 ^ 32) whole (number-below 3 fields id.0 id.1)

key-id : (field : WireField) (r : Record) → key_of field ≡ Ok r → r.id < 2 ^ 32
unfolding key_of
key-id field r is =
    let inner = then-ok (embedded field.payload) record_of r (place-ok field.at _ r is) in
    record-id inner.0 r inner.2

keys_here : (P : Record → Type 0) (field : WireField) (these : List WireField) (read : Result Record ℕ) → key_of field ≡ read → ((r : Record) → key_of field ≡ Ok r → P r) → AllByRecursion P (filter_map (λ field. result_ok (key_of field)) these)
    → AllByRecursion P (filter_map (λ field. result_ok (key_of field)) (field ∷ these))
keys_here P field these (Ok r) is here rest = rw is (here r is, rest)
keys_here P field these (Err place) is here rest = rw is rest

keys-ids : (these : List WireField) → AllByRecursion (λ r. r.id < 2 ^ 32) (filter_map (λ field. result_ok (key_of field)) these)
keys-ids [] = tt
keys-ids (field ∷ these) = keys_here (λ r. r.id < 2 ^ 32) field these _ refl (key-id field) (keys-ids these)

unless_fault-ok : (fault : Option KeysetRefusal) (keys given : Keys) → without_fault (unless_fault fault keys) ≡ Ok given → keys ≡ given
unless_fault-ok (Some fault) keys given is = cc
unless_fault-ok None keys given is = cc

formed-ok : (read : Result Keys ℕ) (given : Keys) → well_formed read ≡ Ok given → read ≡ Ok given
formed-ok (Err place) given is = cc
formed-ok (Ok keys) given is = ap (λ (k : Keys). Ok k) (unless_fault-ok (fault_of keys) keys given is)

pub read-ids : (source : List ℕ) (keys : Keys) → reads_binary source ≡ Ok keys → AllByRecursion (λ r. r.id < 2 ^ 32) keys.records
unfolding reads_binary
read-ids source keys read =
    let formed = formed-ok (cut 0 source >>= keys_in) keys read in
    let fields = then-ok (cut 0 source) keys_in keys formed in
    let parts = unless-ok (fault_at fields.0) _ keys fields.2 in
    subst (λ (k : Keys). AllByRecursion (λ r. r.id < 2 ^ 32) k.records) parts.1 (keys-ids (of_number 2 fields.0))
