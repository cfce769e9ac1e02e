-- What is written of a record, and how long it is.
use Rattle.std.proofs.Common.{◌≡◌, ◌∙◌, ap, sym, refl, ℕ, ◌+◌, ◌≤◌, Bool, true, false, List, [], ◌∷◌, ◌++◌, length, map, take, arith}
use Rattle.std.specs.Prelude.{Some, slice_get}
use Rattle.std.proofs.lemmas.List.{append-nil, length-append, map-append, take_more}
use Rattle.std.proofs.lemmas.Option.{get_or_from_slice_get, slice_get_within}
use Rattle.proto_wire.specs.Written.{Entry, uint32, content, message, written, written_all}
use Rattle.proto_wire.proofs.Writing.{written_all-append, length-written}
use Rattle.keyset_model.specs.declared.record.Record.{Record}
use Rattle.keyset_model.specs.Keyset.{is_bare}
use Rattle.keyset_model.specs.Writing.{data_written, data_entry, record_written, key_entry, keys_entries}

pub length-data : (r : Record) → length (data_written r) ≤ 60 + (length r.url + length r.value)
length-data r =
    let rest = written (content 2 r.value) ++ (written (uint32 3 r.material) ++ []) in
    omega (
      arith,
      length-append (written (content 1 r.url)) rest,
      length-append (written (content 2 r.value)) (written (uint32 3 r.material) ++ []),
      length-append (written (uint32 3 r.material)) [],
      length-written (content 1 r.url),
      length-written (content 2 r.value),
      length-written (uint32 3 r.material),
    )

length-data_entry : (r : Record) (bare : Bool) → is_bare r ≡ bare → length (written_all (data_entry r)) ≤ 80 + (length r.url + length r.value)
length-data_entry r true is = rw is (omega arith)
length-data_entry r false is = rw is (omega (arith, length-append (written (message 1 (data_written r))) [], length-written (message 1 (data_written r)), length-data r))

pub length-record : (r : Record) → length (record_written r) ≤ 140 + (length r.url + length r.value)
length-record r =
    let behind = uint32 2 r.status ∷ uint32 3 r.id ∷ uint32 4 r.prefix ∷ [] in
    let rest = written (uint32 3 r.id) ++ (written (uint32 4 r.prefix) ++ []) in
    omega (
      arith,
      ap length (written_all-append (data_entry r) behind),
      length-append (written_all (data_entry r)) (written_all behind),
      length-append (written (uint32 2 r.status)) rest,
      length-append (written (uint32 3 r.id)) (written (uint32 4 r.prefix) ++ []),
      length-append (written (uint32 4 r.prefix)) [],
      length-data_entry r _ refl,
      length-written (uint32 2 r.status),
      length-written (uint32 3 r.id),
      length-written (uint32 4 r.prefix),
    )

-- one record more
record_behind : (records : List Record) (i : ℕ) (r : Record) → slice_get records i ≡ Some r → take i records ++ r ∷ [] ≡ take (i + 1) records
record_behind records i r there =
    ap (λ (x : Record). take i records ++ x ∷ []) (sym (get_or_from_slice_get records i r r there))
    ∙ sym (take_more records i r (slice_get_within records i r there))

keys_entries-append : (primary : ℕ) (front more : List Record) → keys_entries (record { primary = primary; records = front ++ more }) ≡ keys_entries (record { primary = primary; records = front }) ++ map key_entry more
keys_entries-append primary front more = ap (λ (l : List Entry). uint32 1 primary ∷ l) (map-append key_entry front more)

pub keys-more : (primary : ℕ) (records : List Record) (i : ℕ) (r : Record) → slice_get records i ≡ Some r
    → written_all (keys_entries (record { primary = primary; records = take i records })) ++ written (message 2 (record_written r)) ≡ written_all (keys_entries (record { primary = primary; records = take (i + 1) records }))
keys-more primary records i r there =
    let front = keys_entries (record { primary = primary; records = take i records }) in
    ap (λ (l : List ℕ). written_all front ++ l) (sym (append-nil (written (key_entry r))))
    ∙ sym (written_all-append front (key_entry r ∷ []))
    ∙ ap written_all (sym (keys_entries-append primary (take i records) (r ∷ [])))
    ∙ ap (λ (l : List Record). written_all (keys_entries (record { primary = primary; records = l }))) (record_behind records i r there)
