-- How long the binary form of a keyset is, and the message of its info.
use Rattle.std.proofs.Common.{◌≡◌, ap, refl, ℕ, ◌+◌, ◌*◌, ◌≤◌, ◌^◌, ◌==◌, ◌&&◌, Bool, true, false, List, [], ◌∷◌, ◌++◌, length, map, inl, inr, arith}
use Rattle.std.specs.List.{AllByRecursion}
use Rattle.std.proofs.lemmas.Bool.{and_parts, eqb-true}
use Rattle.std.proofs.lemmas.Bool.Decides.{eqb_tells}
use Rattle.std.proofs.lemmas.List.{length-append}
use Rattle.proto_wire.specs.Written.{uint32, content, message, varint_of, tag_of, written, written_all}
use Rattle.proto_wire.proofs.Writing.{length-written, written_all-append}
use Rattle.keyset_model.specs.declared.record.Record.{Record}
use Rattle.keyset_model.specs.Keyset.{IsShort, Keys, is_bare}
use Rattle.keyset_model.specs.Writing.{binary_of, data_entry, data_written, key_entry, record_written}
use Rattle.seal_wrap.specs.Info.{KeyInfo, info_of, key_info_of}
use Rattle.seal_wrap.specs.Wrapped.{info_written, key_info_entries, key_info_entry}

bytes-hold : (number : ℕ) (of : List ℕ) → length of ≤ length (written (message number of))
bytes-hold number of = omega (arith, length-append (tag_of number 2) (varint_of (length of) ++ of), length-append (varint_of (length of)) of)

-- a field is no shorter than what it holds
content-holds : (number : ℕ) (of : List ℕ) → length of ≤ length (written (content number of))
content-holds number of = elim (eqb_tells (length of) 0) [
  | inl none ↦ rw none.0 (omega (arith, none.1))
  | inr some ↦ rw some.0 (bytes-hold number of)
]

data-holds : (r : Record) → length r.url + length r.value ≤ length (data_written r)
data-holds r =
    let last = written (uint32 3 r.material) ++ [] in
    omega (
      arith,
      length-append (written (content 1 r.url)) (written (content 2 r.value) ++ last),
      length-append (written (content 2 r.value)) last,
      content-holds 1 r.url,
      content-holds 2 r.value,
    )

data_entry-holds : (r : Record) (bare : Bool) → is_bare r ≡ bare → length r.url + length r.value ≤ length (written_all (data_entry r))
data_entry-holds r true is =
    let parts = and_parts ((length r.url == 0) && (length r.value == 0)) (r.material == 0) is in
    let texts = and_parts (length r.url == 0) (length r.value == 0) parts.0 in
    let url : length r.url ≡ 0 = eqb-true _ _ texts.0 in
    let value : length r.value ≡ 0 = eqb-true _ _ texts.1 in
    omega (arith, url, value)
data_entry-holds r false is = rw is (omega (arith, length-append (written (message 1 (data_written r))) [], bytes-hold 1 (data_written r), data-holds r))

record-holds : (r : Record) → length r.url + length r.value ≤ length (record_written r)
record-holds r =
    let behind = uint32 2 r.status ∷ uint32 3 r.id ∷ uint32 4 r.prefix ∷ [] in
    omega (
      arith,
      ap length (written_all-append (data_entry r) behind),
      length-append (written_all (data_entry r)) (written_all behind),
      data_entry-holds r _ refl,
    )

-- ---- the records of a short binary form are short

keys-short : (rs : List Record) → length (written_all (map key_entry rs)) ≤ 2 ^ 30 → AllByRecursion IsShort rs
keys-short [] few = tt
keys-short (r ∷ rs) few =
    let both = length-append (written (key_entry r)) (written_all (map key_entry rs)) in
    (omega (arith, few, both, bytes-hold 2 (record_written r), record-holds r), keys-short rs (omega (arith, few, both)))

pub binary-short : (keys : Keys) → length (binary_of keys) ≤ 2 ^ 30 → AllByRecursion IsShort keys.records
unfolding binary_of
binary-short keys few =
    let both = length-append (written (uint32 1 keys.primary)) (written_all (map key_entry keys.records)) in
    keys-short keys.records (omega (arith, few, both))

-- ---- the info is little longer than the binary form

pub length-key_info : (k : KeyInfo) → length (written_all (key_info_entries k)) ≤ 80 + length k.url
length-key_info k =
    let two = written (uint32 4 k.prefix) ++ [] in
    let three = written (uint32 3 k.id) ++ two in
    omega (
      arith,
      length-append (written (content 1 k.url)) (written (uint32 2 k.status) ++ three),
      length-append (written (uint32 2 k.status)) three,
      length-append (written (uint32 3 k.id)) two,
      length-append (written (uint32 4 k.prefix)) [],
      length-written (content 1 k.url),
      length-written (uint32 2 k.status),
      length-written (uint32 3 k.id),
      length-written (uint32 4 k.prefix),
    )

keys-long : (rs : List Record) → length (written_all (map key_info_entry (map key_info_of rs))) ≤ length (written_all (map key_entry rs)) + 100 * length rs
keys-long [] = omega arith
keys-long (r ∷ rs) =
    let k = key_info_of r in
    omega (
      arith,
      length-append (written (key_info_entry k)) (written_all (map key_info_entry (map key_info_of rs))),
      length-append (written (key_entry r)) (written_all (map key_entry rs)),
      length-written (key_info_entry k),
      length-key_info k,
      bytes-hold 2 (record_written r),
      record-holds r,
      keys-long rs,
    )

pub info-long : (keys : Keys) → length (info_written (info_of keys)) ≤ length (binary_of keys) + 100 * length keys.records
unfolding binary_of
info-long keys =
    omega (
      arith,
      length-append (written (uint32 1 keys.primary)) (written_all (map key_info_entry (map key_info_of keys.records))),
      length-append (written (uint32 1 keys.primary)) (written_all (map key_entry keys.records)),
      keys-long keys.records,
    )
