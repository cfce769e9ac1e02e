-- What is written of a keyset are bytes, in either form.
use Rattle.std.proofs.Common.{◌≡◌, ◌<◌, ◌^◌, Bool, true, false, List, [], ◌∷◌, ◌++◌, map, Ok, arith, lit<}
use Rattle.std.specs.Prelude.{if◌then◌else◌}
use Rattle.std.specs.List.{AllByRecursion}
use Rattle.std.proofs.lemmas.Str.{IsUtf8-from_is_utf8}
use Rattle.proto_wire.specs.Written.{Entry, uint32, message}
use Rattle.keyset_json.specs.Reading.{reads_json}
use Rattle.keyset_json.specs.Writing.{json_of}
use Rattle.keyset_json.proofs.ByteLemmas.{utf8_bytes}
use Rattle.keyset_json.proofs.StoredLemmas.{source_bytes}
use Rattle.keyset_model.specs.declared.record.Record.{Record}
use Rattle.keyset_model.specs.Keyset.{IsKnown, Keys, is_bare}
use Rattle.keyset_model.specs.WellFormed.{HasData, IsWellFormed}
use Rattle.keyset_model.specs.Writing.{binary_of, data_entries, data_written, key_entry, record_entries, record_written}
use Rattle.keyset_model.proofs.WritingLemmas.{length-data, length-record}
use Rattle.tinkey_session.specs.HeldLaws.{AreBytes, AreStored, IsStored}
use Rattle.key_msgs.proofs.WrittenBytes.{IsPlain, bytes-all}
use Rattle.tinkey_words.specs.declared.words.rows.Format.{Format}
use Rattle.tinkey_words.specs.declared.words.rows.Format.TheVariants as formats
use Rattle.tinkey_plans.specs.Steps.{written_in}

-- ---- the binary form

data-bytes : (r : Record) → IsStored r → HasData r → AreBytes (data_written r)
data-bytes r stored has =
    let url = utf8_bytes r.url (IsUtf8-from_is_utf8 r.url stored.held.utf8) in
    let short = stored.held.short in
    bytes-all (data_entries r) ((lit< tt, omega arith, url), ((lit< tt, omega arith, stored.bytes), ((lit< tt, omega (arith, has.most_material)), tt)))

record-bytes : (r : Record) → IsStored r → IsKnown r → HasData r → AreBytes (record_written r)
record-bytes r stored known has = bytes-all (record_entries r) (by_data (is_bare r))
  where
    own : List Entry
    own = uint32 2 r.status ∷ uint32 3 r.id ∷ uint32 4 r.prefix ∷ []

    numbers : AllByRecursion IsPlain own
    numbers = ((lit< tt, omega (arith, known.most_status)), ((lit< tt, stored.held.id), ((lit< tt, omega (arith, known.most_prefix)), tt)))

    by_data : (bare : Bool) → AllByRecursion IsPlain ((if bare then [] else message 1 (data_written r) ∷ []) ++ own)
    by_data true = numbers
    by_data false = ((lit< tt, omega (arith, length-data r, stored.held.short), data-bytes r stored has), numbers)

keys-plain : (rs : List Record) → AllByRecursion IsStored rs → AllByRecursion IsKnown rs → AllByRecursion HasData rs → AllByRecursion IsPlain (map key_entry rs)
keys-plain [] stored known has = tt
keys-plain (r ∷ rs) stored known has = (
  (lit< tt, omega (arith, length-record r, stored.0.held.short), record-bytes r stored.0 known.0 has.0),
  keys-plain rs stored.1 known.1 has.1,
)

binary-bytes : (keys : Keys) → IsWellFormed keys → keys.primary < 2 ^ 32 → AreStored keys → AreBytes (binary_of keys)
unfolding binary_of
binary-bytes keys formed primary stored = bytes-all (uint32 1 keys.primary ∷ map key_entry keys.records) ((lit< tt, primary), keys-plain keys.records stored formed.known formed.has_data)

-- ---- either form

pub written_bytes : (form : Format) (keys : Keys) → IsWellFormed keys → keys.primary < 2 ^ 32 → AreStored keys → reads_json (json_of keys) ≡ Ok keys → AreBytes (written_in form keys)
written_bytes formats.Json keys formed primary stored back = source_bytes (json_of keys) keys back
written_bytes formats.Binary keys formed primary stored back = binary-bytes keys formed primary stored
