-- The binary form of a keyset, written (tink.proto: Keyset, Key and KeyData). Fields stand by
-- number. Numbers that are 0 and bytes that are empty are left out; messages are always written.
--
--   data_written     the `KeyData` message of a record
--   record_written   its `Key` message
--   binary_of        the `Keyset` message
--   HasWireBounds    what a record is held to, so that it is read back
--   BinaryBack       the binary form reads back to the keyset
--   ReadKeysFit      the records that were read are held to that
--   ReadWithin       and have no more bytes than they were read of
use Rattle.std.specs.Prelude.{◌≡◌, ℕ, ◌+◌, ◌<◌, ◌≤◌, ◌^◌, true, List, [], ◌∷◌, ◌++◌, length, map, None, Ok, if◌then◌else◌}
use Rattle.std.specs.List.{AllByRecursion}
use Rattle.std.specs.Str.{is_utf8}
use Rattle.proto_wire.specs.Written.{Entry, uint32, content, message, written_all}
use Rattle.keyset_model.specs.declared.record.Record.{Record}
use Rattle.keyset_model.specs.Keyset.{Keys, is_bare, fault_of}
use Rattle.keyset_model.specs.Reading.{reads_binary}

-- type_url 1, value 2 and key_material_type 3
abbrev pub data_entries : Record → List Entry
data_entries r = content 1 r.url ∷ content 2 r.value ∷ uint32 3 r.material ∷ []

-- the bytes of the `KeyData` message
abbrev pub data_written : Record → List ℕ
data_written r = written_all (data_entries r)

-- key_data 1, which is there exactly where the record isn't bare
abbrev pub data_entry : Record → List Entry
data_entry r = if is_bare r then [] else message 1 (data_written r) ∷ []

-- key_data 1, status 2, key_id 3 and output_prefix_type 4
abbrev pub record_entries : Record → List Entry
record_entries r = data_entry r ++ (uint32 2 r.status ∷ uint32 3 r.id ∷ uint32 4 r.prefix ∷ [])

-- the bytes of the `Key` message
abbrev pub record_written : Record → List ℕ
record_written r = written_all (record_entries r)

-- a key is field 2
abbrev pub key_entry : Record → Entry
key_entry r = message 2 (record_written r)

-- primary_key_id 1, and a key 2 for each record, in order
abbrev pub keys_entries : Keys → List Entry
keys_entries keys = uint32 1 keys.primary ∷ map key_entry keys.records

-- the whole message
unfoldable pub binary_of : Keys → List ℕ
binary_of keys = written_all (keys_entries keys)

-- what the types of a record hold it to, and at most 2 ^ 32 bytes of URL and value together; in keys
-- without a fault its other numbers are small, and the primary id is that of a record
pub record HasWireBounds (r : Record) : Type 0 where
  pub id : r.id < 2 ^ 32
  pub utf8 : is_utf8 r.url ≡ true
  pub short : length r.url + length r.value ≤ 2 ^ 32

-- The binary form of keys without a fault reads back to them.
abbrev pub BinaryBack : Type 0
BinaryBack = (keys : Keys) → fault_of keys ≡ None → AllByRecursion HasWireBounds keys.records
    → reads_binary (binary_of keys) ≡ Ok keys

-- Keys that are read of at most 2 ^ 32 bytes have no fault, and their binary form reads back.
abbrev pub ReadKeysFit : Type 0
ReadKeysFit = (bytes : List ℕ) (keys : Keys) → length bytes ≤ 2 ^ 32 → reads_binary bytes ≡ Ok keys
    → (fault_of keys ≡ None) × AllByRecursion HasWireBounds keys.records

-- URL and value of a record that is read have together no more bytes than what it is read of.
abbrev pub ReadWithin : Type 0
ReadWithin = (bytes : List ℕ) (keys : Keys) → reads_binary bytes ≡ Ok keys
    → AllByRecursion (λ r. length r.url + length r.value ≤ length bytes) keys.records
