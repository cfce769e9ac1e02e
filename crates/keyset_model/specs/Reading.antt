-- The binary form of a keyset, read (tink.proto: Keyset, Key and KeyData). Field numbers are those
-- of tink.proto. Fields of other numbers are skipped.
--
--   record_of   the record of a `Key` message of these fields
--   key_of      the record of a field `key` of a keyset
--   fault_at    the place of the first field of a keyset, in byte order, that is at fault: a
--               primary id that is no varint, or a key that isn't bytes or can't be read
--   keys_in     the primary id and the records that fields give, or that place
--   reads_binary   what the bytes give: a keyset, or the place of a fault, or the first fault that
--               keeps records from being a keyset
--
-- Places are those of tags, counted in bytes from 0.
use Rattle.std.specs.Prelude.{◌≡◌, ℕ, List, Bool, not, ◌==◌, ◌&&◌, ◌||◌, Option, option_map, Result, Ok, Err, is_err, find}
use Rattle.std.specs.List.{filter_map}
use Rattle.std.specs.Result.{result_ok}
use Rattle.tink_spec.specs.Wire.{WireField, cut}
use Rattle.tink_spec.specs.Messages.{is_varint, of_number, unless_at, at_place, ◌>>=◌, last_number, number_in, bytes_in, text_in, merged, embedded}
use Rattle.keyset_model.specs.declared.record.Record.{Record}
use Rattle.keyset_model.specs.declared.keyset.KeysetRefusal.{KeysetRefusal}
use Rattle.keyset_model.specs.declared.keyset.Keyset.{Keyset}
use Rattle.keyset_model.specs.declared.reading.ReadError.{ReadError}
use Rattle.keyset_model.specs.declared.reading.ReadError.TheVariants as errors
use Rattle.keyset_model.specs.Keyset.{Keys, built}

-- `Key` has key_data 1, status 2, key_id 3 and output_prefix_type 4. `KeyData` has type_url 1,
-- value 2 and key_material_type 3; `data'` is its fields, from each payload of key_data. What isn't
-- there is 0 or empty. The place of a fault goes no further than `key_of`.
unfoldable pub record_of : List WireField → Result Record ℕ
record_of fields = do
  data' ← merged 1 fields
  url ← text_in 1 data'
  value ← bytes_in 2 data'
  material ← number_in 3 data'
  status ← number_in 2 fields
  id ← number_in 3 fields
  prefix ← number_in 4 fields
  Ok (record {
    id = id;
    status = status;
    prefix = prefix;
    url = url.1;
    value = value.1;
    material = material;
  })

-- the record of a field `key`; any fault inside it has the place of its tag
unfoldable pub key_of : WireField → Result Record ℕ
key_of field = at_place field.at (embedded field.payload >>= record_of)

-- `Keyset` has primary_key_id 1 and key 2. A primary id has another wire type, or a key can't be
-- read.
abbrev pub is_at_fault : WireField → Bool
is_at_fault field =
    (field.number == 1 && not (is_varint field.payload))
    || (field.number == 2 && is_err (key_of field))

-- the place of the first field at fault
abbrev pub fault_at : List WireField → Option ℕ
fault_at fields = option_map (λ field. field.at) (find is_at_fault fields)

-- the records of the fields `key`, in order; none is left out where no field is at fault
abbrev pub records_in : List WireField → List Record
records_in fields = filter_map (λ field. result_ok (key_of field)) (of_number 2 fields)

-- what fields give, or the place of the first one at fault; the last primary id counts
abbrev pub keys_in : List WireField → Result Keys ℕ
keys_in fields = unless_at (fault_at fields) (record {
  primary = last_number (of_number 1 fields);
  records = records_in fields;
})

-- why bytes give no keyset
pub data Refusal : Type 0 where
  -- a field at this place can't be cut or read
  Wire : (at : ℕ) → Refusal
  Fault : (fault : KeysetRefusal) → Refusal

-- the same keyset or fault, as an answer of reading
abbrev pub without_fault : Result Keys KeysetRefusal → Result Keys Refusal
without_fault (Ok keys) = Ok keys
without_fault (Err fault) = Err (Fault fault)

-- a keyset of what was read
abbrev pub well_formed : Result Keys ℕ → Result Keys Refusal
well_formed (Ok keys) = without_fault (built keys)
well_formed (Err at) = Err (Wire at)

-- the whole is cut first, then its fields are read, and then the records are tried
unfoldable pub reads_binary : List ℕ → Result Keys Refusal
reads_binary bytes = well_formed (cut 0 bytes >>= keys_in)

-- The keyset is what the definition gives, or the refusal is. Of want of memory nothing is said.
abbrev pub GivesKeyset : Result Keyset ReadError → Result Keys Refusal → Type 0
GivesKeyset (Ok keyset) read = read ≡ Ok keyset
GivesKeyset (Err (errors.Wire wire)) read = read ≡ Err (Wire wire.at)
GivesKeyset (Err (errors.Fault fault)) read = read ≡ Err (Fault fault)
GivesKeyset (Err errors.NoMemory) read = Unit {0}
