-- A keyset in JSON, read. What a text means as JSON is the reading of the crate `serde_json`:
-- `read` gives its value, and of a name that stands twice the last value.
--
--   without_newline   the bytes, less one newline at their end
--   json_value        the value of a text that nests no deeper than 32
--   record_of         the record of an item of the list `key`
--   keys_of           the primary id and the records of a value, or the first member that isn't of
--                     its form
--   reads_json        what the bytes give: a keyset, or why they give none
--   GivesKeyset       the answer of the call is that
--
-- Members are looked at in the order of the lines below. Places of keys are counted from 0.
use Rattle.std.specs.Prelude.{◌≡◌, ℕ, ◌+◌, ◌-◌, List, [], ◌∷◌, length, take, slice_index, Bool, ◌&&◌, ◌==◌, nat_lt, Option, Some, None, Result, Ok, Err, if◌then◌else◌}
use Rattle.std.specs.Str.{is_utf8}
use Rattle.serde_json.specs.Data.{Data, null, boolean, number, string, array, object, Items, no_items, item}
use Rattle.serde_json.specs.Read.{read}
use Rattle.serde_json.specs.Find.{as_str, as_array}
use Rattle.keyset_model.specs.declared.record.Record.{Record}
use Rattle.keyset_model.specs.declared.keyset.KeysetRefusal.{KeysetRefusal}
use Rattle.keyset_model.specs.declared.keyset.Keyset.{Keyset}
use Rattle.keyset_model.specs.Keyset.{Keys, built}
use Rattle.keyset_json.specs.Base64Text.{bytes_of_text}
use Rattle.keyset_json.specs.Members.{member_of}
use Rattle.keyset_json.specs.Names.{status_names, prefix_names, material_names}
use Rattle.keyset_json.specs.Nesting.{is_shallow}
use Rattle.keyset_json.specs.Numbers.{uint32_of, enum_of}
use Rattle.keyset_json.specs.declared.member.Path.{Path}
use Rattle.keyset_json.specs.declared.member.Member.{Member}
use Rattle.keyset_json.specs.declared.member.Member.TheVariants as members
use Rattle.keyset_json.specs.declared.reading.JsonError.{JsonError}
use Rattle.keyset_json.specs.declared.reading.JsonError.TheVariants as errors

infixl 10 ◌>>=◌
-- what comes next, unless a member isn't of its form
abbrev pub ◌>>=◌ : {A B : Type 0} → Result A Path → (A → Result B Path) → Result B Path
(Ok value) >>= next = next value
(Err path) >>= next = Err path

-- a newline stands at the end
abbrev pub ends_in_newline : List ℕ → Bool
ends_in_newline bytes = nat_lt 0 (length bytes) && (slice_index bytes (length bytes - 1) == 10)

-- the bytes without one newline at their end
unfoldable pub without_newline : List ℕ → List ℕ
without_newline bytes = if ends_in_newline bytes then take (length bytes - 1) bytes else bytes

-- the JSON value of bytes; those that aren't UTF-8 or nest deeper than is read have none
unfoldable pub json_value : List ℕ → Option Data
json_value bytes = if is_utf8 bytes && is_shallow bytes then read bytes else None

-- a member of the keyset
abbrev pub of_keyset : Member → Path
of_keyset m = record { key = None; member = m }

-- a member of key i
abbrev pub of_key : ℕ → Member → Path
of_key i m = record { key = Some i; member = m }

-- the value, or the path of what isn't of its form
abbrev pub or_at : {A : Type 0} → Path → Option A → Result A Path
or_at path None = Err path
or_at path (Some value) = Ok value

-- what a member is by its form, or where it is missing
abbrev pub given : {A : Type 0} → (Data → Option A) → A → Path → Option Data → Result A Path
given form missing path None = Ok missing
given form missing path (Some d) = or_at path (form d)

-- the member of an object
abbrev pub field : {A : Type 0} → (Data → Option A) → A → Path → Data → Result A Path
field form missing path d = given form missing path (member_of path.member d)

-- base64 in a text
abbrev pub bytes_of : Data → Option (List ℕ)
bytes_of (string s) = bytes_of_text s
bytes_of (number n) = None
bytes_of null = None
bytes_of (boolean b) = None
bytes_of (array ds) = None
bytes_of (object ms) = None

-- an object is itself
abbrev pub object_of : Data → Option Data
object_of (object ms) = Some (object ms)
object_of (string s) = None
object_of (number n) = None
object_of null = None
object_of (boolean b) = None
object_of (array ds) = None

-- the record of item i of the list of keys; null has no members, as a missing keyData
unfoldable pub record_of : ℕ → Data → Result Record Path
record_of i d = do
  key ← or_at (of_key i members.Key) (object_of d)
  data' ← field object_of null (of_key i members.KeyData) key
  url ← field as_str [] (of_key i members.TypeUrl) data'
  value ← field bytes_of [] (of_key i members.Value) data'
  material ← field (enum_of material_names) 0 (of_key i members.KeyMaterialType) data'
  status ← field (enum_of status_names) 0 (of_key i members.Status) key
  id ← field uint32_of 0 (of_key i members.KeyId) key
  prefix ← field (enum_of prefix_names) 0 (of_key i members.OutputPrefixType) key
  Ok (record {
    id = id;
    status = status;
    prefix = prefix;
    url = url;
    value = value;
    material = material;
  })

-- the records of items, of which the first is item i of the list
unfoldable pub records_of : ℕ → Items → Result (List Record) Path
records_of i no_items = Ok []
records_of i (item d ds) = do
  r ← record_of i d
  later ← records_of (i + 1) ds
  Ok (r ∷ later)

-- the records of the list of keys of an object
abbrev pub records_in : Data → Result (List Record) Path
records_in d = field as_array no_items (of_keyset members.Key) d >>= records_of 0

-- the primary id and the records of a value
unfoldable pub keys_of : Data → Result Keys Path
keys_of d = do
  whole ← or_at (of_keyset members.Keyset) (object_of d)
  primary ← field uint32_of 0 (of_keyset members.PrimaryKeyId) whole
  records ← records_in whole
  Ok (record { primary = primary; records = records })

-- why bytes give no keyset
pub data Refusal : Type 0 where
  NotJson : Refusal
  -- this member is the first that isn't of its form
  Shape : (path : Path) → Refusal
  -- this is the first fault of the primary id and the records
  Fault : (fault : KeysetRefusal) → Refusal

-- the same keyset or fault, as an answer of reading
abbrev pub without_fault : Result Keys KeysetRefusal → Result Keys Refusal
without_fault (Ok keys) = Ok keys
without_fault (Err fault) = Err (Fault fault)

-- a keyset of what was read
abbrev pub well_formed : Result Keys Path → Result Keys Refusal
well_formed (Ok keys) = without_fault (built keys)
well_formed (Err path) = Err (Shape path)

-- what a value gives, where there is one
abbrev pub of_value : Option Data → Result Keys Refusal
of_value None = Err NotJson
of_value (Some d) = well_formed (keys_of d)

-- the value is read first, then its members, and then the records are tried
unfoldable pub reads_json : List ℕ → Result Keys Refusal
reads_json bytes = of_value (json_value (without_newline bytes))

-- The keyset is what the definition gives, or the refusal is. Of want of memory nothing is said.
abbrev pub GivesKeyset : Result Keyset JsonError → Result Keys Refusal → Type 0
GivesKeyset (Ok keyset) read = read ≡ Ok keyset
GivesKeyset (Err errors.NotJson) read = read ≡ Err NotJson
GivesKeyset (Err (errors.Shape path)) read = read ≡ Err (Shape path)
GivesKeyset (Err (errors.Fault fault)) read = read ≡ Err (Fault fault)
GivesKeyset (Err errors.NoMemory) read = Unit {0}
