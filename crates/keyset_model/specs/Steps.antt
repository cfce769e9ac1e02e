-- What the steps of reading a keyset answer, by the definitions of reading.
use Rattle.std.specs.Prelude.{◌≡◌, ◌≤◌, ℕ, true, false, List, length, take, Option, Some, None, Result, Ok, Err}
use Rattle.std.specs.Str.{is_utf8}
use Rattle.tink_spec.specs.Wire.{bytes, WireField, cut}
use Rattle.tink_spec.specs.Messages.{is_text, ◌>>=◌}
use Rattle.proto_wire.specs.Fields.{seen}
use Rattle.proto_wire.specs.declared.field.Field.{Field}
use Rattle.proto_wire.specs.declared.field.FieldsError.{FieldsError}
use Rattle.proto_wire.specs.declared.field.FieldsError.TheVariants as fields_errors
use Rattle.keyset_model.specs.declared.reading.ReadError.{ReadError}
use Rattle.keyset_model.specs.declared.reading.ReadError.TheVariants as errors
use Rattle.keyset_model.specs.declared.record.Record.{Record}
use Rattle.keyset_model.specs.Reading.{record_of, fault_at, records_in}

-- the field of this source is this text
pub record IsTextOf (source : List ℕ) (field : Field) (text : List ℕ) : Type 0 where
  pub payload : (seen source field).payload ≡ bytes field.start text
  pub utf8 : is_utf8 text ≡ true
  pub within : length text ≤ length source

-- the field of this source isn't text, and has this place
pub record IsNoText (source : List ℕ) (field : Field) (place : ℕ) : Type 0 where
  pub other : is_text (seen source field).payload ≡ false
  pub at : field.at ≡ place

-- the text is what the definition gives, at whatever place
abbrev pub GivesText : List ℕ → Result (ℕ × List ℕ) ℕ → Type 0
GivesText text read = (start : ℕ) × (read ≡ Ok (start, text))

-- the record of a `Key` message of these bytes, the first of which has this place
abbrev pub message_of : ℕ → List ℕ → Result Record ℕ
message_of start content = cut start content >>= record_of

-- the record is what the definition gives, or the place at fault is
abbrev pub GivesRecord : Result Record ReadError → Result Record ℕ → Type 0
GivesRecord (Ok record') read = read ≡ Ok record'
GivesRecord (Err (errors.Wire wire)) read = read ≡ Err wire.at
GivesRecord (Err (errors.Fault fault)) read = ⊥
GivesRecord (Err errors.NoMemory) read = Unit {0}

-- no field is at fault, and these are the records of the fields
pub record IsRead (records : List Record) (fields : List WireField) : Type 0 where
  pub faultless : fault_at fields ≡ None
  pub all : records ≡ records_in fields

-- no field is at fault, and these are the first records of the fields, as many as are held while a
-- keyset is read: one more than it may have
pub record KeepsRead (records : List Record) (fields : List WireField) : Type 0 where
  pub faultless : fault_at fields ≡ None
  pub first : records ≡ take 1001 (records_in fields)

-- the error is the field at fault at this place
abbrev pub IsFaultAt : ReadError → Option ℕ → Type 0
IsFaultAt (errors.Wire wire) place = place ≡ Some wire.at
IsFaultAt (errors.Fault fault) place = ⊥
IsFaultAt errors.NoMemory place = Unit {0}

-- the same error, of reading
abbrev pub of_fields_error : FieldsError → ReadError
of_fields_error (fields_errors.Wire wire) = errors.Wire wire
of_fields_error fields_errors.NoMemory = errors.NoMemory
