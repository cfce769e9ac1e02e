-- What the fields of the code stand for, and how their readers answer the definitions of the wire.
use Rattle.std.specs.Prelude.{◌≡◌, ℕ, ◌≤◌, List, length, map, Result, Ok, Err, slice_range}
use Rattle.tink_spec.specs.Wire.{Payload, varint, eight, bytes, four, WireField}
use Rattle.proto_wire.specs.declared.field.Field.{Field}
use Rattle.proto_wire.specs.declared.field.Kind.{Kind}
use Rattle.proto_wire.specs.declared.field.Kind.TheVariants as kinds
use Rattle.proto_wire.specs.declared.field.Wire.{Wire}
use Rattle.proto_wire.specs.declared.field.FieldsError.{FieldsError}
use Rattle.proto_wire.specs.declared.field.FieldsError.TheVariants as errors

-- a payload of this kind, over the bytes of the source
abbrev pub payload_of : Kind → List ℕ → Field → Payload
payload_of kinds.Varint source field = varint field.value
payload_of kinds.Eight source field = eight
payload_of kinds.Bytes source field = bytes field.start (slice_range source field.start field.end)
payload_of kinds.Four source field = four

-- the field on the wire that a field of this source stands for
abbrev pub seen : List ℕ → Field → WireField
seen source field = record { number = field.number; at = field.at; payload = payload_of field.kind source field }

-- several fields of ours, as fields of the wire
abbrev pub seen_all : List ℕ → List Field → List WireField
seen_all source fields = map (seen source) fields

-- what a kind has no use for is 0
abbrev pub UnusedAreZero : Kind → Field → Type 0
UnusedAreZero kinds.Varint field = (field.start ≡ 0) × (field.end ≡ 0)
UnusedAreZero kinds.Eight field = (field.value ≡ 0) × (field.start ≡ 0) × (field.end ≡ 0)
UnusedAreZero kinds.Bytes field = field.value ≡ 0
UnusedAreZero kinds.Four field = (field.value ≡ 0) × (field.start ≡ 0) × (field.end ≡ 0)

-- what the fields of a source are known by
pub record IsOf (source : List ℕ) (field : Field) : Type 0 where
  pub ordered : field.start ≤ field.end
  pub within : field.end ≤ length source
  pub unused : UnusedAreZero field.kind field

-- Fields are what the definition gives, or the place at fault is. Of want of memory nothing is said.
abbrev pub GivesFields : List ℕ → Result (List Field) FieldsError → Result (List WireField) ℕ → Type 0
GivesFields source (Ok fields) read = read ≡ Ok (seen_all source fields)
GivesFields source (Err (errors.Wire wire)) read = read ≡ Err wire.at
GivesFields source (Err errors.NoMemory) read = Unit {0}

-- a number is what the definition gives, or the place at fault is
abbrev pub GivesNumber : Result ℕ Wire → Result ℕ ℕ → Type 0
GivesNumber (Ok number) read = read ≡ Ok number
GivesNumber (Err wire) read = read ≡ Err wire.at

-- the part of the source between two places is what the definition gives, or the place at fault is
abbrev pub GivesSpan : List ℕ → Result (ℕ × ℕ) Wire → Result (ℕ × List ℕ) ℕ → Type 0
GivesSpan source (Ok span) read =
    (span.0 ≤ span.1) × (span.1 ≤ length source) × (read ≡ Ok (span.0, slice_range source span.0 span.1))
GivesSpan source (Err wire) read = read ≡ Err wire.at

-- the error, with this place in the place of its own
abbrev pub error_at : ℕ → FieldsError → FieldsError
error_at at (errors.Wire wire) = errors.Wire (record { at = at })
error_at at errors.NoMemory = errors.NoMemory
