-- Fields as they are written, after the encoding of Protocol Buffers ("Base 128 Varints", "Message
-- Structure"); a number or bytes at the default of proto3 are left out.
--
--   varint_of     the varint of a number below 2 ^ 64, as short as possible
--   Entry         what is asked to be written
--   written       its bytes: a tag and a payload, or none
--   written_all   those of several, joined
--   fields_of     the fields that these bytes are, from a place on
--   fields_of_all   the same of several
use Rattle.std.specs.Prelude.{◌≡◌, ℕ, zero, suc, ◌+◌, ◌*◌, ◌/◌, ◌%◌, ◌^◌, ◌<◌, ◌≤◌, List, [], ◌∷◌, ◌++◌, length, Ok, ◌==◌, nat_lt, if◌then◌else◌}
use Rattle.tink_spec.specs.Varint.{SpellsNumber}
use Rattle.tink_spec.specs.Wire.{WireField, varint, bytes, greatest_number, cut}
use Rattle.tink_spec.specs.Messages.{joined}

-- groups of seven bits, the lowest first, up to the highest that isn't 0; at most so many have a
-- group behind them
unfoldable pub groups_of : ℕ → ℕ → List ℕ
groups_of zero value = value ∷ []
groups_of (suc more) value =
    if nat_lt value 128 then value ∷ [] else (128 + value % 128) ∷ groups_of more (value / 128)

-- ten groups hold a number of 64 bits
abbrev pub varint_of : ℕ → List ℕ
varint_of value = groups_of 9 value

-- what is asked to be written
pub data Entry : Type 0 where
  -- a number of 32 bits, left out where it is 0
  uint32 : (number value : ℕ) → Entry
  -- bytes, left out where there are none
  content : (number : ℕ) (of : List ℕ) → Entry
  -- an embedded message, always written
  message : (number : ℕ) (payload : List ℕ) → Entry

-- the tag of a field, by its number and its wire type
abbrev pub tag_of : ℕ → ℕ → List ℕ
tag_of number type = varint_of (number * 8 + type)

-- a field with a number: its tag and the number
abbrev pub number_field : ℕ → ℕ → List ℕ
number_field number value = tag_of number 0 ++ varint_of value

-- a field with bytes: its tag, their length and they
abbrev pub bytes_field : ℕ → List ℕ → List ℕ
bytes_field number of = tag_of number 2 ++ (varint_of (length of) ++ of)

-- the bytes of an entry: a tag and a payload, or none
abbrev pub written : Entry → List ℕ
written (uint32 number value) = if value == 0 then [] else number_field number value
written (content number of) = if length of == 0 then [] else bytes_field number of
written (message number payload) = bytes_field number payload

-- those of several, joined
abbrev pub written_all : List Entry → List ℕ
written_all [] = []
written_all (entry ∷ entries) = written entry ++ written_all entries

-- a field with bytes, from this place on
abbrev pub bytes_from : ℕ → ℕ → List ℕ → WireField
bytes_from at number of = record {
  number = number;
  at = at;
  payload = bytes (at + length (tag_of number 2) + length (varint_of (length of))) of;
}

-- the field that an entry is from this place on, or none
abbrev pub fields_of : ℕ → Entry → List WireField
fields_of at (uint32 number value) =
    if value == 0 then [] else record { number = number; at = at; payload = varint value } ∷ []
fields_of at (content number of) =
    if length of == 0 then [] else bytes_from at number of ∷ []
fields_of at (message number payload) = bytes_from at number payload ∷ []

-- those of several
abbrev pub fields_of_all : ℕ → List Entry → List WireField
fields_of_all at [] = []
fields_of_all at (entry ∷ entries) =
    fields_of at entry ++ fields_of_all (at + length (written entry)) entries

-- a field number
abbrev pub IsFieldNumber : ℕ → Type 0
IsFieldNumber number = (0 < number) × (number ≤ greatest_number)

-- what is cut back once it is written: the number is that of a field, a value has 32 bits, and a
-- length is one that a varint says
abbrev pub IsWritable : Entry → Type 0
IsWritable (uint32 number value) = IsFieldNumber number × (value < 2 ^ 32)
IsWritable (content number of) = IsFieldNumber number × (length of < 2 ^ 64)
IsWritable (message number payload) = IsFieldNumber number × (length payload < 2 ^ 64)

-- The varint of a number stands for it, and no varint that stands for it is shorter.
abbrev pub VarintsAreShort : Type 0
VarintsAreShort = (value : ℕ) → value < 2 ^ 64 → SpellsNumber (varint_of value) value
    × ((spelling : List ℕ) → SpellsNumber spelling value → length (varint_of value) ≤ length spelling)

-- What is written is cut back into its field, before those of the bytes behind it.
abbrev pub WrittenIsCutBack : Type 0
WrittenIsCutBack = (at : ℕ) (entry : Entry) (rest : List ℕ) → IsWritable entry →
    cut at (written entry ++ rest) ≡ joined (Ok (fields_of at entry)) (cut (at + length (written entry)) rest)
