-- Fields on the wire, after the encoding of Protocol Buffers ("Message Structure"): a field is a
-- tag and a payload, and the tag is the varint of number * 8 + wire type.
--
--   WireField   a field with the places of its tag and of its content
--   SpellsField   these bytes are the field's tag and its payload
--   IsCutInto   the spellings of these fields, joined, are the part
--   FailsAt   the part can't be cut, and this is the place of the first field at fault
--   cut   the fields of a part, or that place; that it is the two relations is a clause of
--         `fields` of proto_wire
--
-- Places are counted in bytes from 0, and a part starts at any place.
use Rattle.std.specs.Prelude.{◌≡◌, ℕ, zero, suc, ◌+◌, ◌-◌, ◌*◌, ◌/◌, ◌%◌, ◌<◌, ◌≤◌, List, [], ◌∷◌, ◌++◌, length, take, drop, ◌&&◌, Option, Some, None, option_map, option_and_then, Result, Ok, Err, ◌==◌, nat_lt, nat_le, if◌then◌else◌}
use Rattle.tink_spec.specs.Varint.{SpellsNumber, number_front}

-- what stands behind a tag
pub data Payload : Type 0 where
  -- a number
  varint : (value : ℕ) → Payload
  -- eight bytes, which no message here reads
  eight : Payload
  -- bytes of any length, and the place of the first of them
  bytes : (start : ℕ) (content : List ℕ) → Payload
  -- four bytes, which no message here reads
  four : Payload

-- a field of a message: its number, its place and its payload
pub record WireField : Type 0 where
  pub number : ℕ
  -- the place of the tag's first byte
  pub at : ℕ
  pub payload : Payload

-- the wire types; 3, 4, 6 and 7 are refused
abbrev pub wire_type : Payload → ℕ
wire_type (varint value) = 0
wire_type eight = 1
wire_type (bytes start content) = 2
wire_type four = 5

-- the greatest field number, 2 ^ 29 - 1
abbrev pub greatest_number : ℕ
greatest_number = 536870911

-- these bytes, the first of which has this place, are the payload
abbrev pub SpellsPayload : ℕ → List ℕ → Payload → Type 0
SpellsPayload at spelling (varint value) = SpellsNumber spelling value
SpellsPayload at spelling eight = length spelling ≡ 8
SpellsPayload at spelling (bytes start content) =
    (size : List ℕ) × SpellsNumber size (length content) × (size ++ content ≡ spelling) × (start ≡ at + length size)
SpellsPayload at spelling four = length spelling ≡ 4

-- these bytes are the field
pub record SpellsField (spelling : List ℕ) (field : WireField) : Type 0 where
  pub tag : List ℕ
  pub behind : List ℕ
  pub whole : tag ++ behind ≡ spelling
  pub least : 0 < field.number
  pub most : field.number ≤ greatest_number
  pub tagged : SpellsNumber tag (field.number * 8 + wire_type field.payload)
  pub spelled : SpellsPayload (field.at + length tag) behind field.payload

-- the part, whose first byte has this place, is the spellings of these fields, joined
abbrev pub IsCutInto : ℕ → List ℕ → List WireField → Type 0
IsCutInto at part [] = part ≡ []
IsCutInto at part (field ∷ fields) =
    (spelling : List ℕ) × (rest : List ℕ) × (spelling ++ rest ≡ part) × (field.at ≡ at) × SpellsField spelling field
    × IsCutInto (at + length spelling) rest fields

-- the bytes before the place are cut, it isn't the end, and nothing from it on spells a field
pub record FailsAt (at : ℕ) (part : List ℕ) (place : ℕ) : Type 0 where
  pub fields : List WireField
  pub front : List ℕ
  pub rest : List ℕ
  pub whole : front ++ rest ≡ part
  pub cut : IsCutInto at front fields
  pub is : place ≡ at + length front
  pub some : 0 < length rest
  pub none : (spelling more : List ℕ) (field : WireField) → spelling ++ more ≡ rest → SpellsField spelling field → ⊥

-- the payload at the front of these bytes, the first of which has this place, and the bytes behind
-- it, for a wire type
unfoldable pub payload_front : ℕ → ℕ → List ℕ → Option (Payload × List ℕ)
payload_front type at part =
    if type == 0 then option_map (λ read. (varint read.0, read.1)) (number_front part)
    else (if type == 1 then (if nat_le 8 (length part) then Some (eight, drop 8 part) else None)
    else (if type == 2 then option_and_then (λ size.
    if nat_le size.0 (length size.1)
    then Some (bytes (at + (length part - length size.1)) (take size.0 size.1), drop size.0 size.1)
    else None) (number_front part)
    else (if type == 5 then (if nat_le 4 (length part) then Some (four, drop 4 part) else None)
    else None)))

-- the field at the front of the part, and the bytes behind it
unfoldable pub field_front : ℕ → List ℕ → Option (WireField × List ℕ)
field_front at part = option_and_then (λ tag.
    if nat_lt 0 (tag.0 / 8) && nat_le (tag.0 / 8) greatest_number
    then option_map (λ read. (record { number = tag.0 / 8; at = at; payload = read.0 }, read.1))
    (payload_front (tag.0 % 8) (at + (length part - length tag.1)) tag.1)
    else None) (number_front part)

-- a field before the fields behind it
abbrev pub with_field : WireField → Result (List WireField) ℕ → Result (List WireField) ℕ
with_field field (Ok fields) = Ok (field ∷ fields)
with_field field (Err place) = Err place

-- the field at the front, where there is one at this place, before those that its rest is cut into
abbrev pub cut_front : ℕ → Option (WireField × List ℕ) → (List ℕ → Result (List WireField) ℕ) → Result (List WireField) ℕ
cut_front at None next = Err at
cut_front at (Some (field, rest)) next = with_field field (next rest)

-- the fields of a part of at most so many of them
unfoldable pub cut_within : ℕ → ℕ → List ℕ → Result (List WireField) ℕ
cut_within most at [] = Ok []
cut_within zero at (b ∷ part) = Err at
cut_within (suc most) at (b ∷ part) = cut_front at (field_front at (b ∷ part)) (λ rest.
    cut_within most (at + (length (b ∷ part) - length rest)) rest)

-- the fields of a part; there are fewer of them than bytes
abbrev pub cut : ℕ → List ℕ → Result (List WireField) ℕ
cut at part = cut_within (length part) at part
