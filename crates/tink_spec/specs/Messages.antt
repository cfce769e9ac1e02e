-- Messages as lists of fields, after the encoding of Protocol Buffers ("Last One Wins"): of a
-- scalar the last field counts, and the payloads of an embedded message are merged.
--
-- Each reader answers what a field number gives, or the place of the first field of that number
-- that has another wire type than its own.
use Rattle.std.specs.Prelude.{ℕ, ◌%◌, ◌^◌, List, [], ◌∷◌, ◌++◌, Bool, true, false, not, ◌==◌, Option, Some, None, option_map, Result, Ok, Err, filter, find, fold}
use Rattle.std.specs.Str.{is_utf8}
use Rattle.tink_spec.specs.Wire.{Payload, varint, bytes, WireField, cut}

-- the payload is a number
abbrev pub is_varint : Payload → Bool
is_varint (varint value) = true
is_varint _ = false

-- the payload is bytes
abbrev pub is_bytes : Payload → Bool
is_bytes (bytes start content) = true
is_bytes _ = false

-- the payload is bytes that are UTF-8
abbrev pub is_text : Payload → Bool
is_text (bytes start content) = is_utf8 content
is_text _ = false

-- the fields of a number, in order
abbrev pub of_number : ℕ → List WireField → List WireField
of_number number fields = filter (λ field. field.number == number) fields

-- the place of the first of these fields that isn't of the kind
abbrev pub first_other : (Payload → Bool) → List WireField → Option ℕ
first_other is_kind fields = option_map (λ field. field.at) (find (λ field. not (is_kind field.payload)) fields)

-- the value, where no place is at fault
abbrev pub unless_at : {A : Type 0} → Option ℕ → A → Result A ℕ
unless_at (Some place) value = Err place
unless_at None value = Ok value

-- a number in place of the one before it
abbrev pub later_number : ℕ → Payload → ℕ
later_number before (varint value) = value
later_number before _ = before

-- bytes, with the place of the first of them, in place of those before them
abbrev pub later_bytes : ℕ × List ℕ → Payload → ℕ × List ℕ
later_bytes before (bytes start content) = (start, content)
later_bytes before _ = before

-- the low 32 bits of the last number of these fields, 0 where there is none
abbrev pub last_number : List WireField → ℕ
last_number fields = fold (λ before field. later_number before field.payload) 0 fields % 2 ^ 32

-- the last bytes of these fields, none at place 0 where there are none
abbrev pub last_bytes : List WireField → ℕ × List ℕ
last_bytes fields = fold (λ before field. later_bytes before field.payload) (0, []) fields

-- the value of a field of 32 bits
abbrev pub number_in : ℕ → List WireField → Result ℕ ℕ
number_in number fields = unless_at (first_other is_varint (of_number number fields)) (last_number (of_number number fields))

-- the value of a field of bytes, and its place
abbrev pub bytes_in : ℕ → List WireField → Result (ℕ × List ℕ) ℕ
bytes_in number fields = unless_at (first_other is_bytes (of_number number fields)) (last_bytes (of_number number fields))

-- the value of a field of text, and its place; each field of the number is UTF-8
abbrev pub text_in : ℕ → List WireField → Result (ℕ × List ℕ) ℕ
text_in number fields = unless_at (first_other is_text (of_number number fields)) (last_bytes (of_number number fields))

infixl 10 ◌>>=◌
-- what comes next, unless a place is at fault
abbrev pub ◌>>=◌ : {A B : Type 0} → Result A ℕ → (A → Result B ℕ) → Result B ℕ
(Ok value) >>= next = next value
(Err place) >>= next = Err place

-- a list behind another, where both could be read
abbrev pub joined : Result (List WireField) ℕ → Result (List WireField) ℕ → Result (List WireField) ℕ
joined (Ok front) (Ok rest) = Ok (front ++ rest)
joined (Ok front) (Err place) = Err place
joined (Err place) rest = Err place

-- what is read, or this place in the place of one inside it
abbrev pub at_place : {A : Type 0} → ℕ → Result A ℕ → Result A ℕ
at_place place (Ok value) = Ok value
at_place place (Err inside) = Err place

-- the fields of an embedded message
abbrev pub embedded : Payload → Result (List WireField) ℕ
embedded (bytes start content) = cut start content
embedded _ = Err 0

-- the fields of all these messages, joined in order
abbrev pub embedded_all : List WireField → Result (List WireField) ℕ
embedded_all [] = Ok []
embedded_all (field ∷ fields) = joined (at_place field.at (embedded field.payload)) (embedded_all fields)

-- the fields of all payloads of a number; a fault has the place of the first field of that number
-- that isn't bytes or whose payload can't be cut
abbrev pub merged : ℕ → List WireField → Result (List WireField) ℕ
merged number fields = embedded_all (of_number number fields)
