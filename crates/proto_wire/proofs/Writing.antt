-- What is written spells its field, so it is cut back into it.
use Rattle.std.proofs.Common.{◌≡◌, ◌∙◌, ap, sym, refl, subst, add-zero, ℕ, zero, suc, ◌+◌, ◌-◌, ◌*◌, ◌/◌, ◌%◌, ◌^◌, ◌<◌, ◌≤◌, List, [], ◌∷◌, ◌++◌, length, take, arith, lit<, lit≤, inl, inr, Ok, Err, Result}
use Rattle.std.proofs.lemmas.Bool.Decides.{leb_tells, eqb_tells}
use Rattle.std.proofs.lemmas.List.{append_assoc, length-append, length-take, take-append-le}
use Rattle.tink_spec.specs.Varint.{IsVarint, SpellsNumber, groups}
use Rattle.tink_spec.specs.Wire.{varint, WireField, SpellsField, with_field, cut}
use Rattle.tink_spec.specs.Messages.{joined}
use Rattle.proto_wire.specs.Written.{groups_of, varint_of, Entry, uint32, content, message, tag_of, number_field, bytes_field, bytes_from, written, written_all, fields_of, IsFieldNumber, IsWritable}
use Rattle.proto_wire.proofs.Spellings.{field_front-of}
use Rattle.proto_wire.proofs.Cuts.{cut-step, joined-nothing}

-- ---- varints

-- below this number so many groups have a group behind them
abbrev bound : ℕ → ℕ
bound zero = 128
bound (suc more) = 128 * bound more

more_groups : (b : ℕ) (spelling : List ℕ) → 128 ≤ b → IsVarint spelling → IsVarint (b ∷ spelling)
more_groups b [] top form = absurd form
more_groups b (c ∷ spelling) top form = (top, form)

groups_of-form : (more value : ℕ) → value < bound more → IsVarint (groups_of more value)
unfolding groups_of
groups_of-form zero value below = below
groups_of-form (suc more) value below = elim (leb_tells (suc value) 128) [
  | inl low ↦ rw low.0 low.1
  | inr high ↦ rw high.0 (more_groups (128 + value % 128) (groups_of more (value / 128)) (omega arith) (groups_of-form more (value / 128) (omega arith)))
]

groups_of-length : (more value : ℕ) → length (groups_of more value) ≤ suc more
unfolding groups_of
groups_of-length zero value = lit≤ tt
groups_of-length (suc more) value = elim (leb_tells (suc value) 128) [
  | inl low ↦ rw low.0 (omega arith)
  | inr high ↦ rw high.0 (omega (arith, groups_of-length more (value / 128)))
]

groups_of-groups : (more value : ℕ) → value < bound more → groups (groups_of more value) ≡ value
unfolding groups_of
groups_of-groups zero value below = omega arith
groups_of-groups (suc more) value below = elim (leb_tells (suc value) 128) [
  | inl low ↦ rw low.0 (omega (arith, low.1))
  | inr high ↦ rw (high.0, groups_of-groups more (value / 128) (omega arith)) (omega arith)
]

groups_of-enough : (more value : ℕ) → value < bound more → groups_of more value ≡ groups_of (suc more) value
unfolding groups_of
groups_of-enough zero value below = elim (leb_tells (suc value) 128) [
  | inl low ↦ rw low.0 refl
  | inr high ↦ absurd (omega (arith, high.1))
]
groups_of-enough (suc more) value below = elim (leb_tells (suc value) 128) [
  | inl low ↦ rw low.0 refl
  | inr high ↦ rw high.0 (ap (λ (l : List ℕ). (128 + value % 128) ∷ l) (groups_of-enough more (value / 128) (omega arith)))
]

pub varint_of-last : (value : ℕ) → value < 128 → varint_of value ≡ value ∷ []
unfolding groups_of
varint_of-last value low = elim (leb_tells (suc value) 128) [
  | inl is ↦ rw is.0 refl
  | inr high ↦ absurd (omega (arith, high.1))
]

pub varint_of-more : (value : ℕ) → 128 ≤ value → value < 2 ^ 64 → varint_of value ≡ (value % 128 + 128) ∷ varint_of (value / 128)
unfolding groups_of
varint_of-more value high below = elim (leb_tells (suc value) 128) [
  | inl low ↦ absurd (omega (arith, low.1))
  | inr is ↦
      let swapped : 128 + value % 128 ≡ value % 128 + 128 = omega arith in
      rw (is.0, groups_of-enough 8 (value / 128) (omega arith), swapped) refl
]

pub varint_of-spells : (value : ℕ) → value < 2 ^ 64 → SpellsNumber (varint_of value) value
varint_of-spells value below = record {
  form = groups_of-form 9 value (omega arith);
  short = groups_of-length 9 value;
  low = rw (groups_of-groups 9 value (omega arith)) (omega arith);
}

-- ---- no shorter varint

-- so many groups of seven bits are below this number
abbrev room : ℕ → ℕ
room zero = 1
room (suc n) = 128 * room n

groups-room : (spelling : List ℕ) → groups spelling < room (length spelling)
groups-room [] = lit< tt
groups-room (b ∷ spelling) = omega (arith, groups-room spelling)

room-more : (more n : ℕ) → room n ≤ room (n + more)
room-more zero n = rw add-zero (omega arith)
room-more (suc more) n = let e : n + suc more ≡ suc (n + more) = omega arith in rw e (omega (arith, room-more more n))

room_nine : (n : ℕ) → n ≤ 9 → room n ≤ 2 ^ 63
room_nine n few = let e : n + (9 - n) ≡ 9 = omega arith in let most = room-more (9 - n) n in rw e at most

groups_of-room : (more n value : ℕ) → value < room n → 0 < n → length (groups_of more value) ≤ n
unfolding groups_of
groups_of-room zero n value small some = omega arith
groups_of-room (suc more) zero value small some = absurd (omega arith)
groups_of-room (suc more) (suc zero) value small some = elim (leb_tells (suc value) 128) [
  | inl low ↦ rw low.0 (lit≤ tt)
  | inr high ↦ absurd (omega (arith, high.1))
]
groups_of-room (suc more) (suc (suc n)) value small some = elim (leb_tells (suc value) 128) [
  | inl low ↦ rw low.0 (omega arith)
  | inr high ↦ rw high.0 (omega (arith, groups_of-room more (suc n) (value / 128) (omega arith) (omega arith)))
]

some_group : (spelling : List ℕ) → IsVarint spelling → 0 < length spelling
some_group [] form = absurd form
some_group (b ∷ spelling) form = omega arith

pub varint_of-shortest : (value : ℕ) (spelling : List ℕ) → SpellsNumber spelling value → length (varint_of value) ≤ length spelling
varint_of-shortest value spelling spells = elim (leb_tells (length spelling) 9) [
  | inl few ↦
      let small : groups spelling < 2 ^ 63 = omega (arith, groups-room spelling, room_nine (length spelling) few.1) in
      let is : value ≡ groups spelling = omega (arith, spells.low) in
      groups_of-room 9 (length spelling) value (omega (arith, groups-room spelling)) (some_group spelling spells.form)
  | inr ten ↦ omega (arith, groups_of-length 9 value, ten.1)
]

-- ---- fields

-- a spelled field at the front
cut_spelled : (spelling rest : List ℕ) (field : WireField) → SpellsField spelling field → cut field.at (spelling ++ rest) ≡ with_field field (cut (field.at + length spelling) rest)
cut_spelled spelling rest field spells =
    let place : length (spelling ++ rest) - length rest ≡ length spelling = omega (arith, length-append spelling rest) in
    rw (cut-step field.at (spelling ++ rest) (field, rest) (field_front-of spelling rest field spells), place) refl

with_field-joined : (field : WireField) (read : Result (List WireField) ℕ) → with_field field read ≡ joined (Ok (field ∷ [])) read
with_field-joined field (Ok fields) = refl
with_field-joined field (Err place) = refl

number-spells : (at number value : ℕ) → IsFieldNumber number → value < 2 ^ 32 → SpellsField (number_field number value) (record { number = number; at = at; payload = varint value })
number-spells at number value is below = record {
  tag = tag_of number 0;
  behind = varint_of value;
  whole = refl;
  least = is.0;
  most = is.1;
  tagged = varint_of-spells (number * 8 + 0) (omega (arith, is.1));
  spelled = varint_of-spells value (omega arith);
}

bytes-spells : (at number : ℕ) (of : List ℕ) → IsFieldNumber number → length of < 2 ^ 64 → SpellsField (bytes_field number of) (bytes_from at number of)
bytes-spells at number of is below = record {
  tag = tag_of number 2;
  behind = varint_of (length of) ++ of;
  whole = refl;
  least = is.0;
  most = is.1;
  tagged = varint_of-spells (number * 8 + 2) (omega (arith, is.1));
  spelled = (varint_of (length of), varint_of-spells (length of) below, refl, refl);
}

field-cut : (at : ℕ) (spelling rest : List ℕ) (field : WireField) → field.at ≡ at → SpellsField spelling field → cut at (spelling ++ rest) ≡ joined (Ok (field ∷ [])) (cut (at + length spelling) rest)
field-cut at spelling rest field here spells =
    subst (λ (n : ℕ). cut n (spelling ++ rest) ≡ joined (Ok (field ∷ [])) (cut (n + length spelling) rest)) here
    (cut_spelled spelling rest field spells ∙ with_field-joined field (cut (field.at + length spelling) rest))

pub written-cut : (at : ℕ) (entry : Entry) (rest : List ℕ) → IsWritable entry → cut at (written entry ++ rest) ≡ joined (Ok (fields_of at entry)) (cut (at + length (written entry)) rest)
written-cut at (uint32 number value) rest is = elim (eqb_tells value 0) [
  | inl none ↦ rw (none.0, add-zero) (sym (joined-nothing (cut at rest)))
  | inr some ↦ rw some.0 (field-cut at (number_field number value) rest _ refl (number-spells at number value is.0 is.1))
]
written-cut at (content number of) rest is = elim (eqb_tells (length of) 0) [
  | inl none ↦ rw (none.0, add-zero) (sym (joined-nothing (cut at rest)))
  | inr some ↦ rw some.0 (field-cut at (bytes_field number of) rest _ refl (bytes-spells at number of is.0 is.1))
]
written-cut at (message number payload) rest is = field-cut at (bytes_field number payload) rest _ refl (bytes-spells at number payload is.0 is.1)

-- what stands in front stays there
pub take-kept : (old front more : List ℕ) → take (length old) front ≡ old → take (length old) (front ++ more) ≡ old
take-kept old front more kept =
    let within : length old ≤ length front = omega (arith, length-take (length old) front, ap length kept) in
    take-append-le (length old) front more within ∙ kept

-- ---- several fields, and how long they are

pub written_all-append : (front more : List Entry) → written_all (front ++ more) ≡ written_all front ++ written_all more
written_all-append [] more = refl
written_all-append (entry ∷ front) more = ap (λ (l : List ℕ). written entry ++ l) (written_all-append front more) ∙ sym (append_assoc (written entry) (written_all front) (written_all more))

-- the bytes of an entry, without tag and length
abbrev pub size_of : Entry → ℕ
size_of (uint32 number value) = 0
size_of (content number of) = length of
size_of (message number payload) = length payload

length-bytes_field : (number : ℕ) (of : List ℕ) → length (bytes_field number of) ≤ 20 + length of
length-bytes_field number of = omega (arith, length-append (tag_of number 2) (varint_of (length of) ++ of), length-append (varint_of (length of)) of, groups_of-length 9 (number * 8 + 2), groups_of-length 9 (length of))

pub length-written : (entry : Entry) → length (written entry) ≤ 20 + size_of entry
length-written (uint32 number value) = elim (eqb_tells value 0) [
  | inl none ↦ rw none.0 (lit≤ tt)
  | inr some ↦ rw some.0 (omega (arith, length-append (tag_of number 0) (varint_of value), groups_of-length 9 (number * 8 + 0), groups_of-length 9 value))
]
length-written (content number of) = elim (eqb_tells (length of) 0) [
  | inl none ↦ rw none.0 (omega arith)
  | inr some ↦ rw some.0 (length-bytes_field number of)
]
length-written (message number payload) = length-bytes_field number payload
