-- What stands at the front of a part is what the relations of the wire spell, both ways.
use Rattle.std.proofs.Common.{◌≡◌, ◌∙◌, ap, sym, refl, subst, ℕ, suc, ◌+◌, ◌-◌, ◌*◌, ◌/◌, ◌%◌, ◌^◌, ◌<◌, ◌≤◌, List, [], ◌∷◌, ◌++◌, length, take, drop, arith, lit<, inl, inr, Option, Some, None}
use Rattle.std.specs.Prelude.{◌&&◌, nat_lt, nat_le, if◌then◌else◌, option_map, option_and_then}
use Rattle.std.proofs.Math.Seq.{take-append_seam, drop-append_seam}
use Rattle.std.proofs.lemmas.Bool.{le-leb, lt-ltb}
use Rattle.std.proofs.lemmas.Bool.Decides.{leb_tells, eqb_tells}
use Rattle.std.proofs.lemmas.List.{append_assoc, take-append-drop, length-take-le, length-append, drop_at}
use Rattle.std.proofs.lemmas.Nat.{div-mul-add, mod-mul-add, div-add-mod'}
use Rattle.tink_spec.specs.Varint.{groups, IsVarint, SpellsNumber, varint_front, number_front}
use Rattle.tink_spec.specs.Wire.{Payload, varint, eight, bytes, four, WireField, wire_type, greatest_number, SpellsPayload, SpellsField, payload_front, field_front}

-- ---- varints

IsVarint-cons : (b : ℕ) (part : List ℕ) → 128 ≤ b → IsVarint part → IsVarint (b ∷ part)
IsVarint-cons b [] high form = absurd form
IsVarint-cons b (c ∷ part) high form = (high, form)

-- the front and the rest are the part, and the front is a varint
abbrev IsCutOff : List ℕ → Option (List ℕ × List ℕ) → Type 0
IsCutOff part None = Unit {0}
IsCutOff part (Some front) = IsVarint front.0 × (front.0 ++ front.1 ≡ part)

cut_off_more : (b : ℕ) (part : List ℕ) (front : Option (List ℕ × List ℕ)) → 128 ≤ b → IsCutOff part front → IsCutOff (b ∷ part) (option_map (λ (cut : List ℕ × List ℕ). (b ∷ cut.0, cut.1)) front)
cut_off_more b part None high is = tt
cut_off_more b part (Some front) high is = (IsVarint-cons b front.0 high is.0, ap (λ (l : List ℕ). b ∷ l) is.1)

varint_front-spells : (part : List ℕ) → IsCutOff part (varint_front part)
unfolding varint_front
varint_front-spells [] = tt
varint_front-spells (b ∷ part) = elim (leb_tells (suc b) 128) [
  | inl low ↦ rw low.0 (low.1, refl)
  | inr high ↦ rw high.0 (cut_off_more b part (varint_front part) (omega arith) (varint_front-spells part))
]

varint_front-of : (spelling rest : List ℕ) → IsVarint spelling → varint_front (spelling ++ rest) ≡ Some (spelling, rest)
unfolding varint_front
varint_front-of [] rest form = absurd form
varint_front-of (b ∷ []) rest form = rw (le-leb (suc b) 128 form) refl
varint_front-of (b ∷ c ∷ spelling) rest (high, form) = elim (leb_tells (suc b) 128) [
  | inl low ↦ absurd (omega arith)
  | inr found ↦ rw found.0 (ap (option_map (λ (cut : List ℕ × List ℕ). (b ∷ cut.0, cut.1))) (varint_front-of (c ∷ spelling) rest form))
]

-- ---- numbers

pub record NumberSpelled (part : List ℕ) (value : ℕ) (rest : List ℕ) : Type 0 where
  pub size : List ℕ
  pub spells : SpellsNumber size value
  pub whole : size ++ rest ≡ part

abbrev pub IsNumber : List ℕ → Option (ℕ × List ℕ) → Type 0
IsNumber part None = Unit {0}
IsNumber part (Some read) = NumberSpelled part read.0 read.1

abbrev short_number : List ℕ × List ℕ → Option (ℕ × List ℕ)
short_number cut = if nat_le (length cut.0) 10 then Some (groups cut.0 % 2 ^ 64, cut.1) else None

short_spells : (part : List ℕ) (front : Option (List ℕ × List ℕ)) → IsCutOff part front → IsNumber part (option_and_then short_number front)
short_spells part None is = tt
short_spells part (Some front) is = elim (leb_tells (length front.0) 10) [
  | inl short ↦ rw short.0 (record { size = front.0; spells = record { form = is.0; short = short.1; low = refl }; whole = is.1 })
  | inr long ↦ rw long.0 tt
]

pub number_front-spells : (part : List ℕ) → IsNumber part (number_front part)
unfolding number_front
number_front-spells part = short_spells part (varint_front part) (varint_front-spells part)

pub number_front-of : (spelling rest : List ℕ) (value : ℕ) → SpellsNumber spelling value → number_front (spelling ++ rest) ≡ Some (value, rest)
unfolding number_front
number_front-of spelling rest value spells =
    rw (varint_front-of spelling rest spells.form, le-leb (length spelling) 10 spells.short) (ap (λ (n : ℕ). Some (n, rest)) (sym spells.low))

-- ---- payloads

pub record PayloadSpelled (type at : ℕ) (part : List ℕ) (payload : Payload) (rest : List ℕ) : Type 0 where
  pub spelling : List ℕ
  pub spells : SpellsPayload at spelling payload
  pub whole : spelling ++ rest ≡ part
  pub typed : wire_type payload ≡ type

abbrev pub IsPayload : ℕ → ℕ → List ℕ → Option (Payload × List ℕ) → Type 0
IsPayload type at part None = Unit {0}
IsPayload type at part (Some read) = PayloadSpelled type at part read.0 read.1

varint_spells : (at : ℕ) (part : List ℕ) (number : Option (ℕ × List ℕ)) → IsNumber part number → IsPayload 0 at part (option_map (λ (read : ℕ × List ℕ). (varint read.0, read.1)) number)
varint_spells at part None is = tt
varint_spells at part (Some read) is = record { spelling = is.size; spells = is.spells; whole = is.whole; typed = refl }

eight_spells : (at : ℕ) (part : List ℕ) → IsPayload 1 at part (if nat_le 8 (length part) then Some (eight, drop 8 part) else None)
eight_spells at part = elim (leb_tells 8 (length part)) [
  | inl some ↦ rw some.0 (record { spelling = take 8 part; spells = length-take-le 8 part some.1; whole = take-append-drop 8 part; typed = refl })
  | inr short ↦ rw short.0 tt
]

four_spells : (at : ℕ) (part : List ℕ) → IsPayload 5 at part (if nat_le 4 (length part) then Some (four, drop 4 part) else None)
four_spells at part = elim (leb_tells 4 (length part)) [
  | inl some ↦ rw some.0 (record { spelling = take 4 part; spells = length-take-le 4 part some.1; whole = take-append-drop 4 part; typed = refl })
  | inr short ↦ rw short.0 tt
]

-- the bytes behind their length
abbrev sized_bytes : ℕ → List ℕ → ℕ × List ℕ → Option (Payload × List ℕ)
sized_bytes at part size = if nat_le size.0 (length size.1)
    then Some (bytes (at + (length part - length size.1)) (take size.0 size.1), drop size.0 size.1)
    else None

bytes_spells : (at : ℕ) (part : List ℕ) (number : Option (ℕ × List ℕ)) → IsNumber part number → IsPayload 2 at part (option_and_then (sized_bytes at part) number)
bytes_spells at part None is = tt
bytes_spells at part (Some read) is = elim (leb_tells read.0 (length read.1)) [
  | inl within ↦
      let whole : (is.size ++ take read.0 read.1) ++ drop read.0 read.1 ≡ part = rw (append_assoc, take-append-drop) is.whole in
      let place : at + (length part - length read.1) ≡ at + length is.size = omega (arith, length-append is.size read.1, ap length is.whole) in
      let sized : SpellsNumber is.size (length (take read.0 read.1)) = rw (length-take-le read.0 read.1 within.1) is.spells in
      rw within.0 (record { spelling = is.size ++ take read.0 read.1; spells = (is.size, sized, refl, place); whole = whole; typed = refl })
  | inr past ↦ rw past.0 tt
]

pub payload_front-spells : (type at : ℕ) (part : List ℕ) → IsPayload type at part (payload_front type at part)
unfolding payload_front
payload_front-spells type at part = elim (eqb_tells type 0) [
  | inl as_varint ↦ rw (as_varint.0, as_varint.1) (varint_spells at part (number_front part) (number_front-spells part))
  | inr not_zero ↦ rw not_zero.0 (elim (eqb_tells type 1) [
    | inl as_eight ↦ rw (as_eight.0, as_eight.1) (eight_spells at part)
    | inr not_one ↦ rw not_one.0 (elim (eqb_tells type 2) [
      | inl as_bytes ↦ rw (as_bytes.0, as_bytes.1) (bytes_spells at part (number_front part) (number_front-spells part))
      | inr not_two ↦ rw not_two.0 (elim (eqb_tells type 5) [
        | inl as_four ↦ rw (as_four.0, as_four.1) (four_spells at part)
        | inr not_five ↦ rw not_five.0 tt
      ])
    ])
  ])
]

pub payload_front-of : (at : ℕ) (spelling rest : List ℕ) (payload : Payload) → SpellsPayload at spelling payload → payload_front (wire_type payload) at (spelling ++ rest) ≡ Some (payload, rest)
unfolding payload_front
payload_front-of at spelling rest (varint value) spells = rw (number_front-of spelling rest value spells) refl
payload_front-of at spelling rest eight spells =
    let some : 8 ≤ length (spelling ++ rest) = omega (arith, length-append spelling rest, spells) in
    rw (le-leb 8 (length (spelling ++ rest)) some, drop_at spelling rest 8 spells) refl
payload_front-of at spelling rest four spells =
    let some : 4 ≤ length (spelling ++ rest) = omega (arith, length-append spelling rest, spells) in
    rw (le-leb 4 (length (spelling ++ rest)) some, drop_at spelling rest 4 spells) refl
payload_front-of at spelling rest (bytes start content) (size, spells, joined, place) =
    let whole : spelling ++ rest ≡ size ++ (content ++ rest) = ap (λ (l : List ℕ). l ++ rest) (sym joined) ∙ append_assoc size content rest in
    let within : length content ≤ length (content ++ rest) = omega (arith, length-append content rest) in
    let start_is : at + (length (size ++ (content ++ rest)) - length (content ++ rest)) ≡ start = omega (arith, length-append size (content ++ rest), place) in
    rw (whole, number_front-of size (content ++ rest) (length content) spells, le-leb (length content) (length (content ++ rest)) within, start_is, take-append_seam content rest, drop-append_seam content rest) refl

-- ---- fields

pub record FieldSpelled (at : ℕ) (part : List ℕ) (field : WireField) (rest : List ℕ) : Type 0 where
  pub spelling : List ℕ
  pub spells : SpellsField spelling field
  pub whole : spelling ++ rest ≡ part
  pub here : field.at ≡ at

abbrev pub IsField : ℕ → List ℕ → Option (WireField × List ℕ) → Type 0
IsField at part None = Unit {0}
IsField at part (Some read) = FieldSpelled at part read.0 read.1

-- the field of this number, at this place, with the payload that was read
abbrev pub field_of : ℕ → ℕ → Payload × List ℕ → WireField × List ℕ
field_of number at read = (record { number = number; at = at; payload = read.0 }, read.1)

abbrev tagged : ℕ → List ℕ → ℕ × List ℕ → Option (WireField × List ℕ)
tagged at part tag = if nat_lt 0 (tag.0 / 8) && nat_le (tag.0 / 8) greatest_number
    then option_map (field_of (tag.0 / 8) at) (payload_front (tag.0 % 8) (at + (length part - length tag.1)) tag.1)
    else None

payload_spells : (at value : ℕ) (part behind : List ℕ) (tag : NumberSpelled part value behind) → 0 < value / 8 → value / 8 ≤ greatest_number → (payload : Option (Payload × List ℕ)) → IsPayload (value % 8) (at + (length part - length behind)) behind payload → IsField at part (option_map (field_of (value / 8) at) payload)
payload_spells at value part behind tag least most None is = tt
payload_spells at value part behind tag least most (Some read) is =
    let place : at + (length part - length behind) ≡ at + length tag.size = omega (arith, length-append tag.size behind, ap length tag.whole) in
    record {
      spelling = tag.size ++ is.spelling;
      spells = record {
        tag = tag.size;
        behind = is.spelling;
        whole = refl;
        least = least;
        most = most;
        tagged = rw (is.typed, div-add-mod' value 8) tag.spells;
        spelled = subst (λ (n : ℕ). SpellsPayload n is.spelling read.0) place is.spells;
      };
      whole = append_assoc tag.size is.spelling read.1 ∙ ap (λ (l : List ℕ). tag.size ++ l) is.whole ∙ tag.whole;
      here = refl;
    }

tag_spells : (at : ℕ) (part : List ℕ) (number : Option (ℕ × List ℕ)) → IsNumber part number → IsField at part (option_and_then (tagged at part) number)
tag_spells at part None is = tt
tag_spells at part (Some tag) is = elim (leb_tells 1 (tag.0 / 8)) [
  | inl least ↦ elim (leb_tells (tag.0 / 8) greatest_number) [
    | inl most ↦ rw (least.0, most.0) (payload_spells at tag.0 part tag.1 is least.1 most.1 _ (payload_front-spells (tag.0 % 8) (at + (length part - length tag.1)) tag.1))
    | inr past ↦ rw (least.0, past.0) tt
  ]
  | inr none ↦ rw none.0 tt
]

pub field_front-spells : (at : ℕ) (part : List ℕ) → IsField at part (field_front at part)
unfolding field_front
field_front-spells at part = tag_spells at part (number_front part) (number_front-spells part)

wire_type-below : (payload : Payload) → wire_type payload < 8
wire_type-below (varint value) = lit< tt
wire_type-below eight = lit< tt
wire_type-below (bytes start content) = lit< tt
wire_type-below four = lit< tt

pub field_front-of : (spelling rest : List ℕ) (field : WireField) → SpellsField spelling field → field_front field.at (spelling ++ rest) ≡ Some (field, rest)
unfolding field_front
field_front-of spelling rest field spells =
    let value : ℕ = field.number * 8 + wire_type field.payload in
    let behind : List ℕ = spells.behind ++ rest in
    let whole : spelling ++ rest ≡ spells.tag ++ behind = ap (λ (l : List ℕ). l ++ rest) (sym spells.whole) ∙ append_assoc spells.tag spells.behind rest in
    let number_is : (field.number * 8 + wire_type field.payload) / 8 ≡ field.number = div-mul-add field.number 8 (wire_type field.payload) (wire_type-below field.payload) in
    let type_is : (field.number * 8 + wire_type field.payload) % 8 ≡ wire_type field.payload = mod-mul-add field.number 8 (wire_type field.payload) (wire_type-below field.payload) in
    let place : field.at + (length (spells.tag ++ behind) - length behind) ≡ field.at + length spells.tag = omega (arith, length-append spells.tag behind) in
    rw (whole, number_front-of spells.tag behind value spells.tagged, number_is, type_is, place, lt-ltb 0 field.number spells.least, le-leb field.number greatest_number spells.most, payload_front-of (field.at + length spells.tag) spells.behind rest field.payload spells.spelled) refl
