-- What is read at a place of a source, by the places that the code keeps.
use Rattle.std.proofs.Common.{◌≡◌, ◌≢◌, ◌∙◌, ap, refl, ℕ, ◌+◌, ◌-◌, ◌/◌, ◌%◌, ◌<◌, ◌≤◌, List, length, take, drop, arith, Some, None}
use Rattle.std.specs.Prelude.{slice_range, option_map}
use Rattle.std.proofs.lemmas.Bool.{le-leb, lt-leb, lt-ltb, ne_eqb}
use Rattle.std.proofs.lemmas.List.{length-take, length-drop, drop-take, drop-drop, take-take}
use Rattle.tink_spec.specs.Varint.{number_front}
use Rattle.tink_spec.specs.Wire.{varint, eight, bytes, four, greatest_number, payload_front, field_front}
use Rattle.proto_wire.proofs.Spellings.{field_of}

pub length-slice_range : (source : List ℕ) (at end : ℕ) → end ≤ length source → length (slice_range source at end) ≡ end - at
length-slice_range source at end within = omega (arith, length-take (end - at) (drop at source), length-drop at source)

pub drop-slice_range : (source : List ℕ) (at end n : ℕ) → n ≤ end - at → drop n (slice_range source at end) ≡ slice_range source (at + n) end
drop-slice_range source at end n within =
    let split : end - at ≡ n + (end - (at + n)) = omega arith in
    rw (split, drop-take n (end - (at + n)) (drop at source), drop-drop n at source) refl

pub take-slice_range : (source : List ℕ) (at end n : ℕ) → n ≤ end - at → take n (slice_range source at end) ≡ slice_range source at (at + n)
take-slice_range source at end n within =
    let size : at + n - at ≡ n = omega arith in
    rw (take-take n (end - at) (drop at source) within, size) refl

-- ---- numbers

pub number_found : (source : List ℕ) (at end value size : ℕ) → end ≤ length source → size ≤ length (slice_range source at end) → number_front (slice_range source at end) ≡ Some (value, drop size (slice_range source at end)) → number_front (slice_range source at end) ≡ Some (value, slice_range source (at + size) end)
number_found source at end value size within small is =
    is ∙ ap (λ (l : List ℕ). Some (value, l)) (drop-slice_range source at end size (omega (arith, length-slice_range source at end within)))

-- ---- payloads

pub varint_none : (type at : ℕ) (part : List ℕ) → type ≡ 0 → number_front part ≡ None → payload_front type at part ≡ None
unfolding payload_front
varint_none type at part type_is is = rw (type_is, is) refl

pub varint_found : (type at : ℕ) (part rest : List ℕ) (value : ℕ) → type ≡ 0 → number_front part ≡ Some (value, rest) → payload_front type at part ≡ Some (varint value, rest)
unfolding payload_front
varint_found type at part rest value type_is is = rw (type_is, is) refl

pub eight_none : (type : ℕ) (source : List ℕ) (at end : ℕ) → end ≤ length source → type ≡ 1 → (8 ≤ end - at → ⊥) → payload_front type at (slice_range source at end) ≡ None
unfolding payload_front
eight_none type source at end within type_is short = rw (type_is, length-slice_range source at end within, lt-leb 8 (end - at) (omega arith)) refl

pub eight_found : (type : ℕ) (source : List ℕ) (at end : ℕ) → end ≤ length source → type ≡ 1 → 8 ≤ end - at → payload_front type at (slice_range source at end) ≡ Some (eight, slice_range source (at + 8) end)
unfolding payload_front
eight_found type source at end within type_is some = rw (type_is, length-slice_range source at end within, le-leb 8 (end - at) some, drop-slice_range source at end 8 some) refl

pub four_none : (type : ℕ) (source : List ℕ) (at end : ℕ) → end ≤ length source → type ≡ 5 → (4 ≤ end - at → ⊥) → payload_front type at (slice_range source at end) ≡ None
unfolding payload_front
four_none type source at end within type_is short = rw (type_is, length-slice_range source at end within, lt-leb 4 (end - at) (omega arith)) refl

pub four_found : (type : ℕ) (source : List ℕ) (at end : ℕ) → end ≤ length source → type ≡ 5 → 4 ≤ end - at → payload_front type at (slice_range source at end) ≡ Some (four, slice_range source (at + 4) end)
unfolding payload_front
four_found type source at end within type_is some = rw (type_is, length-slice_range source at end within, le-leb 4 (end - at) some, drop-slice_range source at end 4 some) refl

pub other_none : (type at : ℕ) (part : List ℕ) → type ≢ 0 → type ≢ 1 → type ≢ 2 → type ≢ 5 → payload_front type at part ≡ None
unfolding payload_front
other_none type at part zero one two five = rw (ne_eqb type 0 zero, ne_eqb type 1 one, ne_eqb type 2 two, ne_eqb type 5 five) refl

pub span_none : (at : ℕ) (part : List ℕ) → number_front part ≡ None → payload_front 2 at part ≡ None
unfolding payload_front
span_none at part is = rw is refl

pub span_past : (source : List ℕ) (at end size start : ℕ) → end ≤ length source → number_front (slice_range source at end) ≡ Some (size, slice_range source start end) → end - start < size → payload_front 2 at (slice_range source at end) ≡ None
unfolding payload_front
span_past source at end size start within is past = rw (is, length-slice_range source start end within, lt-leb size (end - start) past) refl

pub span_found : (source : List ℕ) (at end size start : ℕ) → at ≤ start → start ≤ end → end ≤ length source → number_front (slice_range source at end) ≡ Some (size, slice_range source start end) → size ≤ end - start → payload_front 2 at (slice_range source at end) ≡ Some (bytes start (slice_range source start (start + size)), slice_range source (start + size) end)
unfolding payload_front
span_found source at end size start behind ordered within is small =
    let place : at + (end - at - (end - start)) ≡ start = omega arith in
    rw (is, length-slice_range source start end within, le-leb size (end - start) small, length-slice_range source at end within, place, take-slice_range source start end size small, drop-slice_range source start end size small) refl

-- ---- tags

pub tag_none : (at : ℕ) (part : List ℕ) → number_front part ≡ None → field_front at part ≡ None
unfolding field_front
tag_none at part is = rw is refl

pub tag_zero : (at : ℕ) (part rest : List ℕ) (value : ℕ) → number_front part ≡ Some (value, rest) → value / 8 ≡ 0 → field_front at part ≡ None
unfolding field_front
tag_zero at part rest value is none = rw (is, none) refl

pub tag_past : (at : ℕ) (part rest : List ℕ) (value : ℕ) → number_front part ≡ Some (value, rest) → greatest_number < value / 8 → field_front at part ≡ None
unfolding field_front
tag_past at part rest value is past = rw (is, lt-ltb 0 (value / 8) (omega arith), lt-leb (value / 8) greatest_number past) refl

pub tag_found : (source : List ℕ) (at end value behind : ℕ) → at ≤ behind → behind ≤ end → end ≤ length source → number_front (slice_range source at end) ≡ Some (value, slice_range source behind end) → 0 < value / 8 → value / 8 ≤ greatest_number → field_front at (slice_range source at end) ≡ option_map (field_of (value / 8) at) (payload_front (value % 8) behind (slice_range source behind end))
unfolding field_front
tag_found source at end value behind before ordered within is least most =
    let place : at + (end - at - (end - behind)) ≡ behind = omega arith in
    rw (is, lt-ltb 0 (value / 8) least, le-leb (value / 8) greatest_number most, length-slice_range source at end within, length-slice_range source behind end within, place) refl
