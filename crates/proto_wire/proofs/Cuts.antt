-- A part is cut as the relations say, both ways, and field by field.
use Rattle.std.proofs.Common.{◌≡◌, ◌∙◌, ap, sym, refl, subst, ℕ, zero, suc, ◌+◌, ◌-◌, ◌*◌, ◌<◌, ◌≤◌, List, [], ◌∷◌, ◌++◌, length, arith, Option, Some, None, Result, Ok, Err, add-zero}
use Rattle.std.proofs.lemmas.List.{append_assoc, append-nil, length-append}
use Rattle.tink_spec.specs.Varint.{IsVarint, SpellsNumber}
use Rattle.tink_spec.specs.Wire.{Payload, varint, eight, bytes, four, WireField, wire_type, SpellsPayload, SpellsField, IsCutInto, FailsAt, field_front, with_field, cut_front, cut_within, cut}
use Rattle.tink_spec.specs.Messages.{joined}
use Rattle.proto_wire.proofs.Spellings.{FieldSpelled, IsField, field_front-spells, field_front-of}

some_byte : (part : List ℕ) → IsVarint part → 0 < length part
some_byte [] form = absurd form
some_byte (b ∷ part) form = omega arith

pub spelling-some : (spelling : List ℕ) (field : WireField) → SpellsField spelling field → 0 < length spelling
spelling-some spelling field spells = omega (arith, some_byte spells.tag spells.tagged.form, length-append spells.tag spells.behind, ap length spells.whole)

pub rest-shorter : (at : ℕ) (part rest : List ℕ) (field : WireField) → FieldSpelled at part field rest → length rest < length part
rest-shorter at part rest field is = omega (arith, spelling-some is.spelling field is.spells, length-append is.spelling rest, ap length is.whole)

-- ---- more than enough changes nothing

front-enough : (m n at : ℕ) (part : List ℕ) → length part ≤ suc m → length part ≤ suc n → ((place : ℕ) (rest : List ℕ) → length rest ≤ m → length rest ≤ n → cut_within m place rest ≡ cut_within n place rest) → (front : Option (WireField × List ℕ)) → IsField at part front → cut_front at front (λ rest. cut_within m (at + (length part - length rest)) rest) ≡ cut_front at front (λ rest. cut_within n (at + (length part - length rest)) rest)
front-enough m n at part small few same None is = refl
front-enough m n at part small few same (Some read) is =
    let shorter : length read.1 < length part = rest-shorter at part read.1 read.0 is in
    ap (with_field read.0) (same (at + (length part - length read.1)) read.1 (omega arith) (omega arith))

cut_within-enough : (m n at : ℕ) (part : List ℕ) → length part ≤ m → length part ≤ n → cut_within m at part ≡ cut_within n at part
unfolding cut_within
cut_within-enough zero zero at part small few = refl
cut_within-enough zero (suc n) at [] small few = refl
cut_within-enough zero (suc n) at (b ∷ part) small few = absurd (omega arith)
cut_within-enough (suc m) zero at [] small few = refl
cut_within-enough (suc m) zero at (b ∷ part) small few = absurd (omega arith)
cut_within-enough (suc m) (suc n) at [] small few = refl
cut_within-enough (suc m) (suc n) at (b ∷ part) small few =
    front-enough m n at (b ∷ part) small few (λ place rest. cut_within-enough m n place rest) (field_front at (b ∷ part)) (field_front-spells at (b ∷ part))

-- ---- one field

-- the field at the front, before those of the rest
pub cut-step : (at : ℕ) (part : List ℕ) (read : WireField × List ℕ) → field_front at part ≡ Some read → cut at part ≡ with_field read.0 (cut (at + (length part - length read.1)) read.1)
unfolding cut_within
cut-step at [] read is =
    let field : FieldSpelled at [] read.0 read.1 = subst (IsField at []) is (field_front-spells at []) in
    let shorter : length read.1 < 0 = rest-shorter at [] read.1 read.0 field in
    absurd (omega arith)
cut-step at (b ∷ part) read is =
    let field : FieldSpelled at (b ∷ part) read.0 read.1 = subst (IsField at (b ∷ part)) is (field_front-spells at (b ∷ part)) in
    let shorter : length read.1 < length (b ∷ part) = rest-shorter at (b ∷ part) read.1 read.0 field in
    rw is (ap (with_field read.0) (cut_within-enough (length part) (length read.1) (at + (length (b ∷ part) - length read.1)) read.1 (omega arith) (omega arith)))

pub cut-stop : (at : ℕ) (part : List ℕ) → 0 < length part → field_front at part ≡ None → cut at part ≡ Err at
unfolding cut_within
cut-stop at [] some is = absurd (omega arith)
cut-stop at (b ∷ part) some is = rw is refl

-- ---- a spelling serves at any place

moved_payload : (other at : ℕ) (spelling : List ℕ) (payload : Payload) → SpellsPayload at spelling payload → (moved : Payload) × SpellsPayload other spelling moved × (wire_type moved ≡ wire_type payload)
moved_payload other at spelling (varint value) spells = (varint value, spells, refl)
moved_payload other at spelling eight spells = (eight, spells, refl)
moved_payload other at spelling (bytes start content) (size, spells, whole, place) = (bytes (other + length size) content, (size, spells, whole, refl), refl)
moved_payload other at spelling four spells = (four, spells, refl)

-- where no field is read, none is spelled
none_spelled : (at : ℕ) (part spelling more : List ℕ) (field : WireField) → field_front at part ≡ None → spelling ++ more ≡ part → SpellsField spelling field → ⊥
none_spelled at part spelling more field is whole spells =
    let moved = moved_payload (at + length spells.tag) (field.at + length spells.tag) spells.behind field.payload spells.spelled in
    let there : WireField = record { number = field.number; at = at; payload = moved.0 } in
    let spells_there : SpellsField spelling there = record {
      tag = spells.tag;
      behind = spells.behind;
      whole = spells.whole;
      least = spells.least;
      most = spells.most;
      tagged = subst (λ (type : ℕ). SpellsNumber spells.tag (field.number * 8 + type)) (sym moved.2) spells.tagged;
      spelled = moved.1;
    } in
    let found : field_front at part ≡ Some (there, more) = subst (λ (l : List ℕ). field_front at l ≡ Some (there, more)) whole (field_front-of spelling more there spells_there) in
    cc

none_read : (at : ℕ) (part : List ℕ) → ((spelling more : List ℕ) (field : WireField) → spelling ++ more ≡ part → SpellsField spelling field → ⊥) → (front : Option (WireField × List ℕ)) → IsField at part front → front ≡ None
none_read at part unspelled None is = refl
none_read at part unspelled (Some read) is = absurd (unspelled is.spelling read.1 read.0 is.whole is.spells)

-- ---- what cut answers is spelled so

abbrev IsCut : ℕ → List ℕ → Result (List WireField) ℕ → Type 0
IsCut at part (Ok fields) = IsCutInto at part fields
IsCut at part (Err place) = FailsAt at part place

cut_behind : (at next : ℕ) (part rest : List ℕ) (field : WireField) (is : FieldSpelled at part field rest) → next ≡ at + length is.spelling → (behind : Result (List WireField) ℕ) → IsCut next rest behind → IsCut at part (with_field field behind)
cut_behind at next part rest field is next_is (Ok fields) later =
    (is.spelling, rest, is.whole, is.here, is.spells, subst (λ (n : ℕ). IsCutInto n rest fields) next_is later)
cut_behind at next part rest field is next_is (Err place) later = record {
  fields = field ∷ later.fields;
  front = is.spelling ++ later.front;
  rest = later.rest;
  whole = append_assoc is.spelling later.front later.rest ∙ ap (λ (l : List ℕ). is.spelling ++ l) later.whole ∙ is.whole;
  cut = (is.spelling, later.front, refl, is.here, is.spells, subst (λ (n : ℕ). IsCutInto n later.front later.fields) next_is later.cut);
  is = omega (arith, later.is, next_is, length-append is.spelling later.front);
  some = later.some;
  none = later.none;
}

front_cut : (n at : ℕ) (part : List ℕ) → 0 < length part → length part ≤ suc n → ((place : ℕ) (rest : List ℕ) → length rest ≤ n → IsCut place rest (cut_within n place rest)) → (front : Option (WireField × List ℕ)) → field_front at part ≡ front → IsField at part front → IsCut at part (cut_front at front (λ rest. cut_within n (at + (length part - length rest)) rest))
front_cut n at part some small later None is front = record {
  fields = [];
  front = [];
  rest = part;
  whole = refl;
  cut = refl;
  is = sym (add-zero at);
  some = some;
  none = λ spelling more field whole spells. none_spelled at part spelling more field is whole spells;
}
front_cut n at part some small later (Some read) is front =
    let shorter : length read.1 < length part = rest-shorter at part read.1 read.0 front in
    let next : at + (length part - length read.1) ≡ at + length front.spelling = omega (arith, length-append front.spelling read.1, ap length front.whole) in
    cut_behind at (at + (length part - length read.1)) part read.1 read.0 front next (cut_within n (at + (length part - length read.1)) read.1) (later (at + (length part - length read.1)) read.1 (omega arith))

cut_within-is : (n at : ℕ) (part : List ℕ) → length part ≤ n → IsCut at part (cut_within n at part)
unfolding cut_within
cut_within-is zero at [] small = refl
cut_within-is zero at (b ∷ part) small = absurd (omega arith)
cut_within-is (suc n) at [] small = refl
cut_within-is (suc n) at (b ∷ part) small =
    front_cut n at (b ∷ part) (omega arith) small (λ place rest. cut_within-is n place rest) (field_front at (b ∷ part)) refl (field_front-spells at (b ∷ part))

pub cut-spells : (at : ℕ) (part : List ℕ) (fields : List WireField) → cut at part ≡ Ok fields → IsCutInto at part fields
cut-spells at part fields is = subst (IsCut at part) is (cut_within-is (length part) at part (omega arith))

pub cut-fails : (at : ℕ) (part : List ℕ) (place : ℕ) → cut at part ≡ Err place → FailsAt at part place
cut-fails at part place is = subst (IsCut at part) is (cut_within-is (length part) at part (omega arith))

-- ---- what is spelled is what cut answers

pub joined-nothing : (read : Result (List WireField) ℕ) → joined (Ok []) read ≡ read
joined-nothing (Ok fields) = refl
joined-nothing (Err place) = refl

with_field-joined : (field : WireField) (fields : List WireField) (read : Result (List WireField) ℕ) → with_field field (joined (Ok fields) read) ≡ joined (Ok (field ∷ fields)) read
with_field-joined field fields (Ok more) = refl
with_field-joined field fields (Err place) = refl

-- the fields of a front, before those of the rest
cut-append : (at : ℕ) (front rest : List ℕ) (fields : List WireField) → IsCutInto at front fields → cut at (front ++ rest) ≡ joined (Ok fields) (cut (at + length front) rest)
cut-append at front rest [] is =
    subst (λ (l : List ℕ). cut at (l ++ rest) ≡ joined (Ok []) (cut (at + length l) rest)) (sym is) (rw (add-zero at) (sym (joined-nothing (cut at rest))))
cut-append at front rest (field ∷ fields) (spelling, behind, whole, here, spells, later) =
    let all : spelling ++ (behind ++ rest) ≡ front ++ rest = sym (append_assoc spelling behind rest) ∙ ap (λ (l : List ℕ). l ++ rest) whole in
    let read : field_front at (spelling ++ (behind ++ rest)) ≡ Some (field, behind ++ rest) =
    subst (λ (n : ℕ). field_front n (spelling ++ (behind ++ rest)) ≡ Some (field, behind ++ rest)) here (field_front-of spelling (behind ++ rest) field spells) in
    let found : field_front at (front ++ rest) ≡ Some (field, behind ++ rest) = subst (λ (l : List ℕ). field_front at l ≡ Some (field, behind ++ rest)) all read in
    let next : at + (length (front ++ rest) - length (behind ++ rest)) ≡ at + length spelling = omega (arith, length-append spelling (behind ++ rest), ap length all) in
    let last : at + length spelling + length behind ≡ at + length front = omega (arith, length-append spelling behind, ap length whole) in
    cut-step at (front ++ rest) (field, behind ++ rest) found
    ∙ ap (λ (n : ℕ). with_field field (cut n (behind ++ rest))) next
    ∙ ap (with_field field) (cut-append (at + length spelling) behind rest fields later)
    ∙ with_field-joined field fields (cut (at + length spelling + length behind) rest)
    ∙ ap (λ (n : ℕ). joined (Ok (field ∷ fields)) (cut n rest)) last

pub cut-of : (at : ℕ) (part : List ℕ) (fields : List WireField) → IsCutInto at part fields → cut at part ≡ Ok fields
unfolding cut_within
cut-of at part fields is =
    ap (λ (l : List ℕ). cut at l) (sym (append-nil part)) ∙ cut-append at part [] fields is ∙ ap (λ (all : List WireField). Ok all) (append-nil fields)

pub cut-fails_at : (at : ℕ) (part : List ℕ) (place : ℕ) → FailsAt at part place → cut at part ≡ Err place
cut-fails_at at part place fails =
    let unread : field_front (at + length fails.front) fails.rest ≡ None =
    none_read (at + length fails.front) fails.rest fails.none (field_front (at + length fails.front) fails.rest) (field_front-spells (at + length fails.front) fails.rest) in
    ap (λ (l : List ℕ). cut at l) (sym fails.whole)
    ∙ cut-append at fails.front fails.rest fails.fields fails.cut
    ∙ ap (joined (Ok fails.fields)) (cut-stop (at + length fails.front) fails.rest fails.some unread)
    ∙ ap (λ (n : ℕ). Err n) (sym fails.is)
