-- The encrypted bytes of fields, one field after the other.
use Rattle.std.proofs.Common.{◌≡◌, ◌∙◌, ℕ, zero, suc, ◌+◌, ◌≤◌, false, List, [], ◌∷◌, length, drop, refl, ap, subst, arith, eq-eqb, Some, Ok, Err, Result}
use Rattle.std.specs.List.{AllByRecursion}
use Rattle.std.proofs.lemmas.Option.{same_Some}
use Rattle.std.specs.Prelude.{filter, fold, slice_get}
use Rattle.std.specs.Result.{IfErr, IsErrAnd}
use Rattle.std.proofs.lemmas.Bool.{ne_eqb}
use Rattle.tink_spec.specs.Wire.{bytes, WireField, cut}
use Rattle.tink_spec.specs.Messages.{first_other, is_bytes, later_bytes, of_number, unless_at}
use Rattle.proto_wire.specs.Fields.{IsOf, seen, seen_all}
use Rattle.proto_wire.specs.declared.field.Field.{Field}
use Rattle.proto_wire.specs.declared.field.Wire.{Wire}
use Rattle.keyset_model.proofs.KeyLemmas.{seen_from}
use Rattle.seal_wrap.specs.Steps.{IsBytesOf, IsNoBytes}
use Rattle.seal_wrap.specs.Unwrapped.{encrypted_in, is_known, sealed_in_binary, OuterWire}

-- ---- the bytes of one field

-- ---- the fields one after the other

-- the bytes that these fields give behind others
abbrev pub encrypted_from : ℕ × List ℕ → List WireField → Result (List ℕ) ℕ
encrypted_from before fields =
    unless_at (first_other is_bytes (filter is_known fields)) (fold (λ before field. later_bytes before field.payload) before (of_number 2 fields)).1

takes : (before : ℕ × List ℕ) (field : WireField) (rest : List WireField) (start : ℕ) (content : List ℕ) → field.number ≡ 2 → field.payload ≡ bytes start content
    → encrypted_from before (field ∷ rest) ≡ encrypted_from (start, content) rest
takes before field rest start content same payload = rw (eq-eqb field.number 2 same, payload) refl

three_two : (number : ℕ) → number ≡ 3 → (number ≡ 2 → ⊥)
three_two number three two = absurd (omega arith)

passes : (before : ℕ × List ℕ) (field : WireField) (rest : List WireField) (start : ℕ) (content : List ℕ) → field.number ≡ 3 → field.payload ≡ bytes start content
    → encrypted_from before (field ∷ rest) ≡ encrypted_from before rest
passes before field rest start content same payload =
    let other : field.number ≡ 2 → ⊥ = three_two field.number same in
    rw (ne_eqb field.number 2 other, eq-eqb field.number 3 same, payload) refl

skips : (before : ℕ × List ℕ) (field : WireField) (rest : List WireField) → (field.number ≡ 2 → ⊥) → (field.number ≡ 3 → ⊥)
    → encrypted_from before (field ∷ rest) ≡ encrypted_from before rest
skips before field rest two three = rw (ne_eqb field.number 2 two, ne_eqb field.number 3 three) refl

stops_two : (before : ℕ × List ℕ) (field : WireField) (rest : List WireField) → field.number ≡ 2 → is_bytes field.payload ≡ false
    → encrypted_from before (field ∷ rest) ≡ Err field.at
stops_two before field rest same other = rw (eq-eqb field.number 2 same, other) refl

stops_three : (before : ℕ × List ℕ) (field : WireField) (rest : List WireField) → field.number ≡ 3 → is_bytes field.payload ≡ false
    → encrypted_from before (field ∷ rest) ≡ Err field.at
stops_three before field rest same other =
    let two : field.number ≡ 2 → ⊥ = three_two field.number same in
    rw (ne_eqb field.number 2 two, eq-eqb field.number 3 same, other) refl

-- the bytes that the fields before a place give, and what the fields from there on add
pub record EncryptedSoFar (source : List ℕ) (message : List Field) (i : ℕ) (sealed : List ℕ) : Type 0 where
  pub within : length sealed ≤ length source
  pub read : (start : ℕ) × (encrypted_in (seen_all source message) ≡ encrypted_from (start, sealed) (seen_all source (drop i message)))

module _ (source : List ℕ) (message : List Field) (i : ℕ) (sealed : List ℕ) (field : Field) (before : EncryptedSoFar source message i sealed) (there : slice_get message i ≡ Some field) where
  abbrev rest : List WireField
  rest = seen_all source (drop (i + 1) message)

  from : encrypted_in (seen_all source message) ≡ encrypted_from (before.read.0, sealed) (seen source field ∷ seen_all source (drop (i + 1) message))
  from = before.read.1 ∙ ap (encrypted_from (before.read.0, sealed)) (seen_from source message i field there)

  pub so_far_takes : (content : List ℕ) → field.number ≡ 2 → IsBytesOf source field content → EncryptedSoFar source message (i + 1) content
  so_far_takes content same is = record {
    within = is.within;
    read = (field.start, from ∙ takes (before.read.0, sealed) (seen source field) rest field.start content same is.payload);
  }

  pub so_far_passes : (content : List ℕ) → field.number ≡ 3 → IsBytesOf source field content → EncryptedSoFar source message (i + 1) sealed
  so_far_passes content same is = record {
    within = before.within;
    read = (before.read.0, from ∙ passes (before.read.0, sealed) (seen source field) rest field.start content same is.payload);
  }

  pub so_far_skips : (field.number ≡ 2 → ⊥) → (field.number ≡ 3 → ⊥) → EncryptedSoFar source message (i + 1) sealed
  so_far_skips two three = record {
    within = before.within;
    read = (before.read.0, from ∙ skips (before.read.0, sealed) (seen source field) rest two three);
  }

  pub so_far_stops_two : (place : ℕ) → field.number ≡ 2 → IsNoBytes source field place → encrypted_in (seen_all source message) ≡ Err place
  so_far_stops_two place same is = from ∙ stops_two (before.read.0, sealed) (seen source field) rest same is.other ∙ ap Err is.at

  pub so_far_stops_three : (place : ℕ) → field.number ≡ 3 → IsNoBytes source field place → encrypted_in (seen_all source message) ≡ Err place
  so_far_stops_three place same is = from ∙ stops_three (before.read.0, sealed) (seen source field) rest same is.other ∙ ap Err is.at

pub fault_handed_on : {T : Type 0} (r : Result T Wire) (wire : Wire) (read : Result (List ℕ) ℕ) → IsErrAnd r (λ e. e ≡ wire) → read ≡ Err wire.at → IfErr r (λ e. read ≡ Err e.at)
fault_handed_on (Ok content) wire read is at = absurd is
fault_handed_on (Err e) wire read is at = rw is at

-- ---- the whole text

pub cut_fails : (text : List ℕ) (place : ℕ) → cut 0 text ≡ Err place → sealed_in_binary text ≡ Err (OuterWire place)
unfolding sealed_in_binary
cut_fails text place e = rw e refl

pub cut_gives : (text : List ℕ) (fields : List WireField) (sealed : List ℕ) → cut 0 text ≡ Ok fields → encrypted_in fields ≡ Ok sealed → sealed_in_binary text ≡ Ok sealed
unfolding sealed_in_binary
cut_gives text fields sealed e is = rw (e, is) refl

pub cut_stops : (text : List ℕ) (fields : List WireField) (place : ℕ) → cut 0 text ≡ Ok fields → encrypted_in fields ≡ Err place → sealed_in_binary text ≡ Err (OuterWire place)
unfolding sealed_in_binary
cut_stops text fields place e is = rw (e, is) refl

-- ---- fields of a source

pub of_source : (source : List ℕ) (fields : List Field) (i : ℕ) (field : Field) → AllByRecursion (IsOf source) fields → slice_get fields i ≡ Some field → IsOf source field
of_source source [] i field all there = absurd (cc)
of_source source (x ∷ xs) zero field all there = subst (IsOf source) (same_Some _ _ there) all.0
of_source source (x ∷ xs) (suc i) field all there = of_source source xs i field all.1 there
