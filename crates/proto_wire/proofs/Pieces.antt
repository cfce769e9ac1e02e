-- The loop over the fields of a part: those that were read, before those that the rest is cut into.
use Rattle.std.proofs.Common.{◌≡◌, ◌∙◌, ap, sym, refl, subst, ℕ, ◌+◌, ◌-◌, ◌<◌, ◌≤◌, ◌⊎◌, inl, inr, List, [], ◌∷◌, ◌++◌, length, arith, Some, None, Result, Ok, Err}
use Rattle.std.specs.Prelude.{slice_range, IfOk, IsErrOf, IsSome}
use Rattle.std.specs.List.{AllByRecursion}
use Rattle.std.proofs.lemmas.List.{append_assoc, append-nil, map-append}
use Rattle.tink_spec.specs.Wire.{WireField, IsCutInto, FailsAt, field_front, with_field, cut_within, cut}
use Rattle.tink_spec.specs.Messages.{joined}
use Rattle.proto_wire.specs.Fields.{seen, seen_all, IsOf, GivesFields}
use Rattle.proto_wire.specs.declared.field.Field.{Field}
use Rattle.proto_wire.specs.declared.field.Wire.{Wire}
use Rattle.proto_wire.specs.declared.field.FieldsError.{FieldsError}
use Rattle.proto_wire.specs.declared.field.FieldsError.TheVariants as errors
use Rattle.proto_wire.proofs.Cuts.{cut-step, cut-stop, cut-spells, cut-fails, cut-of, cut-fails_at}
use Rattle.proto_wire.proofs.Places.{length-slice_range}

-- the state at the place `at`
pub record IsRead (source : List ℕ) (start at end : ℕ) (items : List Field) : Type 0 where
  pub behind : start ≤ at
  pub within : at ≤ end
  pub rest : cut start (slice_range source start end) ≡ joined (Ok (seen_all source items)) (cut at (slice_range source at end))
  pub of_source : AllByRecursion (IsOf source) items
  -- a field stands at the front, once one was read
  pub front : (start ≡ at) ⊎ IsSome (field_front start (slice_range source start end))

joined-with_field : (fields : List WireField) (field : WireField) (rest : Result (List WireField) ℕ) → joined (Ok fields) (with_field field rest) ≡ joined (Ok (fields ++ field ∷ [])) rest
joined-with_field fields field (Ok more) = ap (λ (all : List WireField). Ok all) (sym (append_assoc fields (field ∷ []) more))
joined-with_field fields field (Err place) = refl

of_source-push : (source : List ℕ) (items : List Field) (field : Field) → AllByRecursion (IsOf source) items → IsOf source field → AllByRecursion (IsOf source) (items ++ field ∷ [])
of_source-push source [] field all one = (one, tt)
of_source-push source (first ∷ items) field all one = (all.0, of_source-push source items field all.1 one)

-- with the field that is read at the place, one stands at the front
pub front-read : (source : List ℕ) (start at end : ℕ) (items : List Field) (read : WireField × List ℕ) → IsRead source start at end items → field_front at (slice_range source at end) ≡ Some read → IsSome (field_front start (slice_range source start end))
front-read source start at end items read state is = by state.front
  where
    by : (start ≡ at) ⊎ IsSome (field_front start (slice_range source start end)) → IsSome (field_front start (slice_range source start end))
    by (inl same) = subst (λ (n : ℕ). IsSome (field_front n (slice_range source n end))) (sym same) (rw is refl)
    by (inr there) = there

pub read-more : (source : List ℕ) (start at end next : ℕ) (items : List Field) (field : Field) → end ≤ length source → IsRead source start at end items → at < next → next ≤ end → field_front at (slice_range source at end) ≡ Some (seen source field, slice_range source next end) → IsOf source field → IsRead source start next end (items ++ field ∷ [])
read-more source start at end next items field within state later ordered is one =
    let place : at + (length (slice_range source at end) - length (slice_range source next end)) ≡ next =
    omega (arith, length-slice_range source at end within, length-slice_range source next end within, state.within) in
    record {
      behind = omega (arith, state.behind);
      within = ordered;
      rest = state.rest
          ∙ ap (joined (Ok (seen_all source items))) (cut-step at (slice_range source at end) (seen source field, slice_range source next end) is
          ∙ ap (λ (n : ℕ). with_field (seen source field) (cut n (slice_range source next end))) place)
          ∙ joined-with_field (seen_all source items) (seen source field) (cut next (slice_range source next end))
          ∙ ap (λ (all : List WireField). joined (Ok all) (cut next (slice_range source next end))) (sym (map-append (seen source) items (field ∷ [])));
      of_source = of_source-push source items field state.of_source one;
      front = inr (front-read source start at end items (seen source field, slice_range source next end) state is);
    }

-- where no field is at the place, it is the place at fault
pub read-stop : (source : List ℕ) (start at end : ℕ) (items : List Field) → end ≤ length source → IsRead source start at end items → at < end → field_front at (slice_range source at end) ≡ None → cut start (slice_range source start end) ≡ Err at
read-stop source start at end items within state more is =
    state.rest ∙ ap (joined (Ok (seen_all source items))) (cut-stop at (slice_range source at end) (omega (arith, length-slice_range source at end within)) is)

pub read-end : (source : List ℕ) (start at end : ℕ) (items : List Field) → IsRead source start at end items → end ≤ at → cut start (slice_range source start end) ≡ Ok (seen_all source items)
unfolding cut_within
read-end source start at end items state past =
    let none : end - at ≡ 0 = omega arith in
    let nothing : cut at (slice_range source at end) ≡ Ok [] = rw none refl in
    state.rest ∙ ap (joined (Ok (seen_all source items))) nothing ∙ ap (λ (all : List WireField). Ok all) (append-nil (seen_all source items))

-- ---- what the answer says by the relations

pub gives-spelled : (source : List ℕ) (start : ℕ) (part : List ℕ) (result : Result (List Field) FieldsError) → GivesFields source result (cut start part) → IfOk result (λ fields. IsCutInto start part (seen_all source fields))
gives-spelled source start part (Ok fields) gives = cut-spells start part (seen_all source fields) gives
gives-spelled source start part (Err error) gives = tt

pub gives-only : (source : List ℕ) (start : ℕ) (part : List ℕ) (result : Result (List Field) FieldsError) → GivesFields source result (cut start part) → (others : List WireField) → IsCutInto start part others → GivesFields source result (Ok others)
gives-only source start part result gives others is = subst (GivesFields source result) (cut-of start part others is) gives

pub gives-fails : (source : List ℕ) (start : ℕ) (part : List ℕ) (result : Result (List Field) FieldsError) → GivesFields source result (cut start part) → (wire : Wire) → IsErrOf result (errors.Wire wire) → FailsAt start part wire.at
gives-fails source start part result gives wire is =
    cut-fails start part wire.at (subst (λ (answer : Result (List Field) FieldsError). GivesFields source answer (cut start part)) is gives)

pub gives-fails_only : (source : List ℕ) (start : ℕ) (part : List ℕ) (result : Result (List Field) FieldsError) → GivesFields source result (cut start part) → (place : ℕ) → FailsAt start part place → GivesFields source result (Err place)
gives-fails_only source start part result gives place fails = subst (GivesFields source result) (cut-fails_at start part place fails) gives
