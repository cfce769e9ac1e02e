-- What a walk over a list finds first.
use Rattle.std.proofs.Common.{◌≡◌, ℕ, ◌+◌, ◌<◌, ◌≤◌, List, Bool, true, false, length, get_or, drop, refl, Some, None, add-one, drop-cons, ◌∙◌, ap, sym, arith, inl, inr}
use Rattle.std.specs.Prelude.{find}
use Rattle.std.specs.List.{slice_get}
use Rattle.std.proofs.lemmas.Option.{slice_get_within, slice_get-get_or, slice_get_cases}
use Rattle.std.proofs.Math.ListN.{drop_of_length-le}

pub find-passes : {X : Type 0} (test : X → Bool) (xs : List X) (i : ℕ) (d : X) → i < length xs → test (get_or xs i d) ≡ false → find test (drop i xs) ≡ find test (drop (i + 1) xs)
find-passes test xs i d within other = rw (add-one, drop-cons xs i d within, other) refl

pub find-stops : {X : Type 0} (test : X → Bool) (xs : List X) (i : ℕ) (d : X) → i < length xs → test (get_or xs i d) ≡ true → find test (drop i xs) ≡ Some (get_or xs i d)
find-stops test xs i d within same = rw (drop-cons xs i d within, same) refl

pub find-end : {X : Type 0} (test : X → Bool) (xs : List X) (i : ℕ) → length xs ≤ i → find test (drop i xs) ≡ None
find-end test xs i past = rw (drop_of_length-le xs past) refl

get_or-slice_get : {X : Type 0} (xs : List X) (i : ℕ) (x : X) → slice_get xs i ≡ Some x → get_or xs i x ≡ x
get_or-slice_get xs i x is =
    let found : Some (get_or xs i x) ≡ Some x = sym (slice_get-get_or xs i x (slice_get_within xs i x is)) ∙ is in
    cc

-- the same by the element at a place, where there is one
pub find-passes_some : {X : Type 0} (test : X → Bool) (xs : List X) (i : ℕ) (x : X) → Some x ≡ slice_get xs i → test x ≡ false → find test (drop i xs) ≡ find test (drop (i + 1) xs)
find-passes_some test xs i x is other =
    find-passes test xs i x (slice_get_within xs i x (sym is)) (ap test (get_or-slice_get xs i x (sym is)) ∙ other)

pub find-stops_some : {X : Type 0} (test : X → Bool) (xs : List X) (i : ℕ) (x : X) → Some x ≡ slice_get xs i → test x ≡ true → find test (drop i xs) ≡ Some x
find-stops_some test xs i x is same =
    find-stops test xs i x (slice_get_within xs i x (sym is)) (ap test (get_or-slice_get xs i x (sym is)) ∙ same) ∙ ap Some (get_or-slice_get xs i x (sym is))

-- where there is none, nothing more is found
pub find-none : {X : Type 0} (test : X → Bool) (xs : List X) (i : ℕ) → None ≡ slice_get xs i → find test (drop i xs) ≡ find test (drop (i + 1) xs)
find-none test xs i is = elim (slice_get_cases xs i).1 [
  | inl there ↦ let some : slice_get xs i ≡ Some there.0 = there.2 in absurd cc
  | inr past ↦ find-end test xs i past.0 ∙ sym (find-end test xs (i + 1) (omega (arith, past.0)))
]
