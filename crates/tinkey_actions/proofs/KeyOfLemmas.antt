-- One record more, of those that are told and of those that are counted; and some bytes more of a source.
use Rattle.std.proofs.Common.{◌≡◌, ◌∙◌, ap, refl, subst, sym, Bool, true, false, cond, List, [], ◌∷◌, ◌++◌, ℕ, ◌+◌, ◌||◌, get_or, length, take, drop, append-nil}
use Rattle.std.specs.Prelude.{Some, filter, slice_get}
use Rattle.std.specs.List.{flat_map, list_any}
use Rattle.std.proofs.lemmas.List.{flat_map_more}
use Rattle.std.proofs.lemmas.List.Elements.{filter_more}
use Rattle.std.proofs.lemmas.List.Filters.{length-filter_more}
use Rattle.std.proofs.lemmas.List.Folds.{list_any_at, list_any_more}
use Rattle.tink_base.proofs.Fronts.{front_more}
use Rattle.tink_spec.proofs.Moves.{gave_more}
use Rattle.tink_spec.specs.Outside.{Gave, SourceState}
use Rattle.std.proofs.lemmas.Option.{get_or_from_slice_get, slice_get_within}

-- one that passes
kept : {X : Type 0} (p : X → Bool) (xs : List X) (i : ℕ) (x : X) → slice_get xs i ≡ Some x → p x ≡ true → filter p (take (i + 1) xs) ≡ filter p (take i xs) ++ x ∷ []
kept p xs i x there is =
    filter_more p xs i x (slice_get_within xs i x there)
    ∙ ap (λ y. filter p (take i xs) ++ cond (p y) (y ∷ []) []) (get_or_from_slice_get xs i x x there)
    ∙ ap (λ b. filter p (take i xs) ++ cond b (x ∷ []) []) is

-- one that doesn't
left_out : {X : Type 0} (p : X → Bool) (xs : List X) (i : ℕ) (x : X) → slice_get xs i ≡ Some x → p x ≡ false → filter p (take (i + 1) xs) ≡ filter p (take i xs)
left_out p xs i x there is =
    filter_more p xs i x (slice_get_within xs i x there)
    ∙ ap (λ y. filter p (take i xs) ++ cond (p y) (y ∷ []) []) (get_or_from_slice_get xs i x x there)
    ∙ ap (λ b. filter p (take i xs) ++ cond b (x ∷ []) []) is
    ∙ append-nil (filter p (take i xs))

told_more : {X : Type 0} (f : X → List ℕ) (p : X → Bool) (front : List ℕ) (xs : List X) (i : ℕ) (x : X) → slice_get xs i ≡ Some x → p x ≡ true → (front ++ flat_map f (filter p (take i xs))) ++ f x ≡ front ++ flat_map f (filter p (take (i + 1) xs))
told_more f p front xs i x there is = flat_map_more f front (filter p (take i xs)) x ∙ ap (λ l. front ++ flat_map f l) (sym (kept p xs i x there is))

told_same : {X : Type 0} (f : X → List ℕ) (p : X → Bool) (front : List ℕ) (xs : List X) (i : ℕ) (x : X) → slice_get xs i ≡ Some x → p x ≡ false → front ++ flat_map f (filter p (take i xs)) ≡ front ++ flat_map f (filter p (take (i + 1) xs))
told_same f p front xs i x there is = ap (λ l. front ++ flat_map f l) (sym (left_out p xs i x there is))

pub told_next : {X : Type 0} (f : X → List ℕ) (p : X → Bool) (front : List ℕ) (xs : List X) (i : ℕ) (x : X) → slice_get xs i ≡ Some x → (front ++ flat_map f (filter p (take i xs))) ++ cond (p x) (f x) [] ≡ front ++ flat_map f (filter p (take (i + 1) xs))
told_next f p front xs i x there = by (p x) refl
  where
    by : (b : Bool) → p x ≡ b → (front ++ flat_map f (filter p (take i xs))) ++ cond b (f x) [] ≡ front ++ flat_map f (filter p (take (i + 1) xs))
    by true is = told_more f p front xs i x there is
    by false is = append-nil (front ++ flat_map f (filter p (take i xs))) ∙ told_same f p front xs i x there is

pub count_next : {X : Type 0} (p : X → Bool) (xs : List X) (i : ℕ) (x : X) → slice_get xs i ≡ Some x → length (filter p (take (i + 1) xs)) ≡ length (filter p (take i xs)) + cond (p x) 1 0
count_next p xs i x there =
    length-filter_more p xs i x (slice_get_within xs i x there)
    ∙ ap (λ y. length (filter p (take i xs)) + cond (p y) 1 0) (get_or_from_slice_get xs i x x there)

pub any_more : {X : Type 0} (p : X → Bool) (xs : List X) (i : ℕ) (x : X) → slice_get xs i ≡ Some x → list_any p (take i xs) ≡ false → list_any p (take (i + 1) xs) ≡ p x
any_more p xs i x there none =
    list_any_more p xs i x (slice_get_within xs i x there)
    ∙ ap (λ b. b || p (get_or xs i x)) none
    ∙ ap p (get_or_from_slice_get xs i x x there)

pub any_here : {X : Type 0} (p : X → Bool) (xs : List X) (i : ℕ) (x : X) → slice_get xs i ≡ Some x → p x ≡ true → list_any p xs ≡ true
any_here p xs i x there is = list_any_at p xs i x (slice_get_within xs i x there) (ap p (get_or_from_slice_get xs i x x there) ∙ is)

-- bytes that a source gave, and then some more into the same list
pub gave_on : (old mid new : SourceState) (before after : List ℕ) (at n : ℕ) → take at after ≡ take at before → Gave old mid (take at before) → Gave mid new (take n (drop at after)) → Gave old new (take (at + n) after)
gave_on old mid new before after at n same first second =
    subst (λ (p : List ℕ). Gave old new p)
    (ap (λ (l : List ℕ). l ++ take n (drop at after)) (sym same) ∙ front_more after at n)
    (gave_more old mid new (take at before) (take n (drop at after)) first second)
