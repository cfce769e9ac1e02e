-- Lists, tests and options.
use Rattle.std.proofs.lemmas.Option.{same_Some}
use Rattle.std.specs.Prelude.{is_some, slice_get, drop, zero}
use Rattle.std.proofs.Common.{◌≡◌, ◌∙◌, sym, ℕ, suc, ◌+◌, Bool, true, false, List, [], ◌∷◌, ◌++◌, length, position, Option, Some, None, refl, ap, arith, add-one, ◌<◌}
use Rattle.std.specs.List.{list_any, AllByRecursion}
use Rattle.keyset_model.proofs.WellFormedLemmas.{any-position, position-none}

pub none≢some : {A : Type 0} {x : A} → None ≡ Some x → ⊥
none≢some e = grind arith

pub some≢none : {A : Type 0} {x : A} → Some x ≡ None → ⊥
some≢none e = grind arith

-- ---- tests

pub each-append : {A : Type 0} (P : A → Type 0) (xs ys : List A) → AllByRecursion P xs → AllByRecursion P ys → AllByRecursion P (xs ++ ys)
each-append P [] ys h k = k
each-append P (x ∷ xs) ys h k = (h.0, each-append P xs ys h.1 k)

pub each-weaker : {A : Type 0} (P Q : A → Type 0) (xs : List A) → ((x : A) → P x → Q x) → AllByRecursion P xs → AllByRecursion Q xs
each-weaker P Q [] f h = tt
each-weaker P Q (x ∷ xs) f h = (f x h.0, each-weaker P Q xs f h.1)

-- a place is found exactly where an element passes
pub some-position : {A : Type 0} (p : A → Bool) (xs : List A) → is_some (position p xs) ≡ list_any p xs
some-position {A} p xs = elim (position p xs) as (λ (o : Option ℕ). position p xs ≡ o → is_some o ≡ list_any p xs) [
  | None ↦ λ e. sym (any-position p xs e)
  | Some i ↦ λ e. elim (list_any p xs) as (λ b. list_any p xs ≡ b → true ≡ b) [
    | true ↦ λ k. refl
    | false ↦ λ k. absurd (some≢none (sym e ∙ position-none p xs k))
  ] refl
] refl

-- the elements from a place on
drop-suc : {A : Type 0} (xs : List A) (i : ℕ) (x : A) → slice_get xs i ≡ Some x → drop i xs ≡ x ∷ drop (suc i) xs
drop-suc [] i x e = absurd (none≢some e)
drop-suc (y ∷ ys) zero x e = ap (λ z. z ∷ ys) (same_Some _ _ e)
drop-suc (y ∷ ys) (suc i) x e = drop-suc ys i x e

pub drop-next : {A : Type 0} (xs : List A) (i : ℕ) (x : A) → slice_get xs i ≡ Some x → drop i xs ≡ x ∷ drop (i + 1) xs
drop-next xs i x e = rw add-one (drop-suc xs i x e)

-- an element of each place
pub slice-there : {A : Type 0} (xs : List A) (i : ℕ) → i < length xs → (x : A) × (slice_get xs i ≡ Some x)
slice-there [] i l = absurd (omega arith)
slice-there (y ∷ ys) zero l = (y, refl)
slice-there (y ∷ ys) (suc i) l = slice-there ys i (omega arith)
