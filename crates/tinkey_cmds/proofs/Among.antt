-- Elements of a list.
use Rattle.std.proofs.Common.{◌≡◌, ◌⊎◌, inl, inr, zero, suc, Bool, true, false, cond, ◌∙◌, List, [], ◌∷◌, Some, Contains, find, refl, sym, ap, arith, subst}
use Rattle.std.specs.Prelude.{ℕ, slice_get}
use Rattle.std.specs.List.{list_any, AllByRecursion}
use Rattle.std.proofs.lemmas.Bool.{or_left, or_right}
use Rattle.std.proofs.lemmas.Option.{same_Some}
use Rattle.tinkey_cmds.proofs.Lists.{none≢some}

abbrev pub Among : {A : Type 0} → A → List A → Type 0
Among x [] = ⊥
Among x (y ∷ ys) = (y ≡ x) ⊎ Among x ys

pub among-all : {A : Type 0} (P : A → Type 0) (xs : List A) (x : A) → AllByRecursion P xs → Among x xs → P x
among-all P [] x h a = absurd a
among-all P (y ∷ ys) x h (inl e) = subst P e h.0
among-all P (y ∷ ys) x h (inr a) = among-all P ys x h.1 a

pub all-among : {A : Type 0} (P : A → Type 0) (xs : List A) → ((x : A) → Among x xs → P x) → AllByRecursion P xs
all-among P [] h = tt
all-among P (y ∷ ys) h = (h y (inl refl), all-among P ys (λ x a. h x (inr a)))

pub among-any : {A : Type 0} (test : A → Bool) (xs : List A) (x : A) → Among x xs → test x ≡ true → list_any test xs ≡ true
among-any test [] x a e = absurd a
among-any test (y ∷ ys) x (inl p) e = or_left (test y) _ (ap test p ∙ e)
among-any test (y ∷ ys) x (inr a) e = or_right (test y) _ (among-any test ys x a e)

-- what is found is there, and passes
pub find-among : {A : Type 0} (test : A → Bool) (xs : List A) (x : A) → find test xs ≡ Some x → Among x xs × (test x ≡ true)
find-among test [] x e = absurd (none≢some e)
find-among {A} test (y ∷ ys) x e = elim (test y) as (λ b. test y ≡ b → cond b (Some y) (find test ys) ≡ Some x → Among x (y ∷ ys) × (test x ≡ true)) [
  | true ↦ λ t k. (inl (same_Some _ _ k), ap test (sym (same_Some _ _ k)) ∙ t)
  | false ↦ λ t k. let r = find-among test ys x k in (inr r.0, r.1)
] refl e

pub contains-among : {A : Type 0} (xs : List A) (x : A) → Among x xs → Contains xs x
contains-among [] x a = absurd a
contains-among (y ∷ ys) x (inl e) = (0, omega arith, e)
contains-among (y ∷ ys) x (inr a) = let c = contains-among ys x a in (suc c.0, omega (arith, c.1), c.2)

pub among-slice_get : {A : Type 0} (xs : List A) (k : ℕ) (x : A) → slice_get xs k ≡ Some x → Among x xs
among-slice_get [] k x e = absurd (none≢some e)
among-slice_get (y ∷ ys) zero x e = inl (same_Some _ _ e)
among-slice_get (y ∷ ys) (suc k) x e = inr (among-slice_get ys k x e)
