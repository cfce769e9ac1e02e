-- What each template of the table has, by a test of every row.
use Rattle.std.proofs.Common.{◌≡◌, zero, suc, ℕ, ◌≤◌, nat_le, Bool, true, List, [], ◌∷◌, length, Contains, refl, subst, arith}
use Rattle.std.specs.List.{AllByRecursion, list_all}
use Rattle.std.proofs.lemmas.Bool.{and_parts}
use Rattle.key_msgs.specs.Keys.{IsValid}
use Rattle.key_msgs.specs.Templates.{MadeKeysAreValid, Row, made, random_of, templates}

-- what is contained has what each has
pub each-contains : {A : Type 0} (P : A → Type 0) (xs : List A) (x : A) → AllByRecursion P xs → Contains xs x → P x
each-contains P [] x h c = absurd (omega (arith, c.1))
each-contains P (y ∷ ys) x h (zero, within, is) = subst P is h.0
each-contains P (y ∷ ys) x h (suc k, within, is) = each-contains P ys x h.1 (k, omega arith, is)

pub all_each : {A : Type 0} (test : A → Bool) (xs : List A) → list_all test xs ≡ true → AllByRecursion (λ x. test x ≡ true) xs
all_each test [] e = tt
all_each test (x ∷ xs) e = let both = and_parts (test x) (list_all test xs) e in (both.0, all_each test xs both.1)

-- what every row passes
pub each_row : (test : Row → Bool) → list_all test templates ≡ true → (row : Row) → Contains templates row → test row ≡ true
each_row test all row is = each-contains (λ x. test x ≡ true) templates row (all_each test templates all) is

pub leb-le : (a b : ℕ) → nat_le a b ≡ true → a ≤ b
leb-le a b e = grind arith

-- how many random bytes a template takes
pub most_random : (row : Row) → Contains templates row → random_of row ≤ 64
most_random row is = leb-le _ _ (each_row (λ x. nat_le (random_of x) 64) refl row is)

pub least_random : (row : Row) → Contains templates row → 1 ≤ random_of row
least_random row is = leb-le _ _ (each_row (λ x. nat_le 1 (random_of x)) refl row is)

-- its keys are valid
pub made_valid : MadeKeysAreValid → (row : Row) (random : List ℕ) → Contains templates row → length random ≡ random_of row → IsValid (made row random)
made_valid law row random is whole =
    each-contains (λ x. (bytes : List ℕ) → length bytes ≡ random_of x → IsValid (made x bytes)) templates row law is random whole
