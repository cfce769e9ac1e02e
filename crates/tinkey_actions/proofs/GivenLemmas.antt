-- How much a store has given, of one call of it.
use Rattle.std.proofs.Common.{arith, ◌≡◌, ◌^◌, ℕ, ◌+◌, ◌-◌, ◌≤◌, subst, sym}
use Rattle.std.specs.Prelude.{min}
use Rattle.tink_spec.specs.Files.{StoreState, more_given}
use Rattle.tinkey_plans.specs.Ends.{GaveWithin}

least : (a b : ℕ) → min a b ≤ a
least a b = grind (arith)

pub gave_some : (old new : StoreState) (count : ℕ) → new.given ≡ more_given old.given count → GaveWithin old new count
gave_some old new count is = subst (λ (n : ℕ). n ≤ old.given + count) (sym is) (least (old.given + count) (2 ^ 64 - 1))

pub gave_none : (old new : StoreState) → new.given ≡ old.given → GaveWithin old new 0
gave_none old new is = omega (arith, is)
