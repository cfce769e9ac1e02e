-- What a fault of deriving says.
use Rattle.std.specs.Prelude.{◌≡◌, ℕ, List, Option, Some, Result, Err}
use Rattle.wrapped_prims.specs.declared.making.DeriveFault.{DeriveFault}
use Rattle.wrapped_prims.specs.declared.making.DeriveFault.TheVariants as faults

-- the answer is that there are no more bytes than so many. Of want of memory nothing is said.
abbrev pub IsDeriveFault : Option (Result (List ℕ) ℕ) → DeriveFault → Type 0
IsDeriveFault answer (faults.OutputTooLong greatest) = answer ≡ Some (Err greatest)
IsDeriveFault answer faults.NoMemory = Unit {0}
