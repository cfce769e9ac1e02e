use Rattle.wrapped_prims.specs.Adding.{IsListing}
use Rattle.wrapped_prims.proofs.held.Held.of_slots.Given as goal

abbrev pub invariant-loop-i : goal.invariant-loop-i
invariant-loop-i l = IsListing l.fn.slots.items l.fn.primary l.i l.held
