use Rattle.std.specs.Prelude.{◌≡◌}
use Rattle.wrapped_prims.proofs.held.prepare_slots.Given as goal

abbrev pub invariant-loop-i : goal.invariant-loop-i
invariant-loop-i l = l.slots ≡ l.fn.slots
