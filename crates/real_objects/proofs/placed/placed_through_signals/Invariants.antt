use Rattle.std.proofs.Common.{◌≡◌}
use Rattle.real_objects.proofs.placed.placed_through_signals.Given as goal

abbrev pub invariant-loop : goal.invariant-loop
invariant-loop g l = l.out ≡ l.initial.out
