use Rattle.std.proofs.Common.{◌≡◌}
use Rattle.aes_core.specs.Counter.{counter_plus}
use Rattle.kernel_tests.proofs.plain.aes.counter_after.Given as goal

abbrev pub invariant-loop-step : goal.invariant-loop-step
invariant-loop-step l = l.counter ≡ counter_plus l.kind l.start l._step
