use Rattle.std.proofs.Common.{List, ℕ, sym, arith, ap, ◌∙◌}
use Rattle.aes_core.specs.Counter.{counter_plus}
use Rattle.aes_core.proofs.CounterLemmas.{counters_add}
use Rattle.kernel_tests.proofs.CounterLemmas.{counter_plus-zero}
use Rattle.kernel_tests.proofs.plain.aes.counter_after.Goals as goal

pub loop-step-init : goal.loop-step-init
loop-step-init c =
    sym (counter_plus-zero c.args.kind c.args.start.now c.told-start
    (λ i. omega (arith, c.fits-start i)))

pub loop-step-preserved : goal.loop-step-preserved
loop-step-preserved c =
    c.next_counter-counter.ensures
    ∙ ap (λ (t : List ℕ). counter_plus c.args.kind t 1) c.loop-step.invariant
    ∙ counters_add c.args.kind c.args.start.now c.loop-step._step 1 c.told-start
