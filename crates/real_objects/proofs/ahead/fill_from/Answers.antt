use Rattle.std.proofs.Common.{arith, rules}
use Rattle.real_objects.proofs.FillingSlices.{filled_on, gone_so_far, gone_at_the_end}
use Rattle.real_objects.proofs.ahead.fill_from.Goals as goal

pub returns-in-Ok-eq0-clause-goes_on : goal.returns-in-Ok-eq0-clause-goes_on
returns-in-Ok-eq0-clause-goes_on g c =
    rw (← c.loop-at.auto.out) (gone_at_the_end _ _ _ _ _ _ _ c.in-Ok-eq0.field-0-test c.loop-at.invariant.1 c.in-Ok-eq0.ensures.read)

pub loop-at-preserved : goal.loop-at-preserved
loop-at-preserved g c =
    (search rules, filled_on _ _ _ _ _ _ _ _ c.loop-at.invariant.0 (omega (arith, c.in-Ok.ensures.bound, c.read_through_signals.auto.out)) c.loop-at.invariant.1 c.in-Ok.ensures.read)

pub returns-in-Err-clause-goes_on : goal.returns-in-Err-clause-goes_on
returns-in-Err-clause-goes_on g c = rw (← c.loop-at.auto.out) (gone_so_far _ _ _ _ _ c.loop-at.invariant.1 c.in-Err.ensures.unread)
