use Rattle.std.proofs.Common.{arith}
use Rattle.std.proofs.lemmas.Grind.{common_steps}
use Rattle.real_objects.proofs.FillingSlices.{gone_behind}
use Rattle.real_objects.proofs.ahead.Ahead.fill.Goals as goal

pub returns-clause-goes_on : goal.returns-clause-goes_on
returns-clause-goes_on g c =
    rw (← c.hand_out-n.ensures.room) (gone_behind c.fill_from.result _ _ _ _ c.hand_out-n.result _ c.hand_out-n.new.out
    (grind (arith, common_steps))
    (grind (arith, common_steps))
    c.hand_out-n.ensures.given
    c.fill_from.ensures.goes_on)
