use Rattle.aes_core.proofs.KeySchedule.{rotated_is}
use Rattle.aes_core.proofs.key_schedule.rotated.Goals as goal

pub returns : goal.returns
returns c =
    rotated_is c.args.before c.substituted.result c.round_constant-c.result c.args.number
    c.fits-before.0 c.substituted.ensures c.round_constant-c.ensures
