use Rattle.aes_core.proofs.KeySchedule.{followed_is}
use Rattle.aes_core.proofs.key_schedule.followed.Goals as goal

pub returns : goal.returns
returns c m long e = followed_is c.args.back c.args.mixed m c.fits-back.0 long e
