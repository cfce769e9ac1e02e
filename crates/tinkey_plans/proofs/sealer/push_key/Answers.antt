use Rattle.std.proofs.Common.{append_assoc}
use Rattle.tinkey_plans.proofs.sealer.push_key.Goals as goal

pub returns-clause-text : goal.returns-clause-text
returns-clause-text c = rw (c.push-2.ensures, c.push_id.ensures.text, c.push.ensures) (simp append_assoc)
