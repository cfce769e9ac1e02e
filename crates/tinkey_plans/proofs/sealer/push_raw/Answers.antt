use Rattle.std.proofs.Common.{append_assoc}
use Rattle.tinkey_plans.proofs.sealer.push_raw.Goals as goal

pub returns-clause-text : goal.returns-clause-text
returns-clause-text c = rw (c.push-2.ensures, c.push.ensures, c.none_text.ensures.text) (simp append_assoc)
