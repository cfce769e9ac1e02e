use Rattle.std.proofs.Common.{append_assoc}
use Rattle.tinkey_plans.proofs.diagnostic.push_place.Goals as goal

pub returns-clause-text : goal.returns-clause-text
returns-clause-text c = rw (c.push_number.ensures.text, c.push.ensures) (simp append_assoc)
