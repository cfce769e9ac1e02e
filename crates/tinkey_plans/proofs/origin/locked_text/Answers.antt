use Rattle.std.proofs.Common.{append_assoc}
use Rattle.tinkey_plans.proofs.origin.locked_text.Goals as goal

pub returns-clause-text : goal.returns-clause-text
returns-clause-text c = rw (c.push.ensures, c.served_text.ensures.text, c.file_with-text.ensures.text) (simp append_assoc)
