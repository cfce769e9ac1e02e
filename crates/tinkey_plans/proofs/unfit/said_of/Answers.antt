use Rattle.std.proofs.Common.{append_assoc}
use Rattle.tinkey_plans.proofs.unfit.said_of.Goals as goal

pub returns-clause-text : goal.returns-clause-text
returns-clause-text c =
    rw (c.push-4.ensures, c.push_whose.ensures.text, c.push-3.ensures, c.push_number-2.ensures.text, c.push-2.ensures, c.push_number.ensures.text, c.push.ensures, c.new-text.ensures)
    (simp append_assoc)
