use Rattle.std.proofs.Common.{append_assoc}
use Rattle.tinkey_plans.proofs.misfit.push_told.Goals as goal

pub returns-clause-text : goal.returns-clause-text
returns-clause-text c =
    rw (c.push-5.ensures, c.command_word.ensures.word, c.push-4.ensures, c.push-3.ensures, c.push-2.ensures, c.push.ensures)
    (simp append_assoc)
