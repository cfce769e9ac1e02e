use Rattle.real_objects.specs.Cause.{stored_answer}
use Rattle.real_objects.proofs.KeptNames.{ends_linked}
use Rattle.real_objects.proofs.naming.give_name.Goals as goal

pub returns-in-Ok-clause-named : goal.returns-in-Ok-clause-named
returns-in-Ok-clause-named g c =
    ends_linked _ _ _ _ _ _ _ (stored_answer c.keep_name.result) c.requires.whole c.in-Ok.ensures.linked c.clear.ensures.kept c.keep_name.ensures.made c.keep_name.ensures.failed
