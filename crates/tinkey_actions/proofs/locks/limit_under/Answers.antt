use Rattle.tinkey_actions.proofs.LockLemmas.{limit_of_none, limit_of_some}
use Rattle.tinkey_actions.proofs.locks.limit_under.Goals as goal

pub returns-in-Some-clause-limit : goal.returns-in-Some-clause-limit
returns-in-Some-clause-limit g c = λ table master is. limit_of_some _ table master (rw c.in-Some.is at is)

pub returns-in-None-clause-limit : goal.returns-in-None-clause-limit
returns-in-None-clause-limit g c = λ table master is. limit_of_none table master (rw c.in-None.is at is)
