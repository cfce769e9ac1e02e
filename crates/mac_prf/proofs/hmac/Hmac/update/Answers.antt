use Rattle.std.proofs.Common.{append_assoc}
use Rattle.mac_prf.specs.HmacState.{hash_of, Holds}
use Rattle.mac_prf.proofs.hmac.Hmac.update.Goals as goal

pub returns-clause-holds : goal.returns-clause-holds
unfolding Holds
returns-clause-holds c = λ hash key m held.
    (rw (← append_assoc) (c.update.ensures.taken hash _ held.0), held.1)

pub returns-clause-under : goal.returns-clause-under
unfolding hash_of
returns-clause-under c = c.update.ensures.kept
