use Rattle.std.proofs.Common.{arith}
use Rattle.tinkey_actions.proofs.LockLemmas.{given_in_clear, given_under, lock_over, within_clear, within_wrapped}
use Rattle.tinkey_actions.proofs.locks.keyset_under.Goals as goal

pub unwrap_under-requires-clause-over : goal.unwrap_under-requires-clause-over
unwrap_under-requires-clause-over g c = lock_over _ _ _ (rw c.in-Some.is at c.requires.lock)

pub unwrap_under-requires-clause-bound : goal.unwrap_under-requires-clause-bound
unwrap_under-requires-clause-bound g c = within_wrapped _ _ (rw c.in-Some.is at c.requires.lock) (rw c.in-Some.is at c.requires.within)

pub keyset_of-requires : goal.keyset_of-requires
keyset_of-requires g c = let within = within_clear _ (rw c.in-None.is at c.requires.lock) (rw c.in-None.is at c.requires.within) in omega (arith, within)

pub returns-in-Some-clause-passes : goal.returns-in-Some-clause-passes
returns-in-Some-clause-passes g c = λ w table master is. given_under c.args.from _ _ _ table master c.args.form _ w _ (rw c.in-Some.is at is) (c.unwrap_under.ensures.passes w)

pub returns-in-None-clause-passes : goal.returns-in-None-clause-passes
returns-in-None-clause-passes g c = λ w table master is. given_in_clear c.args.from table master c.args.form _ w _ (rw c.in-None.is at is) (c.keyset_of.ensures.passes w)
