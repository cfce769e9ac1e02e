use Rattle.std.proofs.Common.{refl}
use Rattle.tinkey_words.specs.Words.{seen_master}
use Rattle.tinkey_actions.proofs.LockLemmas.{locked_by, no_lock, none_is_lock, not_locked_by}
use Rattle.managers.specs.Standard.{standard_table}
use Rattle.tinkey_actions.proofs.locks.open_lock.Goals as goal

pub returns-in_err-opened-in-Some-clause-passes : goal.returns-in_err-opened-in-Some-clause-passes
returns-in_err-opened-in-Some-clause-passes g c = λ w. rw c.in-Some.is (not_locked_by _ _ _ (seen_master c.in-Some.master) _ _ _ _ c.from_residual.ensures.1 (c.in_err-opened-in-Some.ensures.passes w))

pub returns-in_ok-opened-in-Some-clause-passes : goal.returns-in_ok-opened-in-Some-clause-passes
returns-in_ok-opened-in-Some-clause-passes g c = λ w. rw c.in-Some.is (locked_by _ _ _ (seen_master c.in-Some.master) _ _ c.in_ok-opened-in-Some.opened _ refl (c.in_ok-opened-in-Some.ensures.passes w))

pub returns-in-None-clause-passes : goal.returns-in-None-clause-passes
returns-in-None-clause-passes g c = λ w. rw c.in-None.is (no_lock _ _ (record w { store = g.D.Store.state c.args.store.now }) _ refl)

pub returns-in-None-clause-some : goal.returns-in-None-clause-some
returns-in-None-clause-some g c = none_is_lock standard_table
