use Rattle.tinkey_plans.specs.declared.origin.Origin.TheVariants as origins
use Rattle.tinkey_words.specs.Words.{seen_lock}
use Rattle.std.proofs.Common.{sym, subst, Some}
use Rattle.tinkey_plans.specs.Locks.{IsSomeLock}
use Rattle.tinkey_actions.proofs.LockLemmas.{lent, lent_lock, lock_passes, lock_passes_none}
use Rattle.tinkey_actions.proofs.locks.load_locked.Goals as goal

pub returns-in_err-lock-clause-passes : goal.returns-in_err-lock-clause-passes
returns-in_err-lock-clause-passes g c = λ w. lock_passes_none origins.Keyset (seen_lock c.args.lock) (record { file = Some c.args.name.now; form = c.args.form }) _ c.from_residual.ensures.1 (c.in_err-lock.ensures.passes w)

pub load_under-requires : goal.load_under-requires
load_under-requires g c = record { lock = subst IsSomeLock (sym (lent _ _ _ c.as_ref.ensures.value)) c.in_ok-lock.ensures.some }

pub returns-clause-passes : goal.returns-clause-passes
returns-clause-passes g c = λ w.
    let new = record w { store = g.D.Store.state c.load_under.new.store } in
    lock_passes origins.Keyset (seen_lock c.args.lock) (record { file = Some c.args.name.now; form = c.args.form }) new c.load_under.result (c.in_ok-lock.ensures.passes w)
    (λ master is. c.load_under.ensures.passes w _ master (lent_lock (lent _ _ _ c.as_ref.ensures.value) is))
