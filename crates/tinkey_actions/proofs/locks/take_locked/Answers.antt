use Rattle.std.proofs.Common.{sym, subst}
use Rattle.tinkey_plans.specs.Locks.{IsSomeLock}
use Rattle.tinkey_plans.specs.declared.origin.Origin.TheVariants as origins
use Rattle.tinkey_words.specs.Words.{seen_lock, seen_place}
use Rattle.tinkey_actions.proofs.LockLemmas.{lent, lent_lock, lock_passes, lock_passes_none}
use Rattle.tinkey_actions.proofs.locks.take_locked.Goals as goal

pub returns-in_err-lock-clause-passes : goal.returns-in_err-lock-clause-passes
returns-in_err-lock-clause-passes g c = λ w.
    let first = record w { source = g.S.Source.state c.args.source.now } in
    lock_passes_none origins.In (seen_lock c.args.lock) (seen_place c.args.place) _ c.from_residual.ensures.1 (c.in_err-lock.ensures.passes first)

pub take_under-requires : goal.take_under-requires
take_under-requires g c = record { lock = subst IsSomeLock (sym (lent _ _ _ c.as_ref.ensures.value)) c.in_ok-lock.ensures.some }

pub returns-clause-passes : goal.returns-clause-passes
returns-clause-passes g c = λ w.
    let first = record w { source = g.S.Source.state c.args.source.now } in
    let new = record w { source = g.S.Source.state c.take_under.new.source; store = g.D.Store.state c.take_under.new.store } in
    lock_passes origins.In (seen_lock c.args.lock) (seen_place c.args.place) new c.take_under.result (c.in_ok-lock.ensures.passes first)
    (λ master is. c.take_under.ensures.passes w _ master (lent_lock (lent _ _ _ c.as_ref.ensures.value) is))
