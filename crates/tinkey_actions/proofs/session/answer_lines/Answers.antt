use Rattle.std.proofs.Common.{sym, subst}
use Rattle.tinkey_plans.specs.Ends.{world}
use Rattle.tinkey_plans.specs.Locks.{IsSomeLock}
use Rattle.tinkey_words.specs.Words.{seen_lock, seen_place}
use Rattle.tinkey_actions.proofs.LockLemmas.{holds_under, lent, lent_lock, lock_ends, lock_then}
use Rattle.tinkey_actions.proofs.session.answer_lines.Goals as goal

pub returns-in_err-lock : goal.returns-in_err-lock
returns-in_err-lock g c =
    let old = world (g.S.Source.state c.args.source.now) (g.K.Sink.state c.args.sink.now) (g.D.Store.state c.args.store.now) (g.E.Entropy.state c.args.entropy.now) in
    lock_ends (seen_lock c.args.lock) (λ table. holds_under table c.args.keyset.now c.args.form (seen_place c.args.output) c.args.saved_only) c.from_residual.result c.from_residual.ensures.1 (c.in_err-lock.ensures.passes old)

pub answer_under-requires : goal.answer_under-requires
answer_under-requires g c = record { lock = subst IsSomeLock (sym (lent _ _ _ c.as_ref.ensures.value)) c.in_ok-lock.ensures.some }

pub returns : goal.returns
returns g c =
    let old = world (g.S.Source.state c.args.source.now) (g.K.Sink.state c.args.sink.now) (g.D.Store.state c.args.store.now) (g.E.Entropy.state c.args.entropy.now) in
    let new = world (g.S.Source.state c.answer_under.new.source) (g.K.Sink.state c.answer_under.new.sink) (g.D.Store.state c.answer_under.new.store) (g.E.Entropy.state c.answer_under.new.entropy) in
    lock_then (seen_lock c.args.lock) (λ table. holds_under table c.args.keyset.now c.args.form (seen_place c.args.output) c.args.saved_only) new c.answer_under.result (c.in_ok-lock.ensures.passes old)
    (λ master is. c.answer_under.ensures master (lent_lock (lent _ _ _ c.as_ref.ensures.value) is))
