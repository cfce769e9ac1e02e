use Rattle.std.proofs.Common.{sym, subst}
use Rattle.tinkey_plans.specs.Ends.{world}
use Rattle.tinkey_plans.specs.Locks.{IsSomeLock}
use Rattle.tinkey_words.specs.Words.{seen_lock, seen_new_lock, seen_place}
use Rattle.tinkey_actions.proofs.LockLemmas.{converts_under, lent, lent_lock, lock_ends, lock_then}
use Rattle.tinkey_actions.proofs.converting.convert_keyset.Goals as goal

pub returns-in_err-lock : goal.returns-in_err-lock
returns-in_err-lock g c =
    let old = world (g.S.Source.state c.args.source.now) (g.K.Sink.state c.args.sink.now) (g.D.Store.state c.args.store.now) (g.E.Entropy.state c.args.entropy.now) in
    lock_ends (seen_lock c.args.lock) (λ table. converts_under table (seen_new_lock c.args.new) (seen_place c.args.input) (seen_place c.args.output)) c.from_residual.result c.from_residual.ensures.1 (c.in_err-lock.ensures.passes old)

pub convert_under-requires : goal.convert_under-requires
convert_under-requires g c = record { lock = subst IsSomeLock (sym (lent _ _ _ c.as_ref.ensures.value)) c.in_ok-lock.ensures.some }

pub returns : goal.returns
returns g c =
    let old = world (g.S.Source.state c.args.source.now) (g.K.Sink.state c.args.sink.now) (g.D.Store.state c.args.store.now) (g.E.Entropy.state c.args.entropy.now) in
    let new = world (g.S.Source.state c.convert_under.new.source) (g.K.Sink.state c.convert_under.new.sink) (g.D.Store.state c.convert_under.new.store) (g.E.Entropy.state c.convert_under.new.entropy) in
    lock_then (seen_lock c.args.lock) (λ table. converts_under table (seen_new_lock c.args.new) (seen_place c.args.input) (seen_place c.args.output)) new c.convert_under.result (c.in_ok-lock.ensures.passes old)
    (λ master is. c.convert_under.ensures master (lent_lock (lent _ _ _ c.as_ref.ensures.value) is))
