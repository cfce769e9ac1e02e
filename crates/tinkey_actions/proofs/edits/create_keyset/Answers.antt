use Rattle.std.proofs.Common.{sym, subst}
use Rattle.key_msgs.specs.Templates.{Row, seen}
use Rattle.tinkey_plans.proofs.StepLemmas.{template_passes}
use Rattle.tinkey_plans.specs.Locks.{IsSomeLock}
use Rattle.tinkey_plans.specs.Steps.{finds_template}
use Rattle.tinkey_words.specs.Words.{seen_lock, seen_place}
use Rattle.tinkey_actions.proofs.LockLemmas.{creates_row, creates_under, finished_there, finishes_then_as, lent, lent_lock, lock_ends, lock_then}
use Rattle.tinkey_actions.proofs.edits.create_keyset.Goals as goal

pub returns-in_err-template : goal.returns-in_err-template
returns-in_err-template g c = λ w.
    let old = record w { sink = g.K.Sink.state c.args.sink.now; store = g.D.Store.state c.args.store.now; entropy = g.E.Entropy.state c.args.entropy.now } in
    finished_there {A = Row} (finds_template c.args.name.now) (creates_row _ (seen_lock c.args.lock) (seen_place c.args.output)) old old _ _ c.from_residual.ensures.1 (rw c.in_err-template.ensures at (template_passes c.args.name.now old))

pub returns-in_err-lock : goal.returns-in_err-lock
returns-in_err-lock g c = λ w.
    let first = record w { sink = g.K.Sink.state c.args.sink.now; entropy = g.E.Entropy.state c.args.entropy.now } in
    let old = record first { store = g.D.Store.state c.args.store.now } in
    let new = record first { store = g.D.Store.state c.open_lock.new.store } in
    let row = seen c.in_ok-template.template in
    finishes_then_as seen (finds_template c.args.name.now) (creates_row _ (seen_lock c.args.lock) (seen_place c.args.output)) old old new c.in_ok-template.template c.from_residual-in_err-lock.result (rw c.in_ok-template.ensures at (template_passes c.args.name.now old))
    (lock_ends (seen_lock c.args.lock) (λ table. creates_under table (seen_place c.args.output) row) c.from_residual-in_err-lock.result c.from_residual-in_err-lock.ensures.1 (c.in_err-lock.ensures.passes first))

pub create_under-requires : goal.create_under-requires
create_under-requires g c = record { lock = subst IsSomeLock (sym (lent _ _ _ c.as_ref.ensures.value)) c.in_ok-lock.ensures.some }

pub returns : goal.returns
returns g c = λ w.
    let first = record w { sink = g.K.Sink.state c.args.sink.now; entropy = g.E.Entropy.state c.args.entropy.now } in
    let old = record first { store = g.D.Store.state c.args.store.now } in
    let new = record w { sink = g.K.Sink.state c.create_under.new.sink; entropy = g.E.Entropy.state c.create_under.new.entropy; store = g.D.Store.state c.create_under.new.store } in
    let row = seen c.in_ok-template.template in
    finishes_then_as seen (finds_template c.args.name.now) (creates_row _ (seen_lock c.args.lock) (seen_place c.args.output)) old old new c.in_ok-template.template c.create_under.result (rw c.in_ok-template.ensures at (template_passes c.args.name.now old))
    (lock_then (seen_lock c.args.lock) (λ table. creates_under table (seen_place c.args.output) row) new c.create_under.result (c.in_ok-lock.ensures.passes first)
    (λ master is. c.create_under.ensures w _ master (lent_lock (lent _ _ _ c.as_ref.ensures.value) is)))
