use Rattle.std.proofs.Common.{sym, subst}
use Rattle.tinkey_cmds.specs.Edits.{Edit, seen_edit as seen_command}
use Rattle.tinkey_plans.proofs.StepLemmas.{edit_passes}
use Rattle.tinkey_plans.specs.Ends.{world}
use Rattle.tinkey_plans.specs.Locks.{IsSomeLock}
use Rattle.tinkey_plans.specs.Steps.{finds_edit}
use Rattle.tinkey_words.specs.Words.{seen_edit, seen_lock, seen_place}
use Rattle.tinkey_actions.proofs.LockLemmas.{edits_under, edits_with, finished_there, finishes_then_as, lent, lent_lock, lock_ends, lock_then}
use Rattle.tinkey_actions.proofs.edits.edit_keyset.Goals as goal

pub returns-in_err-edit : goal.returns-in_err-edit
returns-in_err-edit g c =
    let old = world (g.S.Source.state c.args.source.now) (g.K.Sink.state c.args.sink.now) (g.D.Store.state c.args.store.now) (g.E.Entropy.state c.args.entropy.now) in
    finished_there {A = Edit} (finds_edit (seen_edit c.args.edit)) (edits_with _ (seen_lock c.args.lock) (seen_place c.args.input) (seen_place c.args.output)) old old _ _ c.from_residual.ensures.1 (rw c.in_err-edit.ensures at (edit_passes (seen_edit c.args.edit) old))

pub returns-in_err-lock : goal.returns-in_err-lock
returns-in_err-lock g c =
    let old = world (g.S.Source.state c.args.source.now) (g.K.Sink.state c.args.sink.now) (g.D.Store.state c.args.store.now) (g.E.Entropy.state c.args.entropy.now) in
    let new = record old { store = g.D.Store.state c.open_lock.new.store } in
    let edit = seen_command c.in_ok-edit.edit in
    finishes_then_as seen_command (finds_edit (seen_edit c.args.edit)) (edits_with _ (seen_lock c.args.lock) (seen_place c.args.input) (seen_place c.args.output)) old old new c.in_ok-edit.edit c.from_residual-in_err-lock.result (rw c.in_ok-edit.ensures at (edit_passes (seen_edit c.args.edit) old))
    (lock_ends (seen_lock c.args.lock) (λ table. edits_under table (seen_place c.args.input) (seen_place c.args.output) edit) c.from_residual-in_err-lock.result c.from_residual-in_err-lock.ensures.1 (c.in_err-lock.ensures.passes old))

pub edit_under-requires : goal.edit_under-requires
edit_under-requires g c = record { lock = subst IsSomeLock (sym (lent _ _ _ c.as_ref.ensures.value)) c.in_ok-lock.ensures.some }

pub returns : goal.returns
returns g c =
    let old = world (g.S.Source.state c.args.source.now) (g.K.Sink.state c.args.sink.now) (g.D.Store.state c.args.store.now) (g.E.Entropy.state c.args.entropy.now) in
    let new = world (g.S.Source.state c.edit_under.new.source) (g.K.Sink.state c.edit_under.new.sink) (g.D.Store.state c.edit_under.new.store) (g.E.Entropy.state c.edit_under.new.entropy) in
    let edit = seen_command c.in_ok-edit.edit in
    finishes_then_as seen_command (finds_edit (seen_edit c.args.edit)) (edits_with _ (seen_lock c.args.lock) (seen_place c.args.input) (seen_place c.args.output)) old old new c.in_ok-edit.edit c.edit_under.result (rw c.in_ok-edit.ensures at (edit_passes (seen_edit c.args.edit) old))
    (lock_then (seen_lock c.args.lock) (λ table. edits_under table (seen_place c.args.input) (seen_place c.args.output) edit) new c.edit_under.result (c.in_ok-lock.ensures.passes old)
    (λ master is. c.edit_under.ensures _ master (lent_lock (lent _ _ _ c.as_ref.ensures.value) is)))
