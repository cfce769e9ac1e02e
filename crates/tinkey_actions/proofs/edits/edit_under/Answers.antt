use Rattle.keyset_model.specs.Keyset.{Keys}
use Rattle.tinkey_cmds.specs.Edits.{step, seen_edit as seen_command}
use Rattle.tinkey_plans.specs.Ends.{world}
use Rattle.tinkey_plans.specs.Locks.{puts_under, takes_under}
use Rattle.tinkey_plans.specs.Steps.{makes_keyset}
use Rattle.tinkey_plans.specs.declared.origin.Origin.TheVariants as origins
use Rattle.tinkey_words.specs.Words.{seen_place}
use Rattle.tinkey_actions.proofs.LockLemmas.{edits_keys, finished_there, finishes_then}
use Rattle.tinkey_actions.proofs.edits.edit_under.Goals as goal

pub returns-in_err-keyset : goal.returns-in_err-keyset
returns-in_err-keyset g c = λ table master is.
    let old = world (g.S.Source.state c.args.source.now) (g.K.Sink.state c.args.sink.now) (g.D.Store.state c.args.store.now) (g.E.Entropy.state c.args.entropy.now) in
    finished_there {A = Keys} (takes_under origins.In table master (seen_place c.args.input)) (edits_keys table (seen_place c.args.output) (seen_command c.args.edit.now) master) _ _ _ _ c.from_residual.ensures.1 (c.in_err-keyset.ensures.passes old table master is)

pub returns-in_err-edited : goal.returns-in_err-edited
returns-in_err-edited g c = λ table master is.
    let old = world (g.S.Source.state c.args.source.now) (g.K.Sink.state c.args.sink.now) (g.D.Store.state c.args.store.now) (g.E.Entropy.state c.args.entropy.now) in
    let mid = record old { source = g.S.Source.state c.take_under.new.source; store = g.D.Store.state c.take_under.new.store } in
    let new = record mid { entropy = g.E.Entropy.state c.edit_of.new.entropy } in
    let keys = c.in_ok-keyset.keyset in
    let edit = seen_command c.args.edit.now in
    finishes_then {A = Keys} (takes_under origins.In table master (seen_place c.args.input)) (edits_keys table (seen_place c.args.output) edit master) old mid new keys c.from_residual-in_err-edited.result (c.in_ok-keyset.ensures.passes old table master is)
    (finished_there {A = Keys} (makes_keyset (step keys edit)) (puts_under table master (seen_place c.args.output)) mid new c.from_residual-in_err-edited.result _ c.from_residual-in_err-edited.ensures.1 (c.in_err-edited.ensures.passes mid))

pub returns : goal.returns
returns g c = λ table master is.
    let old = world (g.S.Source.state c.args.source.now) (g.K.Sink.state c.args.sink.now) (g.D.Store.state c.args.store.now) (g.E.Entropy.state c.args.entropy.now) in
    let mid = record old { source = g.S.Source.state c.take_under.new.source; store = g.D.Store.state c.take_under.new.store } in
    let behind = record mid { entropy = g.E.Entropy.state c.edit_of.new.entropy } in
    let new = record behind { sink = g.K.Sink.state c.put_under.new.sink; store = g.D.Store.state c.put_under.new.store; entropy = g.E.Entropy.state c.put_under.new.entropy } in
    let keys = c.in_ok-keyset.keyset in
    let edit = seen_command c.args.edit.now in
    finishes_then {A = Keys} (takes_under origins.In table master (seen_place c.args.input)) (edits_keys table (seen_place c.args.output) edit master) old mid new keys c.put_under.result (c.in_ok-keyset.ensures.passes old table master is)
    (finishes_then {A = Keys} (makes_keyset (step keys edit)) (puts_under table master (seen_place c.args.output)) mid behind new c.in_ok-edited.edited c.put_under.result (c.in_ok-edited.ensures.passes mid) (c.put_under.ensures behind table master is))
