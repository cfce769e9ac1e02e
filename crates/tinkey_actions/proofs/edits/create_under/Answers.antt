use Rattle.key_msgs.specs.Templates.{seen}
use Rattle.keyset_model.specs.Keyset.{Keys}
use Rattle.tinkey_cmds.specs.Edits.{first}
use Rattle.tinkey_plans.specs.Locks.{puts_under}
use Rattle.tinkey_plans.specs.Steps.{makes_keyset}
use Rattle.tinkey_words.specs.Words.{seen_place}
use Rattle.tinkey_actions.proofs.LockLemmas.{finished_there, finishes_then}
use Rattle.tinkey_actions.proofs.edits.create_under.Goals as goal

pub returns-in_err-keyset : goal.returns-in_err-keyset
returns-in_err-keyset g c = λ w table master is.
    let behind = record w { sink = g.K.Sink.state c.args.sink.now; store = g.D.Store.state c.args.store.now } in
    finished_there {A = Keys} (makes_keyset (first (seen c.args.template.now))) (puts_under table master (seen_place c.args.output)) _ _ _ _ c.from_residual.ensures.1 (c.in_err-keyset.ensures.passes behind)

pub returns : goal.returns
returns g c = λ w table master is.
    let behind = record w { sink = g.K.Sink.state c.args.sink.now; store = g.D.Store.state c.args.store.now } in
    let old = record behind { entropy = g.E.Entropy.state c.args.entropy.now } in
    let mid = record behind { entropy = g.E.Entropy.state c.create_of.new.entropy } in
    let new = record w { sink = g.K.Sink.state c.put_under.new.sink; store = g.D.Store.state c.put_under.new.store; entropy = g.E.Entropy.state c.put_under.new.entropy } in
    finishes_then {A = Keys} (makes_keyset (first (seen c.args.template.now))) (puts_under table master (seen_place c.args.output)) old mid new c.in_ok-keyset.keyset c.put_under.result (c.in_ok-keyset.ensures.passes behind) (c.put_under.ensures w table master is)
