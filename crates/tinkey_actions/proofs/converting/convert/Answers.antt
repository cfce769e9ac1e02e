use Rattle.keyset_model.specs.Keyset.{Keys}
use Rattle.tinkey_plans.specs.Ends.{world}
use Rattle.tinkey_plans.specs.Locks.{puts_under, takes_under}
use Rattle.tinkey_plans.specs.declared.origin.Origin.TheVariants as origins
use Rattle.tinkey_words.specs.Words.{seen_place}
use Rattle.tinkey_actions.proofs.LockLemmas.{finished_there, finishes_then}
use Rattle.tinkey_actions.proofs.converting.convert.Goals as goal

pub returns-in_err-keyset : goal.returns-in_err-keyset
returns-in_err-keyset g c = λ table before after is same.
    let old = world (g.S.Source.state c.args.source.now) (g.K.Sink.state c.args.sink.now) (g.D.Store.state c.args.store.now) (g.E.Entropy.state c.args.entropy.now) in
    finished_there {A = Keys} (takes_under origins.In table before (seen_place c.args.input)) (puts_under table after (seen_place c.args.output)) _ _ _ _ c.from_residual.ensures.1 (c.in_err-keyset.ensures.passes old table before is)

pub returns : goal.returns
returns g c = λ table before after is same.
    let old = world (g.S.Source.state c.args.source.now) (g.K.Sink.state c.args.sink.now) (g.D.Store.state c.args.store.now) (g.E.Entropy.state c.args.entropy.now) in
    let mid = record old { source = g.S.Source.state c.take_under.new.source; store = g.D.Store.state c.take_under.new.store } in
    let new = record mid { sink = g.K.Sink.state c.put_under.new.sink; store = g.D.Store.state c.put_under.new.store; entropy = g.E.Entropy.state c.put_under.new.entropy } in
    finishes_then {A = Keys} (takes_under origins.In table before (seen_place c.args.input)) (puts_under table after (seen_place c.args.output)) old mid new c.in_ok-keyset.keyset c.put_under.result (c.in_ok-keyset.ensures.passes old table before is) (c.put_under.ensures mid table after same)
