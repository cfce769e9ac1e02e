use Rattle.tinkey_plans.specs.Ends.{world, exchanged, exchange_ended}
use Rattle.tinkey_actions.proofs.WrittenLemmas.{session_in, session_steady}
use Rattle.tinkey_actions.proofs.session.answer_all.Goals as goal

pub returns-in-Ok : goal.returns-in-Ok
returns-in-Ok g c = λ master is.
    let old = world (g.S.Source.state c.args.source.now) (g.K.Sink.state c.args.sink.now) (g.D.Store.state c.args.store.now) (g.E.Entropy.state c.args.entropy.now) in
    let mid = world (g.S.Source.state c.talk.new.source) (g.K.Sink.state c.talk.new.sink) (g.D.Store.state c.talk.new.store) (g.E.Entropy.state c.talk.new.entropy) in
    exchanged c.in-Ok.last mid (session_in _ _ master c.args.output.form c.args.saved_only c.args.keyset _ old mid is c.in-Ok.ensures.talks) (session_steady is c.args.output.form c.args.saved_only c.args.keyset) (c.save.ensures mid _ master is)

pub returns-in-Err : goal.returns-in-Err
returns-in-Err g c = λ master is.
    let old = world (g.S.Source.state c.args.source.now) (g.K.Sink.state c.args.sink.now) (g.D.Store.state c.args.store.now) (g.E.Entropy.state c.args.entropy.now) in
    let new = world (g.S.Source.state c.talk.new.source) (g.K.Sink.state c.talk.new.sink) (g.D.Store.state c.talk.new.store) (g.E.Entropy.state c.talk.new.entropy) in
    exchange_ended c.in-Err.fault c.ended.ensures (session_in _ _ master c.args.output.form c.args.saved_only c.args.keyset _ old new is c.in-Err.ensures.talks) (session_steady is c.args.output.form c.args.saved_only c.args.keyset)
