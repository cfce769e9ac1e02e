use Rattle.tinkey_plans.specs.Ends.{world}
use Rattle.tinkey_actions.proofs.streaming.put_stream.Goals as goal

pub returns-in-Some : goal.returns-in-Some
returns-in-Some g c =
    let w = world (g.S.Source.state c.args.source.now) (g.K.Sink.state c.args.sink.now) (g.D.Store.state c.args.store.now) (g.E.Entropy.state c.args.entropy.now) in
    rw c.in-Some.is (c.put_into_file.ensures w)

pub returns-in-None : goal.returns-in-None
returns-in-None g c =
    let w = world (g.S.Source.state c.args.source.now) (g.K.Sink.state c.args.sink.now) (g.D.Store.state c.args.store.now) (g.E.Entropy.state c.args.entropy.now) in
    rw c.in-None.is (c.pass_stream.ensures.finishes w)
