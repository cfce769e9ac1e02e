use Rattle.tinkey_plans.specs.Ends.{world}
use Rattle.tinkey_run.proofs.WordLemmas.{unasked_ends}
use Rattle.tinkey_run.proofs.top.do_words.Goals as goal

pub returns-in-Err : goal.returns-in-Err
returns-in-Err g c =
    let w = world (g.S.Source.state c.args.source.now) (g.K.Sink.state c.args.sink.now) (g.D.Store.state c.args.store.now) (g.E.Entropy.state c.args.entropy.now) in
    unasked_ends _ _ c.in-Err.misuse w c.unasked.result c.in-Err.ensures c.unasked.ensures
