use Rattle.tinkey_actions.proofs.steps.take_bytes.Goals as goal

pub returns-in-Some-clause-passes : goal.returns-in-Some-clause-passes
returns-in-Some-clause-passes g c = λ w. rw c.in-Some.is (c.load_bytes.ensures.passes (record w { source = g.S.Source.state c.args.source.now }))

pub returns-in-None-clause-passes : goal.returns-in-None-clause-passes
returns-in-None-clause-passes g c = λ w. rw c.in-None.is (c.read_bytes.ensures.passes (record w { store = g.D.Store.state c.args.store.now }))
