use Rattle.tinkey_actions.proofs.output.put.Goals as goal

pub returns-in-Some : goal.returns-in-Some
returns-in-Some g c = λ w. rw c.in-Some.is (c.create_file.ensures (record w { sink = g.K.Sink.state c.args.sink.now }))

pub returns-in-None : goal.returns-in-None
returns-in-None g c = λ w. rw c.in-None.is (c.write_output.ensures (record w { store = g.D.Store.state c.args.store.now }))
