use Rattle.tinkey_actions.proofs.streaming.pass_stream.Goals as goal

pub returns-in-Seal-clause-finishes : goal.returns-in-Seal-clause-finishes
returns-in-Seal-clause-finishes g c = λ w. rw c.in-Seal.is (c.seal_stream.ensures.finishes w)

pub returns-in-Open-clause-finishes : goal.returns-in-Open-clause-finishes
returns-in-Open-clause-finishes g c = λ w. rw c.in-Open.is (c.open_stream.ensures.finishes (record w { entropy = g.E.Entropy.state c.args.entropy.now }))

pub returns-in-Reseal-clause-finishes : goal.returns-in-Reseal-clause-finishes
returns-in-Reseal-clause-finishes g c = λ w. rw c.in-Reseal.is (c.reseal_stream.ensures.finishes w)
