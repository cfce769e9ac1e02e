use Rattle.tinkey_actions.proofs.using.do_work.Goals as goal

pub returns-in-Seal : goal.returns-in-Seal
returns-in-Seal g c = λ w over. rw c.in-Seal.is (c.seal.ensures w _ (rw c.in-Seal.is at over))

pub returns-in-Open : goal.returns-in-Open
returns-in-Open g c = λ w over. rw c.in-Open.is (c.open.ensures (record w { entropy = g.E.Entropy.state c.args.entropy.now }) _ (rw c.in-Open.is at over) (rw c.deref.ensures.value at c.sealer_of.ensures))

pub returns-in-Dseal : goal.returns-in-Dseal
returns-in-Dseal g c = λ w over. rw c.in-Dseal.is (c.dseal.ensures (record w { entropy = g.E.Entropy.state c.args.entropy.now }) _ (rw c.in-Dseal.is at over))

pub returns-in-Dopen : goal.returns-in-Dopen
returns-in-Dopen g c = λ w over. rw c.in-Dopen.is (c.dopen.ensures (record w { entropy = g.E.Entropy.state c.args.entropy.now }) _ (rw c.in-Dopen.is at over) (rw c.deref-in-Dopen.ensures.value at c.sealer_of-in-Dopen.ensures))

pub returns-in-Reseal : goal.returns-in-Reseal
returns-in-Reseal g c = λ w over. rw c.in-Reseal.is (c.reseal.ensures w _ (rw c.in-Reseal.is at over) (rw c.deref-in-Reseal.ensures.value at c.sealer_of-in-Reseal.ensures))

pub returns-in-Dreseal : goal.returns-in-Dreseal
returns-in-Dreseal g c = λ w over. rw c.in-Dreseal.is (c.dreseal.ensures (record w { entropy = g.E.Entropy.state c.args.entropy.now }) _ (rw c.in-Dreseal.is at over) (rw c.deref-in-Dreseal.ensures.value at c.sealer_of-in-Dreseal.ensures))

pub returns-in-Tag : goal.returns-in-Tag
returns-in-Tag g c = λ w over. rw c.in-Tag.is (rw c.deref-in-Tag.ensures.value at (c.tag.ensures (record w { entropy = g.E.Entropy.state c.args.entropy.now }) _ (rw c.in-Tag.is at over)))

pub returns-in-Verify : goal.returns-in-Verify
returns-in-Verify g c = λ w over. rw c.in-Verify.is (rw c.deref-in-Verify.ensures.value at (c.verify.ensures (record w { entropy = g.E.Entropy.state c.args.entropy.now }) _ (rw c.in-Verify.is at over)))

pub returns-in-Derive : goal.returns-in-Derive
returns-in-Derive g c = λ w over. rw c.in-Derive.is (rw c.deref-in-Derive.ensures.value at (c.derive.ensures (record w { entropy = g.E.Entropy.state c.args.entropy.now }) _ (rw c.in-Derive.is at over)))
