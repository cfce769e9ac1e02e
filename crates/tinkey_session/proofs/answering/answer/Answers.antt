use Rattle.tinkey_session.proofs.answering.answer.Goals as goal

pub returns-in-Open : goal.returns-in-Open
returns-in-Open g c = rw c.in-Open.is (rw (c.as_slice-in-Open.ensures, c.as_slice-in-Open-2.ensures) at (c.open.ensures (g.E.Entropy.state c.args.entropy.now)))

pub returns-in-Dseal : goal.returns-in-Dseal
returns-in-Dseal g c = rw c.in-Dseal.is (rw (c.as_slice-in-Dseal.ensures, c.as_slice-in-Dseal-2.ensures) at (c.dseal.ensures (g.E.Entropy.state c.args.entropy.now)))

pub returns-in-Dopen : goal.returns-in-Dopen
returns-in-Dopen g c = rw c.in-Dopen.is (rw (c.as_slice-in-Dopen.ensures, c.as_slice-in-Dopen-2.ensures) at (c.dopen.ensures (g.E.Entropy.state c.args.entropy.now)))

pub returns-in-Dreseal : goal.returns-in-Dreseal
returns-in-Dreseal g c = rw c.in-Dreseal.is (rw (c.as_slice-in-Dreseal.ensures, c.as_slice-in-Dreseal-2.ensures) at (c.dreseal.ensures (g.E.Entropy.state c.args.entropy.now)))

pub returns-in-Tag : goal.returns-in-Tag
returns-in-Tag g c = rw c.in-Tag.is (rw (c.as_slice-in-Tag.ensures) at (c.tag.ensures (g.E.Entropy.state c.args.entropy.now)))

pub returns-in-Verify : goal.returns-in-Verify
returns-in-Verify g c = rw c.in-Verify.is (rw (c.as_slice-in-Verify.ensures, c.as_slice-in-Verify-2.ensures) at (c.verify.ensures (g.E.Entropy.state c.args.entropy.now)))

pub returns-in-Derive : goal.returns-in-Derive
returns-in-Derive g c = rw c.in-Derive.is (rw (c.as_slice-in-Derive.ensures) at (c.derive.ensures (g.E.Entropy.state c.args.entropy.now)))
