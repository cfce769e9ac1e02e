use Rattle.dir_store.proofs.Copies.{copies_more}
use Rattle.dir_store.proofs.drafting.copy_bytes.Goals as goal

pub loop-preserved : goal.loop-preserved
loop-preserved g c =
    copies_more (g.F.Write.contents c.args.from.now) _ _ _ c.loop.at c.in_ok-n.n c.in-Some.next _
    c.loop.invariant c.in_ok-n.ensures.reads c.in_ok-write_all.ensures.bytes c.in-Some.ensures.1
