use Rattle.std.proofs.Common.{arith}
use Rattle.aes_core.proofs.SameLemmas.{same-step}
use Rattle.aes_core.proofs.blocks.same_bytes.Goals as goal

pub loop-i-preserved : goal.loop-i-preserved
loop-i-preserved c =
    same-step c.args.a.now c.args.b.now c.loop-i.i c.loop-i.difference (omega (arith, c.requires))
    (omega (arith, c.requires)) c.loop-i.invariant
