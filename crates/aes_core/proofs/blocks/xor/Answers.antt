-- One byte more.
use Rattle.std.proofs.Common.{arith, refl}
use Rattle.aes_core.specs.Bytes.{xor_bytes}
use Rattle.aes_core.proofs.XorLemmas.{xor-step}
use Rattle.aes_core.proofs.blocks.xor.Goals as goal

pub loop-i-init : goal.loop-i-init
unfolding xor_bytes
loop-i-init c = refl

pub loop-i-preserved : goal.loop-i-preserved
loop-i-preserved c =
    xor-step c.args.block.now c.args.mask.now c.loop-i.sum c.loop-i.i (omega arith) (omega arith)
    c.loop-i.invariant
