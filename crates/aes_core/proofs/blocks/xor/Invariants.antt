-- After i bytes they are XORed, and the rest are as they were.
use Rattle.std.proofs.Common.{◌≡◌, ◌++◌, take, drop}
use Rattle.aes_core.specs.Bytes.{xor_bytes}
use Rattle.aes_core.proofs.blocks.xor.Given as goal

abbrev pub invariant-loop-i : goal.invariant-loop-i
invariant-loop-i l =
    l.sum ≡ xor_bytes (take l.i l.block) (take l.i l.mask) ++ drop l.i l.block
