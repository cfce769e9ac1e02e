-- There is no difference so far exactly where the bytes so far are the same.
use Rattle.std.proofs.Common.{◌≡◌, ◌↔◌, take}
use Rattle.aes_core.proofs.blocks.same_bytes.Given as goal

abbrev pub invariant-loop-i : goal.invariant-loop-i
invariant-loop-i l = (l.difference ≡ 0) ↔ (take l.i l.a ≡ take l.i l.b)
