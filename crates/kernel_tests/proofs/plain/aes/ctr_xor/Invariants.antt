use Rattle.std.proofs.Common.{◌≡◌, ℕ, ◌/◌, ◌%◌, ◌<◌, ◌≤◌, get_or}
use lib.Bits.{bit_xor}
use Rattle.aes_core.specs.Counter.{output_block}
use Rattle.aes_core.proofs.CounterMode.{output_byte}
use Rattle.kernel_tests.proofs.plain.aes.ctr_xor.Given as goal

-- the bytes before i are done and the others as they were, and within a block the output is that
-- block's
abbrev pub invariant-loop-i : goal.invariant-loop-i
invariant-loop-i l = record {
  done : (k : ℕ) → k < l.i
      → get_or l.body k 0
      ≡ bit_xor (get_or l.initial.body k 0) (output_byte l.key l.start l.kind k);
  left : (k : ℕ) → l.i ≤ k → get_or l.body k 0 ≡ get_or l.initial.body k 0;
  output : 0 < l.i % 16 → l.output ≡ output_block l.key l.start l.kind (l.i / 16);
}
