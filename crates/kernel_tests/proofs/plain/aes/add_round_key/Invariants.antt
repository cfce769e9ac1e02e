use Rattle.std.proofs.Common.{◌≡◌, ℕ, ◌+◌, ◌*◌, ◌/◌, ◌%◌, ◌<◌, get_or}
use lib.Bits.{bit_xor}
use Rattle.aes_core.specs.Aes.{state_byte, word}
use Rattle.kernel_tests.proofs.plain.aes.add_round_key.Given as goal

abbrev pub invariant-loop-i : goal.invariant-loop-i
invariant-loop-i l = (k : ℕ) → k < l.i
    → get_or l.byte-items k 0 ≡ bit_xor (state_byte l.state (k % 4) (k / 4))
    (get_or (word l.words (4 * l.round + k / 4)) (k % 4) 0)
