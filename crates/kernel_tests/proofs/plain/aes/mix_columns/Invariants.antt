use Rattle.std.proofs.Common.{◌≡◌, ℕ, ◌+◌, ◌/◌, ◌%◌, ◌<◌, get_or}
use lib.Bits.{bit_xor}
use Rattle.aes_core.specs.Aes.{product, state_byte}
use Rattle.kernel_tests.proofs.plain.aes.mix_columns.Given as goal

abbrev pub invariant-loop-i : goal.invariant-loop-i
invariant-loop-i l = (k : ℕ) → k < l.i → get_or l.byte-items k 0 ≡ bit_xor (bit_xor (bit_xor
    (product 2 (state_byte l.state (k % 4) (k / 4)))
    (product 3 (state_byte l.state ((k % 4 + 1) % 4) (k / 4))))
    (state_byte l.state ((k % 4 + 2) % 4) (k / 4))) (state_byte l.state ((k % 4 + 3) % 4) (k / 4))
