use Rattle.std.proofs.Common.{◌≡◌, ℕ, ◌/◌, ◌%◌, ◌<◌, get_or}
use Rattle.aes_core.specs.Aes.{sbox, state_byte}
use Rattle.kernel_tests.proofs.plain.aes.sub_bytes.Given as goal

abbrev pub invariant-loop-i : goal.invariant-loop-i
invariant-loop-i l = (k : ℕ) → k < l.i
    → get_or l.byte-items k 0 ≡ sbox (state_byte l.state (k % 4) (k / 4))
