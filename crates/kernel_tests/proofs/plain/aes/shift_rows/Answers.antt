use Rattle.std.proofs.Common.{arith}
use Rattle.std.proofs.lemmas.List.FromFn.{fill_by_all}
use Rattle.aes_core.specs.Aes.{shift_rows}
use Rattle.kernel_tests.proofs.plain.aes.shift_rows.Goals as goal

pub returns : goal.returns
unfolding shift_rows
returns c =
    fill_by_all _ c.loop-i.byte-items 16 0 c.loop-i-test.array_long
    (λ k lt. c.loop-i.invariant k (omega arith))
