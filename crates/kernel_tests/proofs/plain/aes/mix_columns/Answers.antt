use Rattle.std.proofs.Common.{arith}
use Rattle.std.proofs.lemmas.List.FromFn.{fill_by_all}
use Rattle.aes_core.specs.Aes.{mix_columns}
use Rattle.kernel_tests.proofs.plain.aes.mix_columns.Goals as goal

pub returns : goal.returns
unfolding mix_columns
returns c =
    fill_by_all _ c.loop-i.byte-items 16 0 c.loop-i-test.array_long
    (λ k lt. c.loop-i.invariant k (omega arith))
