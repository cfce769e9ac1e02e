use Rattle.std.proofs.Common.{arith}
use Rattle.std.proofs.lemmas.List.FromFn.{fill_by_all}
use Rattle.aes_core.specs.Aes.{sub_bytes}
use Rattle.kernel_tests.proofs.plain.aes.sub_bytes.Goals as goal

pub returns : goal.returns
unfolding sub_bytes
returns c =
    fill_by_all _ c.loop-i.byte-items 16 0 c.loop-i-test.array_long
    (λ k lt. c.loop-i.invariant k (omega arith))
