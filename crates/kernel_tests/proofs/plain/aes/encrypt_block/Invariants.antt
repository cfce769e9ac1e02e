use Rattle.std.proofs.Common.{◌≡◌, ◌-◌}
use Rattle.aes_core.specs.Aes.{rounds}
use Rattle.kernel_tests.proofs.plain.aes.encrypt_block.Given as goal

abbrev pub invariant-loop-round : goal.invariant-loop-round
invariant-loop-round l = l.state ≡ rounds l.words l.block (l.round - 1)
