use Rattle.std.proofs.Common.{◌≡◌, map, refl, arith, ◌-◌}
use Rattle.std.specs.List.{range_with_len}
use Rattle.aes_core.specs.Aes.{aes_on_literals, power}
use Rattle.kernel_tests.specs.declared.plain.aes.TheConstants.{ROUND_CONSTANTS}
use Rattle.aes_core.proofs.Tables.{at_place}
use Rattle.kernel_tests.proofs.plain.aes.round_constant.Goals as goal

ROUND_CONSTANTS-are : map (power 2) (range_with_len 0 10) ≡ ROUND_CONSTANTS
unfolding aes_on_literals
ROUND_CONSTANTS-are = refl

pub returns : goal.returns
returns c = at_place (power 2) 10 ROUND_CONSTANTS ROUND_CONSTANTS-are (c.args.number - 1) (omega arith)
