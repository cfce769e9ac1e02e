use Rattle.std.proofs.Common.{◌≡◌, map, refl, arith}
use Rattle.std.specs.List.{range_with_len}
use Rattle.aes_core.specs.Aes.{aes_on_literals, sbox}
use Rattle.kernel_tests.specs.declared.plain.aes.TheConstants.{SBOX}
use Rattle.aes_core.proofs.Tables.{at_place}
use Rattle.kernel_tests.proofs.plain.aes.sub_byte.Goals as goal

SBOX-is : map sbox (range_with_len 0 256) ≡ SBOX
unfolding aes_on_literals
SBOX-is = refl

pub returns : goal.returns
returns c = at_place sbox 256 SBOX SBOX-is c.args.byte (omega arith)
