use Rattle.std.proofs.Common.{◌≡◌, ◌*◌, ◌/◌, ◌%◌, map, refl, arith}
use Rattle.std.specs.List.{range_with_len}
use lib.Bits.{bit_xor}
use Rattle.aes_core.specs.Aes.{aes_on_literals, product}
use Rattle.aes_core.proofs.Tables.{same_at_bytes}
use Rattle.kernel_tests.proofs.plain.aes.double.Goals as goal

doubles : map (λ b. bit_xor (b * 2 % 256) (b / 128 * 27)) (range_with_len 0 256)
    ≡ map (product 2) (range_with_len 0 256)
unfolding aes_on_literals
doubles = refl

pub returns : goal.returns
returns c = same_at_bytes (λ b. bit_xor (b * 2 % 256) (b / 128 * 27)) (product 2) doubles c.args.byte (omega arith)
