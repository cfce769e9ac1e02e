-- After i bits the two words are Z i and V i.
use Rattle.std.proofs.Common.{◌≡◌}
use Rattle.ghash.specs.Field.{shifted_factor, partial_product}
use Rattle.kernel_tests.proofs.plain.galois.mul_by_bits.Given as goal

abbrev pub invariant-loop-i : goal.invariant-loop-i
invariant-loop-i l = record {
  product : l.partial_product ≡ partial_product l.x l.y l.i;
  factor : l.shifted_factor ≡ shifted_factor l.y l.i;
}
