-- The words start as Z 0 and V 0, each round takes the next ones, and Z 128 is the product.
use Rattle.std.proofs.Common.{◌≡◌, refl, ◌∙◌, ap, arith}
use Rattle.ghash.specs.Field.{shifted_factor, partial_product, prod}
use Rattle.kernel_tests.proofs.ProductLemmas.{next-factor, next-product_on, next-product_off}
use Rattle.kernel_tests.proofs.plain.galois.mul_by_bits.Goals as goal
use Rattle.kernel_tests.proofs.plain.galois.mul_by_bits.Goals.{then-x-i-eq1, else-x-i-eq1}

pub loop-i-init : goal.loop-i-init
unfolding shifted_factor partial_product
loop-i-init c = record { product = refl; factor = refl }

pub loop-i-preserved : goal.loop-i-preserved
loop-i-preserved c = record {
  product = elim c.if-x-i-eq1.branch [
    | then-x-i-eq1 w ↦ w.partial_product-is
        ∙ next-product_on _ _ c.loop-i.i _ _ c.loop-i.invariant.product c.loop-i.invariant.factor
        w.if-x-i-eq1.true
    | else-x-i-eq1 w ↦ w.partial_product-is
        ∙ next-product_off _ _ c.loop-i.i _ c.loop-i.invariant.product w.if-x-i-eq1.false
  ];
  factor = next-factor _ c.loop-i.i _ _ c.loop-i.invariant.factor
      c.next_factor-shifted_factor.ensures;
}

pub returns : goal.returns
unfolding prod
returns c =
    let all : c.loop-i.i ≡ 128 = omega arith in
    c.loop-i.invariant.product ∙ ap (partial_product c.args.x c.args.y) all
