-- One step of Horner's rule for each block.
use Rattle.std.proofs.Common.{◌≡◌, ℕ, ◌^◌, ◌<◌, List, [], ◌∷◌, ◌++◌, refl, sym, ◌∙◌, ap, append-nil, append_assoc, arith, length, min, bit_xor, rules}
use Rattle.std.specs.Slice.Iter.{chunks_rest}
use Rattle.ghash.specs.Field.{prod}
use Rattle.ghash.specs.Ghash.{ghash, padded_blocks}
use Rattle.ghash.proofs.GhashLemmas.{ghash-append_one, padded_blocks-nil, padded_blocks-piece}
use Rattle.kernel_tests.proofs.plain.galois.ghash_by_blocks.Goals as goal

pub loop-piece-init : goal.loop-piece-init
unfolding ghash
loop-piece-init c = (search rules, ([], search rules, refl))

pub loop-piece-preserved : goal.loop-piece-preserved
loop-piece-preserved c =
    let so_far = c.loop-piece.invariant.1 in
    let steps = c.in-Some.ensures.steps in
    let size = c.loop-piece.invariant.0 in
    let rest = chunks_rest c.next.new.self in
    let bytes = chunks_rest c.loop-piece.piece-iterator in
    let h = c.args.h in
    let block = c.block_of.result in
    let below : h < 2 ^ 128 = omega arith in
    let next : block ∷ padded_blocks rest ≡ padded_blocks bytes
    = ap (λ u. u ∷ padded_blocks rest) c.block_of.ensures
    ∙ sym (padded_blocks-piece _ c.in-Some.piece.now rest steps.1.0
    (steps.1.1 ∙ ap (λ n. min n (length bytes)) size) steps.1.2) in (
      steps.0 ∙ size,
      (
        so_far.0 ++ block ∷ [],
        append_assoc so_far.0 _ (padded_blocks rest)
            ∙ ap (λ (u : List ℕ). so_far.0 ++ u) next ∙ so_far.1,
        c.mul_by_bits-y.ensures ∙ ap (λ u. prod (bit_xor u block) h) so_far.2
            ∙ sym (ghash-append_one h so_far.0 block below),
      ),
    )

pub returns : goal.returns
returns c =
    let so_far = c.loop-piece.invariant.1 in
    let none = padded_blocks-nil _ c.in-None.ensures.steps.1.0 in
    let all : so_far.0 ≡ padded_blocks c.args.body.now
    = sym (append-nil so_far.0) ∙ ap (λ (u : List ℕ). so_far.0 ++ u) (sym none) ∙ so_far.1 in
    so_far.2 ∙ ap (ghash c.args.h) all
