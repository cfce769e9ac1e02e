-- Each piece is the next blocks of the body.
use Rattle.std.proofs.Common.{◌≡◌, ℕ, List, [], ◌∷◌, ◌++◌, bit_xor, sym, ◌∙◌, ap, append-nil, append_assoc, length, min, rules}
use Rattle.std.specs.Slice.Iter.{chunks_rest}
use Rattle.ghash.specs.Field.{prod}
use Rattle.ghash.specs.Ghash.{ghash, padded_blocks}
use Rattle.ghash.proofs.GhashLemmas.{ghash-append_one, padded_blocks-nil, padded_blocks-piece}
use Rattle.ghash.proofs.hash.Ghash.after_each.Goals as goal

pub loop-piece-init : goal.loop-piece-init
loop-piece-init c = (
  search rules,
  (
    [],
    search rules,
    λ h taken blocks holds is. is ∙ ap (ghash h) (sym (append-nil blocks)),
  ),
)

pub loop-piece-preserved : goal.loop-piece-preserved
loop-piece-preserved c =
    let so_far = c.loop-piece.invariant.1 in
    let steps = c.in-Some.ensures.steps in
    let size = c.loop-piece.invariant.0 in
    let rest = chunks_rest c.next.new.self in
    let bytes = chunks_rest c.loop-piece.piece-iterator in
    let piece = c.in-Some.piece.now in
    let block = c.block_of.result in
    let next : block ∷ padded_blocks rest ≡ padded_blocks bytes
    = ap (λ u. u ∷ padded_blocks rest) c.block_of.ensures
    ∙ sym (padded_blocks-piece _ piece rest steps.1.0
    (steps.1.1 ∙ ap (λ n. min n (length bytes)) size) steps.1.2) in (
      steps.0 ∙ size,
      (
        so_far.0 ++ block ∷ [],
        append_assoc so_far.0 _ (padded_blocks rest)
            ∙ ap (λ (u : List ℕ). so_far.0 ++ u) next ∙ so_far.1,
        λ h taken blocks holds is. c.multiply_by_subkey-y.ensures h taken holds
            ∙ ap (λ u. prod (bit_xor u block) h) (so_far.2 h taken blocks holds is)
            ∙ sym (ghash-append_one h (blocks ++ so_far.0) block holds.subkey)
            ∙ ap (ghash h) (append_assoc blocks so_far.0 _),
      ),
    )

pub returns : goal.returns
returns c h taken blocks holds is =
    let so_far = c.loop-piece.invariant.1 in
    let none = padded_blocks-nil _ c.in-None.ensures.steps.1.0 in
    let all : so_far.0 ≡ padded_blocks c.args.body.now
    = sym (append-nil so_far.0) ∙ ap (λ (u : List ℕ). so_far.0 ++ u) (sym none) ∙ so_far.1 in
    so_far.2 h taken blocks holds is ∙ ap (λ (u : List ℕ). ghash h (blocks ++ u)) all
