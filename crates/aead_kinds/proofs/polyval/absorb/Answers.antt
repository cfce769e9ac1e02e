-- Each piece is the next blocks of the text.
use Rattle.std.proofs.Common.{◌≡◌, ℕ, List, [], ◌++◌, refl, sym, ◌∙◌, ap, subst, append-nil, append_assoc, length, min, rules}
use Rattle.std.specs.Slice.Iter.{chunks_rest}
use Rattle.ghash.specs.GhashState.{Holds}
use Rattle.aead_kinds.proofs.BlockLemmas.{numbers, numbers-cut, numbers-nil}
use Rattle.aead_kinds.proofs.polyval.absorb.Goals as goal

pub loop-piece-init : goal.loop-piece-init
loop-piece-init c = (
  search rules,
  (
    [],
    search rules,
    λ h blocks holds.
        subst (Holds _ h) (sym (append-nil blocks)) holds,
  ),
)

pub loop-piece-preserved : goal.loop-piece-preserved
loop-piece-preserved c =
    let so_far = c.loop-piece.invariant.1 in
    let steps = c.in-Some.ensures.steps in
    let size = c.loop-piece.invariant.0 in
    let rest = chunks_rest c.next.new.self in
    let bytes = chunks_rest c.loop-piece.piece-iterator in
    let piece = c.in-Some.piece.now in
    let next : numbers piece ++ numbers rest ≡ numbers bytes
    = numbers-cut bytes piece rest 512 steps.1.0
    (steps.1.1 ∙ ap (λ n. min n (length bytes)) size) refl in (
      steps.0 ∙ size,
      (
        so_far.0 ++ numbers piece,
        append_assoc so_far.0 (numbers piece) (numbers rest)
            ∙ ap (λ (u : List ℕ). so_far.0 ++ u) next ∙ so_far.1,
        λ h blocks holds. subst (Holds _ h) (append_assoc blocks so_far.0 _)
            (c.absorb_piece.ensures h (blocks ++ so_far.0) (so_far.2 h blocks holds)),
      ),
    )

pub returns : goal.returns
returns c h blocks holds =
    let so_far = c.loop-piece.invariant.1 in
    let none = numbers-nil _ c.in-None.ensures.steps.1.0 in
    let all : so_far.0 ≡ numbers c.args.text.now
    = sym (append-nil so_far.0) ∙ ap (λ (u : List ℕ). so_far.0 ++ u) (sym none) ∙ so_far.1 in
    subst (λ (u : List ℕ). Holds c.loop-piece.hash h (blocks ++ u)) all (so_far.2 h blocks holds)
