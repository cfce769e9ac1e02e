-- Each block is the next of the piece, and is written behind those before it.
use Rattle.std.proofs.Common.{◌≡◌, ℕ, ◌+◌, List, [], ◌∷◌, ◌++◌, refl, sym, ◌∙◌, ap, subst, append-nil, append_assoc, length, length-append, min, take, rules, arith}
use Rattle.std.specs.Slice.Iter.{chunks_rest}
use Rattle.ghash.specs.Ghash.{padded_blocks}
use Rattle.ghash.specs.GhashState.{Holds}
use Rattle.ghash.proofs.GhashLemmas.{padded_blocks-nil}
use Rattle.aead_kinds.specs.Polyval.{turned}
use Rattle.aead_kinds.proofs.BlockLemmas.{copied-more, numbers, numbers-cut, numbers-nil, numbers-one, padded}
use Rattle.aead_kinds.proofs.polyval.absorb_piece.Goals as goal

pub loop-block-init : goal.loop-block-init
loop-block-init c = record {
  pieces = search rules;
  whole = refl;
  room = search rules;
  done = ap (λ (u : List ℕ). u ++ numbers (chunks_rest c.into_iter-block-iterator.result))
      (padded_blocks-nil [] refl) ∙ search rules;
}

pub overflow_add-size : goal.overflow_add-size
overflow_add-size c = omega (arith, c.loop-block.invariant.room)

pub loop-block-preserved : goal.loop-block-preserved
loop-block-preserved c =
    let now = c.loop-block.invariant in
    let steps = c.in-Some.ensures.steps in
    let rest = chunks_rest c.next.new.self in
    let bytes = chunks_rest c.loop-block.block-iterator in
    let block = c.in-Some.block.now in
    let size = c.loop-block.size in
    let copy = c.loop-block.copy in
    let part : length block ≡ min 16 (length bytes)
    = steps.1.1 ∙ ap (λ n. min n (length bytes)) now.pieces in
    let sum : length bytes ≡ length block + length rest
    = ap length steps.1.0 ∙ length-append block rest in
    let next : numbers block ++ numbers rest ≡ numbers bytes
    = numbers-cut bytes block rest 16 steps.1.0 part refl in
    let one : numbers block ≡ turned (padded block) ∷ []
    = numbers-one block (omega (arith, steps.1.2)) (omega arith) in
    let written : padded_blocks (take (size + 16) c.write_block.new.copy)
    ≡ padded_blocks (take size copy) ++ turned (padded block) ∷ []
    = ap (λ (u : List ℕ). padded_blocks (take (size + 16) u)) c.write_block.ensures
    ∙ copied-more copy c.turned_block.result (padded block) size (omega arith) now.whole
    c.turned_block.ensures.block c.turned_block.ensures.turned in
    record {
      pieces = steps.0 ∙ now.pieces;
      whole = omega (arith, now.whole);
      room = omega (arith, now.whole, now.room, part, sum, steps.1.2);
      done = ap (λ (u : List ℕ). u ++ numbers rest) written
          ∙ append_assoc (padded_blocks (take size copy)) (turned (padded block) ∷ []) (numbers rest)
          ∙ ap (λ (u : List ℕ). padded_blocks (take size copy) ++ (u ++ numbers rest)) (sym one)
          ∙ ap (λ (u : List ℕ). padded_blocks (take size copy) ++ u) next ∙ now.done;
    }

pub returns : goal.returns
returns c h blocks holds =
    let now = c.loop-block.invariant in
    let none = numbers-nil _ c.in-None.ensures.steps.1.0 in
    let done = padded_blocks (take c.loop-block.size c.loop-block.copy) in
    let all : done ≡ numbers c.args.piece.now
    = sym (append-nil done) ∙ ap (λ (u : List ℕ). done ++ u) (sym none) ∙ now.done in
    subst (λ (u : List ℕ). Holds c.absorb.new.self h (blocks ++ u)) all
    (c.absorb.ensures h blocks holds)
