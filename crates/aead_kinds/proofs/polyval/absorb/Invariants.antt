-- The blocks taken so far, and those of the bytes that are left, are the blocks of the text.
use Rattle.std.proofs.Common.{◌≡◌, ℕ, List, ◌++◌}
use Rattle.std.specs.Slice.Iter.{chunks_rest, chunks_size}
use Rattle.ghash.specs.GhashState.{Holds}
use Rattle.aead_kinds.proofs.BlockLemmas.{numbers}
use Rattle.aead_kinds.proofs.polyval.absorb.Given as goal

abbrev pub invariant-loop-piece : goal.invariant-loop-piece
invariant-loop-piece l = (chunks_size l.piece-iterator ≡ 512)
    × ((done : List ℕ) × (done ++ numbers (chunks_rest l.piece-iterator) ≡ numbers l.text)
    × ((h : ℕ) (blocks : List ℕ) → Holds l.initial.hash h blocks → Holds l.hash h (blocks ++ done)))
