-- The blocks taken so far, and those of the bytes that are left, are the blocks of the body.
use Rattle.std.proofs.Common.{◌≡◌, ℕ, List, ◌++◌}
use Rattle.std.specs.Slice.Iter.{chunks_rest, chunks_size}
use Rattle.ghash.specs.Ghash.{ghash, padded_blocks}
use Rattle.ghash.specs.GhashState.{IsSubkey}
use Rattle.ghash.proofs.hash.HashKey.absorbed.Given as goal

abbrev pub invariant-loop-part : goal.invariant-loop-part
invariant-loop-part l = (chunks_size l.part-iterator ≡ 16)
    × ((done : List ℕ) × (done ++ padded_blocks (chunks_rest l.part-iterator)
    ≡ padded_blocks l.body)
    × ((h : ℕ) (blocks : List ℕ) → IsSubkey l.self h → l.so_far ≡ ghash h blocks
    → l.y ≡ ghash h (blocks ++ done)))
