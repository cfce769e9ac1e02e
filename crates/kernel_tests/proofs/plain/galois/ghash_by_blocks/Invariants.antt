-- The value is GHASH of the blocks so far, and with those of the bytes that are left they are all.
use Rattle.std.proofs.Common.{◌≡◌, ℕ, List, ◌++◌}
use Rattle.std.specs.Slice.Iter.{chunks_rest, chunks_size}
use Rattle.ghash.specs.Ghash.{ghash, padded_blocks}
use Rattle.kernel_tests.proofs.plain.galois.ghash_by_blocks.Given as goal

abbrev pub invariant-loop-piece : goal.invariant-loop-piece
invariant-loop-piece l = (chunks_size l.piece-iterator ≡ 16)
    × ((done : List ℕ) × (done ++ padded_blocks (chunks_rest l.piece-iterator)
    ≡ padded_blocks l.body)
    × (l.y ≡ ghash l.h done))
