-- The blocks of the copy so far, and those of the bytes that are left, are the blocks of the piece.
use Rattle.std.proofs.Common.{◌≡◌, ◌+◌, ◌%◌, ◌≤◌, ◌++◌, length, take}
use Rattle.std.specs.Slice.Iter.{chunks_rest, chunks_size}
use Rattle.ghash.specs.Ghash.{padded_blocks}
use Rattle.aead_kinds.proofs.BlockLemmas.{numbers}
use Rattle.aead_kinds.proofs.polyval.absorb_piece.Given as goal

abbrev pub invariant-loop-block : goal.invariant-loop-block
invariant-loop-block l = record {
  pieces : chunks_size l.block-iterator ≡ 16;
  whole : l.size % 16 ≡ 0;
  room : l.size + length (chunks_rest l.block-iterator) ≤ 512;
  done : padded_blocks (take l.size l.copy) ++ numbers (chunks_rest l.block-iterator)
      ≡ numbers l.piece;
}
