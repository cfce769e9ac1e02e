use Rattle.std.proofs.Common.{◌≡◌, ◌≤◌, ◌-◌, take}
use Rattle.std.specs.Vec.{vec_len}
use Rattle.segment_stream.specs.Reading.{IsInPlace}
use Rattle.segment_stream.proofs.buffer.lengthen.Given as goal

abbrev pub invariant-loop-buffer : goal.invariant-loop-buffer
invariant-loop-buffer l = record {
  in_place : IsInPlace l.fn.buffer.bytes l.buffer.bytes;
  least : vec_len l.fn.buffer.bytes ≤ vec_len l.buffer.bytes;
  most : vec_len l.buffer.bytes ≤ l.end;
  kept : take (vec_len l.fn.buffer.bytes) l.buffer.bytes.items ≡ l.fn.buffer.bytes.items;
}

abbrev pub decreases-loop-buffer : goal.decreases-loop-buffer
decreases-loop-buffer l = l.end - vec_len l.buffer.bytes
