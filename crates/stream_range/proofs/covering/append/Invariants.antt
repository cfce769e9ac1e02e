use Rattle.std.proofs.Common.{◌≡◌, ◌+◌, ◌++◌, take}
use Rattle.std.specs.Vec.{vec_capacity, vec_len}
use Rattle.stream_range.proofs.covering.append.Given as goal

abbrev pub invariant-loop-byte : goal.invariant-loop-byte
invariant-loop-byte l = record {
  bytes : l.plain.items ≡ l.fn.plain.items ++ take l.byte-index l.bytes;
  len : vec_len l.plain ≡ vec_len l.fn.plain + l.byte-index;
  capacity : vec_capacity l.plain ≡ vec_capacity l.fn.plain;
}
