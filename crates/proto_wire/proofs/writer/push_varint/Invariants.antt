use Rattle.std.proofs.Common.{◌≡◌, ◌++◌, take, length}
use Rattle.proto_wire.specs.Written.{varint_of}
use Rattle.proto_wire.proofs.writer.push_varint.Given as goal

abbrev pub invariant-loop-left : goal.invariant-loop-left
invariant-loop-left l =
    (l.items.items ++ varint_of l.left ≡ l.fn.items.items ++ varint_of l.value)
    × (take (length l.fn.items.items) l.items.items ≡ l.fn.items.items)

abbrev pub decreases-loop-left : goal.decreases-loop-left
decreases-loop-left l = l.left
