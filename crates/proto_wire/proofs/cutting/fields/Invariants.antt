use Rattle.std.proofs.Common.{◌-◌}
use Rattle.proto_wire.proofs.Pieces.{IsRead}
use Rattle.proto_wire.proofs.cutting.fields.Given as goal

abbrev pub invariant-loop-at : goal.invariant-loop-at
invariant-loop-at l = IsRead l.source l.start l.at l.end l.items.items

abbrev pub decreases-loop-at : goal.decreases-loop-at
decreases-loop-at l = l.end - l.at
