use Rattle.proto_wire.proofs.Merging.{IsMerged}
use Rattle.proto_wire.proofs.list.Fields.merged.Given as goal

abbrev pub invariant-loop-field : goal.invariant-loop-field
invariant-loop-field l = IsMerged l.source l.number l.field-items l.field-index l.all
