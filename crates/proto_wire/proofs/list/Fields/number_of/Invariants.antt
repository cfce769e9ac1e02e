use Rattle.std.proofs.Common.{◌≡◌, List, ℕ, drop}
use Rattle.tink_spec.specs.Messages.{number_in}
use Rattle.proto_wire.specs.Fields.{seen_all}
use Rattle.proto_wire.proofs.ByNumber.{number_from}
use Rattle.proto_wire.proofs.list.Fields.number_of.Given as goal

abbrev pub invariant-loop-field : goal.invariant-loop-field
invariant-loop-field l = (source : List ℕ) → number_in l.number (seen_all source l.self) ≡ number_from l.number l.value (seen_all source (drop l.field-index l.field-items))
