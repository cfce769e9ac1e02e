use Rattle.std.proofs.Common.{◌≡◌, ◌≤◌, List, ℕ, drop, length}
use Rattle.std.specs.Prelude.{slice_range}
use Rattle.std.specs.List.{AllByRecursion}
use Rattle.tink_spec.specs.Messages.{bytes_in}
use Rattle.proto_wire.specs.Fields.{seen_all, IsOf}
use Rattle.proto_wire.proofs.ByNumber.{bytes_from}
use Rattle.proto_wire.proofs.list.Fields.span_of.Given as goal

abbrev pub invariant-loop-field : goal.invariant-loop-field
invariant-loop-field l = (source : List ℕ) → AllByRecursion (IsOf source) l.self → (AllByRecursion (IsOf source) (drop l.field-index l.field-items)) × (l.start ≤ l.end) × (l.end ≤ length source) × (bytes_in l.number (seen_all source l.self) ≡ bytes_from l.number (l.start, slice_range source l.start l.end) (seen_all source (drop l.field-index l.field-items)))
