use Rattle.std.proofs.Common.{◌≡◌, map, take}
use Rattle.serde_json.specs.View.{view}
use Rattle.keyset_json.specs.Writing.{key_value}
use Rattle.keyset_json.proofs.writing.key_values.Given as goal

abbrev pub invariant-loop-i : goal.invariant-loop-i
invariant-loop-i l = map view l.values.items ≡ map key_value (take l.i l.keyset.records)
