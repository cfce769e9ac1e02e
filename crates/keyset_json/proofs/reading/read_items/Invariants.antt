use Rattle.std.proofs.Common.{◌≡◌, take, Ok}
use Rattle.serde_json.specs.View.{items_view}
use Rattle.keyset_json.specs.Reading.{records_of}
use Rattle.keyset_json.proofs.reading.read_items.Given as goal

abbrev pub invariant-loop-i : goal.invariant-loop-i
invariant-loop-i l = records_of 0 (items_view (take l.i l.items)) ≡ Ok l.records.items
