use Rattle.std.proofs.Common.{◌≡◌, ◌++◌, take}
use Rattle.std.specs.Prelude.{codes}
use Rattle.std.specs.Fmt.{decimal}
use Rattle.std.specs.List.{flat_map}
use Rattle.keyset_model.specs.Listing.{record_lines}
use Rattle.keyset_model.proofs.listing.info_text.Given as goal

abbrev pub invariant-loop-i : goal.invariant-loop-i
invariant-loop-i l = l.text.items ≡ codes "primary_key_id: " ++ decimal l.keyset.primary ++ codes "\n" ++ flat_map record_lines (take l.i l.keyset.records)
