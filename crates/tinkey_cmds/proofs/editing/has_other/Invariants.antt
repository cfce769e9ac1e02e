-- Of the other records those behind the place are left.
use Rattle.std.proofs.Common.{◌≡◌}
use Rattle.std.specs.Prelude.{drop}
use Rattle.std.specs.List.{list_any}
use Rattle.keyset_model.specs.Keyset.{is_primary}
use Rattle.tinkey_cmds.specs.Edits.{without}
use Rattle.tinkey_cmds.proofs.editing.has_other.Given as goal

abbrev pub invariant-loop-i : goal.invariant-loop-i
invariant-loop-i l =
    list_any (is_primary l.id) (without l.id l.keyset.records) ≡ list_any (is_primary l.id) (drop l.i l.keyset.records)
