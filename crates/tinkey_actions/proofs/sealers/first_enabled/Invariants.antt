use Rattle.std.proofs.Common.{◌≡◌, drop, Some}
use Rattle.std.specs.Prelude.{find}
use Rattle.wrapped_prims.specs.Candidates.{is_enabled_with}
use Rattle.tinkey_actions.proofs.sealers.first_enabled.Given as goal

abbrev pub invariant-loop-i : goal.invariant-loop-i
invariant-loop-i l = find (is_enabled_with (Some l.front)) l.keyset.records ≡ find (is_enabled_with (Some l.front)) (drop l.i l.keyset.records)
