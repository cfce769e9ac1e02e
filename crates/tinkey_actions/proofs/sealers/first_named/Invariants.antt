use Rattle.std.proofs.Common.{◌≡◌, drop}
use Rattle.std.specs.Prelude.{find}
use Rattle.tinkey_plans.specs.Sealers.{stands_under}
use Rattle.tinkey_actions.proofs.sealers.first_named.Given as goal

abbrev pub invariant-loop-i : goal.invariant-loop-i
invariant-loop-i l = find (stands_under l.front) l.keyset.records ≡ find (stands_under l.front) (drop l.i l.keyset.records)
