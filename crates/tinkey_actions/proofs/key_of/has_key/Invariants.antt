use Rattle.std.proofs.Common.{◌≡◌, take, false}
use Rattle.std.specs.List.{list_any}
use Rattle.tinkey_plans.specs.Sealers.{may_have_made}
use Rattle.tinkey_actions.proofs.key_of.has_key.Given as goal

abbrev pub invariant-loop-i : goal.invariant-loop-i
invariant-loop-i l = list_any (may_have_made l.front) (take l.i l.keyset.records) ≡ false
