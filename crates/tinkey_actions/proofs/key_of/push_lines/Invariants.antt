use Rattle.std.proofs.Common.{◌≡◌, ◌++◌, take}
use Rattle.std.specs.List.{flat_map}
use Rattle.std.specs.Prelude.{filter}
use Rattle.tinkey_plans.specs.KeyOf.{key_line}
use Rattle.tinkey_plans.specs.Sealers.{stands_under}
use Rattle.tinkey_actions.proofs.key_of.push_lines.Given as goal

abbrev pub invariant-loop-i : goal.invariant-loop-i
invariant-loop-i l = l.out.items ≡ l.fn.out.items ++ flat_map key_line (filter (stands_under l.front) (take l.i l.keyset.records))
