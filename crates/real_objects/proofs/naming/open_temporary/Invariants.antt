use Rattle.std.proofs.Common.{◌≡◌}
use Rattle.real_objects.proofs.naming.open_temporary.Given as goal

-- no file was made under a temporary name
abbrev pub invariant-loop : goal.invariant-loop
invariant-loop g l = (g.N.NewName.stage l.name ≡ g.N.NewName.stage l.initial.name) × (g.N.NewName.temporary l.name ≡ g.N.NewName.temporary l.initial.name)
