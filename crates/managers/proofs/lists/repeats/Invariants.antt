use Rattle.std.proofs.Common.{◌≡◌, drop}
use Rattle.managers.specs.Table.{entries_by, has_repeat}
use Rattle.managers.proofs.lists.repeats.Given as goal

abbrev pub invariant-loop-i : goal.invariant-loop-i
invariant-loop-i g l =
    has_repeat (entries_by g.M.KeyManager.url g.M.KeyManager.scheme l.managers) ≡ has_repeat (entries_by g.M.KeyManager.url g.M.KeyManager.scheme (drop l.i l.managers))
