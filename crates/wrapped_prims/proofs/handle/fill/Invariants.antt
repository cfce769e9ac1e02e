use Rattle.std.proofs.Common.{drop}
use Rattle.managers.specs.contracts.table.ManagersKeyTable.TheImpl.{ghosts}
use Rattle.wrapped_prims.specs.Adding.{IsKept}
use Rattle.wrapped_prims.proofs.handle.fill.Given as goal

abbrev pub invariant-loop-i : goal.invariant-loop-i
invariant-loop-i g l =
    IsKept ((ghosts g.dyn-1 g.dyn-2 g.dyn-3 g.dyn-4).table l.managers) l.primitive l.keyset (drop l.i l.keyset.records) l.i l.held
