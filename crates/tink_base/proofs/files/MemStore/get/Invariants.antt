use Rattle.std.proofs.Common.{◌≡◌, drop}
use Rattle.std.specs.Ordering.{nat_cmp}
use Rattle.std.specs.Cmp.Lexicographic.{slice_cmp}
use Rattle.std.specs.FinMap.{get, find}
use Rattle.tink_base.proofs.files.MemStore.get.Given as goal

-- the newest file of the name is among those that are left
abbrev pub invariant-loop-other : goal.invariant-loop-other
invariant-loop-other l = get l.self.files l.name ≡ find (slice_cmp nat_cmp) l.name (drop l.other-index l.other-items)
