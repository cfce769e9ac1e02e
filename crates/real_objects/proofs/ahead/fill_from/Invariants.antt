use Rattle.std.proofs.Common.{◌≤◌, ◌-◌, length, take}
use Rattle.std.specs.Io.KnownBytes.{Consumes}
use Rattle.real_objects.proofs.ahead.fill_from.Given as goal

abbrev pub decreases-loop-at : goal.decreases-loop-at
decreases-loop-at g l = length l.out - l.at

-- the bytes that are there came from the device, one after another
abbrev pub invariant-loop-at : goal.invariant-loop-at
invariant-loop-at g l = (l.at ≤ length l.out) × Consumes (g.R.Read.remaining l.initial.device) (g.R.Read.remaining l.device) (take l.at l.out)
