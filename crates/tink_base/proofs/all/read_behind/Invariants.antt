use Rattle.std.proofs.Common.{◌<◌, ◌≤◌, drop, length, ◌-◌}
use Rattle.tink_spec.specs.Outside.{Gave, GoesOn, Stood}
use Rattle.tink_base.proofs.all.read_behind.Given as goal

abbrev pub invariant-loop-n : goal.invariant-loop-n
invariant-loop-n g l = record {
  begun : l.room ≤ length l.all.items;
  within : length l.all.items ≤ l.end;
  room : 0 < length l.piece;
  gave : Gave (g.S.Source.state l.fn.source) (g.S.Source.state l.source) (drop l.room l.all.items);
  goes_on : GoesOn (g.S.Source.state l.fn.source) (g.S.Source.state l.source);
  no_fault : Stood (g.S.Source.state l.fn.source).faults (g.S.Source.state l.source).faults;
}

abbrev pub decreases-loop-n : goal.decreases-loop-n
decreases-loop-n g l = l.end - length l.all.items
