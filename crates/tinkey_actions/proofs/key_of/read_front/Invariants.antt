use Rattle.std.proofs.Common.{◌≡◌, ◌≤◌, ◌-◌, length, take}
use Rattle.tink_spec.specs.Outside.{Gave, Stood}
use Rattle.tinkey_actions.proofs.key_of.read_front.Given as goal

abbrev pub invariant-loop-at : goal.invariant-loop-at
invariant-loop-at g l = record {
  within : l.at ≤ length l.front;
  size : length l.front ≡ length l.fn.front;
  gave : Gave (g.S.Source.state l.fn.source) (g.S.Source.state l.source) (take l.at l.front);
  no_fault : Stood (g.S.Source.state l.fn.source).faults (g.S.Source.state l.source).faults;
}

abbrev pub decreases-loop-at : goal.decreases-loop-at
decreases-loop-at g l = length l.front - l.at
