use Rattle.std.proofs.Common.{◌≤◌, length, ◌-◌, take}
use Rattle.tink_spec.specs.Outside.{Took, Stood}
use Rattle.tink_base.proofs.all.write_all.Given as goal

abbrev pub invariant-loop-at : goal.invariant-loop-at
invariant-loop-at g l = record {
  within : l.at ≤ length l.bytes;
  took : Took (g.K.Sink.state l.fn.sink) (g.K.Sink.state l.sink) (take l.at l.bytes);
  no_fault : Stood (g.K.Sink.state l.fn.sink).faults (g.K.Sink.state l.sink).faults;
}

abbrev pub decreases-loop-at : goal.decreases-loop-at
decreases-loop-at g l = length l.bytes - l.at
