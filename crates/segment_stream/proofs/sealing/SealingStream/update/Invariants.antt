-- The first bytes of the plaintext were taken, and what is settled by them was written.
use Rattle.std.proofs.Common.{◌≤◌, ◌-◌, length, take}
use Rattle.tink_spec.specs.Outside.{Stood}
use Rattle.segment_stream.specs.Pushing.{Seals}
use Rattle.segment_stream.proofs.sealing.SealingStream.update.Given as goal

abbrev pub invariant-loop-at : goal.invariant-loop-at
invariant-loop-at g l = record {
  within : l.at ≤ length l.plain;
  stood : Stood (g.K.Sink.state l.fn.sink).faults (g.K.Sink.state l.sink).faults;
  seals : Seals l.initial.self l.self (take l.at l.plain) (g.K.Sink.state l.fn.sink) (g.K.Sink.state l.sink);
}

abbrev pub decreases-loop-at : goal.decreases-loop-at
decreases-loop-at g l = length l.plain - l.at
