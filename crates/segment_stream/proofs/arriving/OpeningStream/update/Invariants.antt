-- The first bytes were taken, and what they release was written.
use Rattle.std.proofs.Common.{◌≤◌, ◌-◌, length, take}
use Rattle.tink_spec.specs.Outside.{Stood}
use Rattle.segment_stream.specs.Arriving.{Opens}
use Rattle.segment_stream.proofs.arriving.OpeningStream.update.Given as goal

abbrev pub invariant-loop-at : goal.invariant-loop-at
invariant-loop-at g l = record {
  within : l.at ≤ length l.bytes;
  stood : Stood (g.K.Sink.state l.fn.sink).faults (g.K.Sink.state l.sink).faults;
  opens : Opens l.initial.self l.self (take l.at l.bytes) (g.K.Sink.state l.fn.sink) (g.K.Sink.state l.sink);
}

abbrev pub decreases-loop-at : goal.decreases-loop-at
decreases-loop-at g l = length l.bytes - l.at
