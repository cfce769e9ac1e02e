use Rattle.std.proofs.Common.{◌≤◌, ◌-◌, take}
use Rattle.std.specs.Vec.{vec_len}
use Rattle.tink_spec.specs.Outside.{GoesOn, Stood}
use Rattle.segment_stream.specs.Reading.{IsInPlace}
use Rattle.segment_stream.proofs.Buffers.{Filling}
use Rattle.segment_stream.proofs.buffer.fill_until.Given as goal

abbrev pub invariant-loop-len : goal.invariant-loop-len
invariant-loop-len g l = record {
  in_place : IsInPlace l.fn.buffer.bytes l.buffer.bytes;
  bound : l.len ≤ l.end;
  within : l.len ≤ vec_len l.buffer.bytes;
  goes_on : GoesOn (g.S.Source.state l.fn.source) (g.S.Source.state l.source);
  stood : Stood (g.S.Source.state l.fn.source).faults (g.S.Source.state l.source).faults;
  reads : Filling (g.S.Source.state l.fn.source) (g.S.Source.state l.source)
      (take l.held l.fn.buffer.bytes.items) (take l.len l.buffer.bytes.items) l.held l.len;
}

abbrev pub decreases-loop-len : goal.decreases-loop-len
decreases-loop-len g l = l.end - l.len
