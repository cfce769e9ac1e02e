-- The keys before this one are decided and don't fit, and the buffer holds all that was taken.
use Rattle.std.proofs.Common.{◌≡◌, ◌≤◌, take}
use Rattle.std.specs.Vec.{vec_len}
use Rattle.tink_spec.specs.Outside.{Stood}
use Rattle.segment_stream.specs.Reading.{IsInPlace, ReadsOn}
use Rattle.segment_stream.specs.Segments.{ciphers_of}
use Rattle.segment_stream.proofs.Trials.{Trying}
use Rattle.segment_stream.proofs.resealing.pass_any.Given as goal

abbrev pub invariant-loop-key : goal.invariant-loop-key
invariant-loop-key g l = record {
  in_place : IsInPlace l.fn.buffer.bytes l.buffer.bytes;
  len : l.len ≤ vec_len l.buffer.bytes;
  unsealed : l.fn.sealing ≡ l.sealing;
  still : g.K.Sink.state l.fn.sink ≡ g.K.Sink.state l.sink;
  reads_on : ReadsOn l.ended (g.S.Source.state l.fn.source) (g.S.Source.state l.source);
  read : Stood (g.S.Source.state l.fn.source).faults (g.S.Source.state l.source).faults;
  trying : Trying (ciphers_of l.ad l.keys) l.key-index (g.S.Source.state l.fn.source)
      (g.S.Source.state l.source) (take l.len l.buffer.bytes.items) l.ended;
}
