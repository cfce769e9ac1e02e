-- The keys before this one are decided and don't fit.
use Rattle.std.proofs.Common.{◌≡◌, take}
use Rattle.segment_stream.specs.Arriving.{Passed}
use Rattle.segment_stream.specs.Segments.{ciphers_of}
use Rattle.segment_stream.proofs.trying.choose.Given as goal

abbrev pub invariant-loop-key : goal.invariant-loop-key
invariant-loop-key g l = record {
  still : g.K.Sink.state l.fn.sink ≡ g.K.Sink.state l.sink;
  same : l.buffer ≡ l.fn.buffer;
  index : l.count ≡ l.key-index;
  passed : Passed (ciphers_of l.ad l.keys) l.key-index (take l.len l.fn.buffer) l.ended;
}
