-- Since the pass began all that was settled before the last read has been opened and written; what isn't lies in the
-- buffer.
use Rattle.std.proofs.Common.{◌≡◌, ◌≤◌, ◌<◌, ◌^◌, ◌+◌, ◌*◌, ◌-◌, List, ℕ, length, take}
use Rattle.std.specs.Prelude.{true, false, if◌then◌else◌}
use Rattle.tink_spec.specs.Outside.{Stood}
use Rattle.segment_stream.specs.Cipher.{SegmentCipher}
use Rattle.segment_stream.specs.Streams.{IsUnder}
use Rattle.segment_stream.specs.Under.{Standing}
use Rattle.segment_stream.specs.Reading.{ReadsOn}
use Rattle.segment_stream.proofs.Pass.{Going}
use Rattle.segment_stream.proofs.opening.open_rest.Given as goal

abbrev pub invariant-loop-ended : goal.invariant-loop-ended
invariant-loop-ended g l = record {
  stream : l.stream ≡ l.fn.stream;
  same : length l.buffer ≡ length l.fn.buffer;
  len : l.len ≤ length l.buffer;
  least : 1 ≤ l.number;
  most : l.number < 2 ^ 32;
  still : l.fn.whole ≡ true → (l.ended ≡ true) × (g.S.Source.state l.source ≡ g.S.Source.state l.fn.source);
  reads_on : l.fn.whole ≡ false → ReadsOn l.ended (g.S.Source.state l.fn.source) (g.S.Source.state l.source);
  read : Stood (g.S.Source.state l.fn.source).faults (g.S.Source.state l.source).faults;
  written : Stood (g.K.Sink.state l.fn.sink).faults (g.K.Sink.state l.sink).faults;
  goes : (cipher : SegmentCipher) (header taken written : List ℕ)
      → IsUnder l.fn.stream cipher header
      → Standing cipher header taken 1 (take l.held l.fn.buffer) written
      → Going cipher header taken written l.fn.whole l.ended (g.S.Source.state l.fn.source)
      (g.S.Source.state l.source) (g.K.Sink.state l.fn.sink) (g.K.Sink.state l.sink)
      (take l.len l.buffer) l.number;
}

abbrev pub decreases-loop-ended : goal.decreases-loop-ended
decreases-loop-ended g l =
    if l.ended then 0 else (4294967295 - l.number) * (l.size + 3) + (l.size + 1 - l.len) + 1
