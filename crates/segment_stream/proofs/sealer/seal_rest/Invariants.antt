-- Since the pass began all that was settled has been sealed and written, and the buffer holds what
-- isn't.
use Rattle.std.proofs.Common.{◌≡◌, ◌≤◌, ◌+◌, ◌*◌, ◌-◌, length, take}
use Rattle.std.specs.Prelude.{true, false, if◌then◌else◌}
use Rattle.tink_spec.specs.Outside.{SinkState, SourceState, Stood, Took}
use Rattle.segment_stream.specs.Cipher.{SegmentCipher}
use Rattle.segment_stream.specs.Segments.{tag_size_under}
use Rattle.segment_stream.specs.Streams.{IsUnder}
use Rattle.segment_stream.specs.Reading.{ReadOn, ReadsOn}
use Rattle.segment_stream.proofs.SealPass.{SealGoing}
use Rattle.segment_stream.proofs.sealer.seal_rest.Given as goal

abbrev pub invariant-loop-len : goal.invariant-loop-len
invariant-loop-len g l = record {
  stream : l.stream ≡ l.fn.stream;
  size : l.size ≡ l.fn.stream.size - tag_size_under l.fn.stream.keys;
  same : length l.buffer ≡ length l.fn.buffer;
  len : l.len ≤ length l.buffer;
  room : l.len + tag_size_under l.fn.stream.keys ≤ length l.buffer;
  short : l.len ≤ l.size + 1;
  head : l.number ≡ 0 → l.fn.header ≤ l.len;
  most : l.number ≤ 4294967295;
  still : l.fn.whole ≡ true → (l.ended ≡ true) × (g.S.Source.state l.source ≡ g.S.Source.state l.fn.source);
  reads_on : l.fn.whole ≡ false → ReadsOn l.ended (g.S.Source.state l.fn.source) (g.S.Source.state l.source);
  read : Stood (g.S.Source.state l.fn.source).faults (g.S.Source.state l.source).faults;
  written : Stood (g.K.Sink.state l.fn.sink).faults (g.K.Sink.state l.sink).faults;
  goes : (cipher : SegmentCipher) (was : SourceState) (old : SinkState)
      → IsUnder l.fn.stream cipher (take l.fn.header l.fn.buffer)
      → Took old (g.K.Sink.state l.fn.sink) (take l.fn.header l.fn.buffer)
      → ReadOn was (g.S.Source.state l.fn.source) (take l.fn.header l.fn.buffer) (take l.held l.fn.buffer)
      → SealGoing cipher (take l.fn.header l.fn.buffer) l.ended was
      (g.S.Source.state l.source) old (g.K.Sink.state l.sink) (take l.len l.buffer) l.number;
}

abbrev pub decreases-loop-len : goal.decreases-loop-len
decreases-loop-len g l =
    (4294967295 - l.number) * (l.size + 3) + (l.size + 1 - l.len) + (if l.ended then 0 else 1)
