-- The segments in front of what is held were opened, and their plaintexts written.
use Rattle.std.proofs.Common.{◌≡◌, ◌≤◌, ◌<◌, ◌^◌, ◌-◌, List, ℕ, length, take, drop}
use Rattle.tink_spec.specs.Outside.{Stood}
use Rattle.segment_stream.specs.Cipher.{SegmentCipher}
use Rattle.segment_stream.specs.Halting.{OpensOn}
use Rattle.segment_stream.specs.Streams.{IsUnder}
use Rattle.segment_stream.specs.Under.{Standing}
use Rattle.segment_stream.proofs.opening.open_followed.Given as goal

abbrev pub invariant-loop-start : goal.invariant-loop-start
invariant-loop-start g l = record {
  stream : l.stream ≡ l.fn.stream;
  same : length l.buffer ≡ length l.fn.buffer;
  start : l.start ≤ l.len;
  least : l.first ≤ l.number;
  none : l.number ≡ l.first → l.start ≡ l.from;
  most : l.number < 2 ^ 32;
  stood : Stood (g.K.Sink.state l.fn.sink).faults (g.K.Sink.state l.sink).faults;
  opens : (cipher : SegmentCipher) (header taken written : List ℕ)
      → IsUnder l.fn.stream cipher header
      → Standing cipher header taken l.first (drop l.from (take l.len l.fn.buffer)) written
      → OpensOn cipher header taken written l.number (drop l.start (take l.len l.buffer))
      (g.K.Sink.state l.fn.sink) (g.K.Sink.state l.sink);
}

abbrev pub decreases-loop-start : goal.decreases-loop-start
decreases-loop-start g l = l.len - l.start
