use Rattle.std.proofs.Common.{◌≡◌, ◌+◌, ◌*◌, ◌≤◌, length, List, ℕ, Some}
use Rattle.std.specs.Vec.{vec_capacity, vec_len}
use Rattle.tink_spec.specs.Outside.{Stood}
use Rattle.segment_stream.specs.Cipher.{SegmentCipher}
use Rattle.segment_stream.specs.Opening.{opens_at}
use Rattle.segment_stream.specs.Pieces.{leading}
use Rattle.stream_range.specs.Device.{KeptDevice}
use Rattle.stream_range.specs.Reading.{Begins}
use Rattle.stream_range.proofs.RunLemmas.{RunSoFar}
use Rattle.stream_range.proofs.covering.open_run.Given as goal

abbrev pub invariant-loop-i : goal.invariant-loop-i
invariant-loop-i g l = record {
  begun : l.begun ≡ l.fn.begun;
  kept : KeptDevice (g.V.Device.state l.fn.device) (g.V.Device.state l.device);
  lent : g.V.Device.lent l.device ≡ g.V.Device.lent l.fn.device;
  stood : Stood (g.V.Device.state l.fn.device).faults (g.V.Device.state l.device).faults;
  given : (g.V.Device.state l.device).given ≤ (g.V.Device.state l.fn.device).given + l.i * l.fn.begun.sizes.segment;
  capacity : vec_capacity l.plain ≡ vec_capacity l.fn.plain;
  within : vec_len l.plain ≤ l.most;
  buffer : length l.buffer ≡ length l.fn.buffer;
  run : (key : SegmentCipher) (bytes : List ℕ) → (g.V.Device.state l.fn.device).bytes ≡ Some bytes → Begins l.fn.begun key bytes
      → RunSoFar (leading (opens_at key bytes) l.first l.i) l.i l.skip l.skip_left l.most l.plain.items;
}
