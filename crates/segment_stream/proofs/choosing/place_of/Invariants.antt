-- The keys before this one don't fit, and the buffer is as it was.
use Rattle.std.proofs.Common.{◌≡◌, drop, take}
use Rattle.std.specs.List.{position_from}
use Rattle.segment_stream.specs.Choosing.{place_of}
use Rattle.segment_stream.specs.Opening.{fits}
use Rattle.segment_stream.specs.Segments.{ciphers_of}
use Rattle.segment_stream.proofs.choosing.place_of.Given as goal

abbrev pub invariant-loop-key : goal.invariant-loop-key
invariant-loop-key l = record {
  place : l.place ≡ l.key-index;
  kept : l.buffer ≡ l.fn.buffer;
  passed : place_of (ciphers_of l.ad l.keys) (take l.len l.fn.buffer)
      ≡ position_from (λ key. fits key (take l.len l.fn.buffer)) l.key-index (drop l.key-index (ciphers_of l.ad l.keys));
}
