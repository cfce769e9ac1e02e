-- The largest so far and the keys from here on give the largest of all.
use Rattle.std.proofs.Common.{◌≡◌, drop}
use Rattle.segment_stream.specs.StreamKeys.{largest_of}
use Rattle.segment_stream.proofs.KeysLemmas.{largest_from}
use Rattle.segment_stream.proofs.keys.largest_of.Given as goal

abbrev pub invariant-loop-key : goal.invariant-loop-key
invariant-loop-key l =
    largest_from l.largest (drop l.key-index l.keys) ≡ largest_of l.keys
