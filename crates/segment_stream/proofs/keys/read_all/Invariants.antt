-- The keys so far and those of the records from here on are all of them, and the first record from
-- here on that can't serve is the first of all.
use Rattle.std.proofs.Common.{◌≡◌, ◌++◌}
use Rattle.std.specs.List.{AllByRecursion}
use Rattle.segment_stream.specs.Segments.{IsSound}
use Rattle.segment_stream.specs.StreamKeys.{stream_keys, stream_unfit}
use Rattle.segment_stream.proofs.KeysLemmas.{first_from, keys_from}
use Rattle.segment_stream.proofs.keys.read_all.Given as goal

abbrev pub invariant-loop-i : goal.invariant-loop-i
invariant-loop-i l = record {
  keys : l.keys.items ++ keys_from l.keyset l.i ≡ stream_keys l.keyset;
  sound : AllByRecursion IsSound l.keys.items;
  fit : first_from l.keyset l.i ≡ stream_unfit l.keyset;
}
