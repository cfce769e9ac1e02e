use Rattle.std.proofs.Common.{◌≡◌}
use Rattle.stream_range.proofs.TryLemmas.{Passed}
use Rattle.stream_range.proofs.trying.choose_key.Given as goal

abbrev pub invariant-loop-key : goal.invariant-loop-key
invariant-loop-key l = record {
  front : l.front ≡ l.fn.front;
  passed : Passed l.keys l.ad l.fn.front l.size l.key-index;
}
