-- The record stands so far behind this place, among the ENABLED ones.
use Rattle.tinkey_actions.proofs.StreamKeyLemmas.{IsBehind}
use Rattle.tinkey_actions.proofs.stream_key.enabled_at.Given as goal

abbrev pub invariant-loop-i : goal.invariant-loop-i
invariant-loop-i l = IsBehind l.keyset.records l.place l.i l.left
