-- None of the records so far is the key.
use Rattle.std.proofs.Common.{◌≡◌, drop}
use Rattle.std.specs.List.{list_any}
use Rattle.tinkey_selftest.specs.Trial.{has_key, is_same_key}
use Rattle.tinkey_selftest.proofs.trial.has_key.Given as goal

abbrev pub invariant-loop-i : goal.invariant-loop-i
invariant-loop-i l = has_key l.sealer l.keyset ≡ list_any (is_same_key l.sealer) (drop l.i l.keyset.records)
