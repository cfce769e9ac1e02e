-- What stands behind the bytes gone through decides for the whole text.
use Rattle.std.proofs.Common.{◌≡◌, ◌≤◌, drop}
use Rattle.keyset_json.specs.Nesting.{nests_within, is_shallow, most_levels}
use Rattle.keyset_json.proofs.nesting.is_shallow.Given as goal

abbrev pub invariant-loop-byte : goal.invariant-loop-byte
invariant-loop-byte l =
    (l.levels.level ≤ most_levels)
    × (is_shallow l.text ≡ nests_within most_levels l.levels.level l.levels.quoting (drop l.byte-index l.text))
