use Rattle.std.proofs.Common.{◌≡◌, ◌≤◌, length, take}
use Rattle.std.specs.Prelude.{filter}
use Rattle.wrapped_prims.specs.Candidates.{is_raw}
use Rattle.tinkey_actions.proofs.key_of.raw_count.Given as goal

abbrev pub invariant-loop-i : goal.invariant-loop-i
invariant-loop-i l = record {
  counts : l.count ≡ length (filter is_raw (take l.i l.keyset.records));
  most : l.count ≤ l.i;
}
