use Rattle.std.proofs.Common.{◌≡◌, take}
use Rattle.keyset_model.proofs.keyset.copy_all.Given as goal

abbrev pub invariant-loop-key : goal.invariant-loop-key
invariant-loop-key l = l.copies.items ≡ take l.key-index l.records
