use Rattle.std.proofs.Common.{◌≡◌, ◌++◌, take}
use Rattle.keyset_model.specs.Listing.{escaped}
use Rattle.tinkey_actions.proofs.key_of.push_escaped.Given as goal

abbrev pub invariant-loop-byte : goal.invariant-loop-byte
invariant-loop-byte l = l.out.items ≡ l.fn.out.items ++ escaped (take l.byte-index l.text)
