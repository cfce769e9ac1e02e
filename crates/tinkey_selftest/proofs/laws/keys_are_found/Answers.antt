use Rattle.tinkey_selftest.proofs.KeyLemmas.{keys_are_found}
use Rattle.tinkey_selftest.proofs.laws.keys_are_found.Goals as goal

pub returns : goal.returns
returns c = keys_are_found
