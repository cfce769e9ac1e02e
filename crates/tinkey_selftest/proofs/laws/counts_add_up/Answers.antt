use Rattle.tinkey_selftest.proofs.CountLemmas.{counts_add_up}
use Rattle.tinkey_selftest.proofs.laws.counts_add_up.Goals as goal

pub returns : goal.returns
returns c = counts_add_up
