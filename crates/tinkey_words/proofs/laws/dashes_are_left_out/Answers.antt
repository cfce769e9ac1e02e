use Rattle.tinkey_words.proofs.DashLemmas.{dashes_are_left_out}
use Rattle.tinkey_words.proofs.laws.dashes_are_left_out.Goals as goal

pub returns : goal.returns
returns c = dashes_are_left_out
