use Rattle.tinkey_words.proofs.MisuseLemmas.{misuses_are_true}
use Rattle.tinkey_words.proofs.laws.misuses_are_true.Goals as goal

pub returns : goal.returns
returns c = misuses_are_true
