use Rattle.tinkey_words.proofs.FitLemmas.{words_are_spelled}
use Rattle.tinkey_words.proofs.laws.words_are_spelled.Goals as goal

pub returns : goal.returns
returns c = words_are_spelled
