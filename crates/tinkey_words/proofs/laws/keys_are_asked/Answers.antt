use Rattle.tinkey_words.proofs.AskedLemmas.{keys_are_asked}
use Rattle.tinkey_words.proofs.laws.keys_are_asked.Goals as goal

pub returns : goal.returns
returns c = keys_are_asked
