use Rattle.tinkey_words.proofs.GrammarLemmas.{places_are_decided}
use Rattle.tinkey_words.proofs.laws.places_are_decided.Goals as goal

pub returns : goal.returns
returns c = places_are_decided
