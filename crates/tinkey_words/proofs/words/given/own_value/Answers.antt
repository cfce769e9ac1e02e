use Rattle.std.proofs.Common.{arith}
use Rattle.std.proofs.lemmas.Str.Pattern.{split_once_first}
use Rattle.tinkey_words.proofs.WordLemmas.{own_split}
use Rattle.tinkey_words.proofs.words.given.own_value.Goals as goal

pub returns : goal.returns
returns c = own_split _ _ (split_once_first 61 _ _ c.split_once.ensures.cases (omega arith))
