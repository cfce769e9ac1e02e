use Rattle.tinkey_readable.proofs.DoneKeyOfLemmas.{key_of_done}
use Rattle.tinkey_readable.proofs.laws.key_of_done.Goals as goal

pub returns : goal.returns
returns c = key_of_done c.fit_keysets_answer.ensures
