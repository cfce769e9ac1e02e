use Rattle.tinkey_readable.proofs.DoneWhereLemmas.{works_done}
use Rattle.tinkey_readable.proofs.laws.works_done.Goals as goal

pub returns : goal.returns
returns c = works_done c.fit_keysets_answer.ensures c.done_exactly.ensures.seals
