use Rattle.tinkey_readable.proofs.DoneWhereLemmas.{edits_done}
use Rattle.tinkey_readable.proofs.laws.edits_done.Goals as goal

pub returns : goal.returns
returns c = edits_done
