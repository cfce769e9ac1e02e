use Rattle.tinkey_readable.proofs.DoneSessionLemmas.{sessions_done}
use Rattle.tinkey_readable.proofs.laws.sessions_done.Goals as goal

pub returns : goal.returns
returns c = sessions_done
