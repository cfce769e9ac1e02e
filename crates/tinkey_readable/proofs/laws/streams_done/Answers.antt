use Rattle.tinkey_readable.proofs.DoneStreamLemmas.{streams_done}
use Rattle.tinkey_readable.proofs.laws.streams_done.Goals as goal

pub returns : goal.returns
returns c = streams_done
