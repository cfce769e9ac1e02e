use Rattle.tinkey_readable.proofs.DoneRangeLemmas.{ranges_done}
use Rattle.tinkey_readable.proofs.laws.ranges_done.Goals as goal

pub returns : goal.returns
returns c = ranges_done
