use Rattle.aes_core.proofs.Halves.{second_lanes}
use Rattle.aes_core.proofs.pairs.second_of.Goals as goal

pub returns : goal.returns
returns c = second_lanes c.args.blocks c.fits-blocks.0
