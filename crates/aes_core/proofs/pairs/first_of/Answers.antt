use Rattle.aes_core.proofs.Halves.{first_lanes}
use Rattle.aes_core.proofs.pairs.first_of.Goals as goal

pub returns : goal.returns
returns c = first_lanes c.args.blocks c.fits-blocks.0
