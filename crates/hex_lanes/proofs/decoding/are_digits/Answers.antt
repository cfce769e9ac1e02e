use Rattle.hex_lanes.proofs.LaneLemmas.{digits_are}
use Rattle.hex_lanes.proofs.decoding.are_digits.Goals as goal

pub returns : goal.returns
returns c = digits_are c.args.block c.fits-block.0
