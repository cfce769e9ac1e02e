use Rattle.hex_lanes.proofs.LaneLemmas.{values_are}
use Rattle.hex_lanes.proofs.decoding.values.Goals as goal

pub returns : goal.returns
returns c = values_are c.args.text c.fits-text.0 c.fits-text.1
