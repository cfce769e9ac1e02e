use Rattle.std.proofs.lemmas.Bool.{OnTrue_from}
use Rattle.hex_lanes.proofs.LaneLemmas.{bytes_are}
use Rattle.hex_lanes.proofs.decoding.joined.Goals as goal

pub returns : goal.returns
returns c = OnTrue_from _ _ (bytes_are c.args.block c.fits-block.0)
