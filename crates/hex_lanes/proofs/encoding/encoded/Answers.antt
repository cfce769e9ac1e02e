use Rattle.std.proofs.Common.{refl}
use Rattle.hex_lanes.proofs.LaneLemmas.{digits_of_block}
use Rattle.hex_lanes.proofs.encoding.encoded.Goals as goal

pub returns : goal.returns
returns c = digits_of_block c.args.bytes c.fits-bytes.0 c.fits-bytes.1 _ refl
