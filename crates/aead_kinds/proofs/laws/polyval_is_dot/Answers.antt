-- Block by block.
use Rattle.aead_kinds.proofs.PolyvalLemmas.{polyval-dot}
use Rattle.aead_kinds.proofs.laws.polyval_is_dot.Goals as goal

pub returns : goal.returns
returns c = polyval-dot
