-- By computing it.
use Rattle.aead_kinds.proofs.PolyvalLemmas.{inverse_is}
use Rattle.aead_kinds.proofs.laws.dot_has_the_inverse.Goals as goal

pub returns : goal.returns
returns c = inverse_is
