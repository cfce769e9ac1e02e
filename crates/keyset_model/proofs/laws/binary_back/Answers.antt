use Rattle.keyset_model.proofs.BinaryBack.{binary-back}
use Rattle.keyset_model.proofs.laws.binary_back.Goals as goal

pub returns : goal.returns
returns c = λ keys faultless bounds. binary-back keys faultless bounds
