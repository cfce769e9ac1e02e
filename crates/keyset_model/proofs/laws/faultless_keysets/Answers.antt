use Rattle.keyset_model.proofs.FaultlessLemmas.{faultless-well_formed}
use Rattle.keyset_model.proofs.PrimaryLemmas.{well_formed-faultless}
use Rattle.keyset_model.proofs.laws.faultless_keysets.Goals as goal

pub returns : goal.returns
returns c = λ keys. (well_formed-faultless keys, faultless-well_formed keys)
