use Rattle.keyset_model.proofs.ReadBounds.{read-fits}
use Rattle.keyset_model.proofs.laws.read_keysets_fit.Goals as goal

pub returns : goal.returns
returns c = λ bytes keys few read. read-fits bytes keys few read
