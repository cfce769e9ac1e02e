use Rattle.keyset_model.proofs.ReadBounds.{read-within}
use Rattle.keyset_model.proofs.laws.read_within_source.Goals as goal

pub returns : goal.returns
returns c = λ bytes keys read. read-within bytes keys read
