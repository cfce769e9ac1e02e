use Rattle.tinkey_session.proofs.StoreLemmas.{saves_are_told}
use Rattle.tinkey_session.proofs.laws.saves_are_told.Goals as goal

pub returns : goal.returns
returns c = saves_are_told
