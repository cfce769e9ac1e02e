use Rattle.tinkey_session.proofs.SavedLemmas.{saves_are_before}
use Rattle.tinkey_session.proofs.laws.saves_are_before.Goals as goal

pub returns : goal.returns
returns c = saves_are_before
