use Rattle.tinkey_session.proofs.TalkLemmas.{saves_are_steady}
use Rattle.tinkey_session.proofs.laws.saves_are_steady.Goals as goal

pub returns : goal.returns
returns c = saves_are_steady
