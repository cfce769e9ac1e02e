use Rattle.tinkey_session.proofs.TalkTurns.{saves_are_turns}
use Rattle.tinkey_session.proofs.laws.saves_are_turns.Goals as goal

pub returns : goal.returns
returns c = saves_are_turns
