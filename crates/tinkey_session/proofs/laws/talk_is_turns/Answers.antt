use Rattle.tinkey_session.proofs.TalkTurns.{talk_is_turns}
use Rattle.tinkey_session.proofs.laws.talk_is_turns.Goals as goal

pub returns : goal.returns
returns c = talk_is_turns
