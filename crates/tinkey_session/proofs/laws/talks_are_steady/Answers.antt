use Rattle.tinkey_session.proofs.TalkLemmas.{talks_are_steady}
use Rattle.tinkey_session.proofs.laws.talks_are_steady.Goals as goal

pub returns : goal.returns
returns c = talks_are_steady
