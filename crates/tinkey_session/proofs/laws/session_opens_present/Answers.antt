use Rattle.tinkey_session.proofs.SessionLemmas.{session_opens_present}
use Rattle.tinkey_session.proofs.laws.session_opens_present.Goals as goal

pub returns : goal.returns
returns c = session_opens_present c.lines_open_present.ensures
