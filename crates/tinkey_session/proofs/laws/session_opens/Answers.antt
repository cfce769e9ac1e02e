use Rattle.tinkey_session.proofs.SessionLemmas.{session_opens}
use Rattle.tinkey_session.proofs.laws.session_opens.Goals as goal

pub returns : goal.returns
returns c = session_opens c.lines_open.ensures
