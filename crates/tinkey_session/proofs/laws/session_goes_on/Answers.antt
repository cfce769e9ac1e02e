use Rattle.tinkey_session.proofs.DrawLemmas.{session_goes_on}
use Rattle.tinkey_session.proofs.laws.session_goes_on.Goals as goal

pub returns : goal.returns
returns c = session_goes_on
