use Rattle.tinkey_session.proofs.DrawLemmas.{refusals_leave}
use Rattle.tinkey_session.proofs.laws.refusals_leave.Goals as goal

pub returns : goal.returns
returns c = refusals_leave
