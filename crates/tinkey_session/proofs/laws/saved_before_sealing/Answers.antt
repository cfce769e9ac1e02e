use Rattle.tinkey_session.proofs.SavedReplyLemmas.{saved_before_sealing}
use Rattle.tinkey_session.proofs.laws.saved_before_sealing.Goals as goal

pub returns : goal.returns
returns c = saved_before_sealing
