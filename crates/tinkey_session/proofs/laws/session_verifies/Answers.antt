use Rattle.tinkey_session.proofs.SessionLemmas.{session_verifies}
use Rattle.tinkey_session.proofs.laws.session_verifies.Goals as goal

pub returns : goal.returns
returns c = session_verifies c.sound_usable.ensures.mac c.sound_kept.ensures.edits c.kept_tag.ensures
