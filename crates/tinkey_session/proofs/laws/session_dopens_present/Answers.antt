use Rattle.tinkey_session.proofs.SessionLemmas.{session_dopens_present}
use Rattle.tinkey_session.proofs.laws.session_dopens_present.Goals as goal

pub returns : goal.returns
returns c = session_dopens_present c.sound_usable.ensures.daead c.sound_kept.ensures.edits c.kept_dopen_present.ensures
