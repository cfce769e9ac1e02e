use Rattle.tinkey_session.proofs.SessionLemmas.{session_dopens}
use Rattle.tinkey_session.proofs.laws.session_dopens.Goals as goal

pub returns : goal.returns
returns c = session_dopens c.sound_usable.ensures.daead c.sound_kept.ensures.edits c.kept_dopen.ensures
