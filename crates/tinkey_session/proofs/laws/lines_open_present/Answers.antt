use Rattle.tinkey_session.proofs.SessionLemmas.{lines_open_present}
use Rattle.tinkey_session.proofs.laws.lines_open_present.Goals as goal

pub returns : goal.returns
returns c = lines_open_present c.sound_usable.ensures.aead c.sound_kept.ensures.edits c.kept_open_present.ensures
