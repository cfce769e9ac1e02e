use Rattle.tinkey_session.proofs.SessionLemmas.{lines_open}
use Rattle.tinkey_session.proofs.laws.lines_open.Goals as goal

pub returns : goal.returns
returns c = lines_open c.sound_usable.ensures.aead c.sound_kept.ensures.edits c.kept_open.ensures
