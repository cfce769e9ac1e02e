use Rattle.tinkey_session.proofs.SoundLemmas.{edited_keyset, edited_sound}
use Rattle.tinkey_session.proofs.laws.edited_kept.Goals as goal

pub returns : goal.returns
returns c = record { keysets = edited_keyset; sound = edited_sound c.sound_kept.ensures.edits }
