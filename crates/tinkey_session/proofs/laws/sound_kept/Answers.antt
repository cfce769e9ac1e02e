use Rattle.tinkey_session.proofs.SoundLemmas.{edits_keep_sound, firsts_are_sound}
use Rattle.tinkey_session.proofs.laws.sound_kept.Goals as goal

pub returns : goal.returns
returns c = record { edits = edits_keep_sound c.made_is_valid.ensures; firsts = firsts_are_sound c.made_is_valid.ensures; follow = c.edits_follow.ensures; others = c.edits_leave_others.ensures }
