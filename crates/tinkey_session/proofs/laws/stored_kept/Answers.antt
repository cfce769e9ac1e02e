use Rattle.tinkey_session.proofs.StoredLemmas.{edits_keep_stored, firsts_are_stored, sessions_keep_stored}
use Rattle.tinkey_session.proofs.laws.stored_kept.Goals as goal

pub returns : goal.returns
returns c = record { edits = edits_keep_stored; firsts = firsts_are_stored; sessions = sessions_keep_stored }
