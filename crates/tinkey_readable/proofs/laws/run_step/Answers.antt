use Rattle.tinkey_readable.proofs.RunLemmas.{run_step}
use Rattle.tinkey_readable.proofs.laws.run_step.Goals as goal

pub returns : goal.returns
returns c = run_step c.faultless_keysets.ensures c.forms_back.ensures.binary c.forms_back.ensures.json c.edits_keep_keysets.ensures.edits c.stored_kept.ensures.edits c.saves_are_turns.ensures c.session_is_edits.ensures.last c.edited_kept.ensures.keysets c.stored_kept.ensures.sessions c.read_is_stored.ensures
