use Rattle.tinkey_readable.proofs.LockedRunLemmas.{StepLaws, locks_step}
use Rattle.tinkey_readable.proofs.laws.locks_step.Goals as goal

pub returns : goal.returns
returns c =
    let l : StepLaws = record {
      faultless = c.faultless_keysets.ensures;
      binary = c.forms_back.ensures.binary;
      json = c.forms_back.ensures.json;
      stored = c.read_is_stored.ensures;
      back = c.wrap_back_bytes.ensures;
      keeps = c.edits_keep_keysets.ensures.edits;
      keeps_stored = c.stored_kept.ensures.edits;
      turns = c.saves_are_turns.ensures;
      sessions = c.session_is_edits.ensures.last;
      edited = c.edited_kept.ensures.keysets;
      keep_sessions = c.stored_kept.ensures.sessions;
    } in
    locks_step l
