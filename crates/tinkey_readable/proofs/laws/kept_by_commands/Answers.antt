use Rattle.tinkey_readable.proofs.KeptRunLemmas.{kept_by_commands}
use Rattle.tinkey_readable.proofs.LockedRunLemmas.{StepLaws}
use Rattle.tinkey_readable.proofs.laws.kept_by_commands.Goals as goal

pub returns : goal.returns
returns c =
    let l : StepLaws = record {
      faultless = c.faultless_keysets.ensures;
      binary = c.forms_back.ensures.binary;
      json = c.forms_back.ensures.json;
      stored = c.read_is_stored.ensures;
      back = c.wrap_back_bytes.ensures;
      keeps = c.edits_keep_keysets.ensures.edits;
      keeps_stored = c.stored_kept.ensures.edits;
      turns = c.saves_are_turns.ensures;
      sessions = c.session_is_edits.ensures.last;
      edited = c.edited_kept.ensures.keysets;
      keep_sessions = c.stored_kept.ensures.sessions;
    } in
    kept_by_commands c.run_step.ensures l
