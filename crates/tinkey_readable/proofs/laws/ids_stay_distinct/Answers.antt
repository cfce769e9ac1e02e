use Rattle.tinkey_readable.proofs.KeptRunLemmas.{command_ids_stay_distinct, created_ids_are_distinct, created_under_lock, data_stays_by_commands, given_back_by_enable, given_back_under_lock, kept_by_its_id_alone}
use Rattle.tinkey_readable.proofs.LockedRunLemmas.{StepLaws}
use Rattle.tinkey_readable.proofs.laws.ids_stay_distinct.Goals as goal

pub returns : goal.returns
returns c =
    let l : StepLaws = record {
      faultless = c.faultless_keysets.ensures;
      binary = c.forms_back.ensures.binary;
      json = c.forms_back.ensures.json;
      stored = c.read_is_stored.ensures;
      back = c.wrap_back_bytes.ensures;
      keeps = c.edits_keep_keysets.ensures.edits;
      keeps_stored = c.stored_kept.ensures.edits;
      turns = c.saves_are_turns.ensures;
      sessions = c.session_is_edits.ensures.last;
      edited = c.edited_kept.ensures.keysets;
      keep_sessions = c.stored_kept.ensures.sessions;
    } in
    record {
      apart = command_ids_stay_distinct c.run_step.ensures l;
      created = created_ids_are_distinct c.faultless_keysets.ensures c.forms_back.ensures.binary c.forms_back.ensures.json c.edits_keep_keysets.ensures.firsts c.stored_kept.ensures.firsts;
      created_under_lock = created_under_lock c.edits_keep_keysets.ensures.firsts c.stored_kept.ensures.firsts l;
      kept = kept_by_its_id_alone c.run_step.ensures l;
      stays = data_stays_by_commands c.run_step.ensures l;
      back = given_back_by_enable c.read_is_stored.ensures c.run_step.ensures;
      back_under_lock = given_back_under_lock c.edits_keep_keysets.ensures.firsts c.stored_kept.ensures.firsts l;
    }
