use Rattle.tinkey_readable.proofs.LockedRunLemmas.{StepLaws}
use Rattle.tinkey_readable.proofs.SavedLineLemmas.{SavedLaws}
use Rattle.tinkey_readable.proofs.SavedReplyLemmas.{saved_replies, saved_replies_in_clear, saved_replies_under_master}
use Rattle.tinkey_readable.proofs.laws.saved_replies.Goals as goal

pub returns : goal.returns
returns c =
    let step : StepLaws = record {
      faultless = c.faultless_keysets.ensures;
      binary = c.forms_back.ensures.binary;
      json = c.forms_back.ensures.json;
      stored = c.read_is_stored.ensures;
      back = c.wrap_back_bytes.ensures;
      keeps = c.edits_keep_keysets.ensures.edits;
      keeps_stored = c.stored_kept.ensures.edits;
      turns = c.saves_are_turns.ensures;
      sessions = c.session_is_edits.ensures.last;
      edited = c.edited_kept.ensures.keysets;
      keep_sessions = c.stored_kept.ensures.sessions;
    } in
    let l : SavedLaws = record {
      step = step;
      opens = c.kept_anywhere.ensures.opens;
      dopens = c.kept_anywhere.ensures.dopens;
      verifies = c.kept_anywhere.ensures.verifies;
      opens_somehow = c.kept_anywhere.ensures.opens_somehow;
      dopens_somehow = c.kept_anywhere.ensures.dopens_somehow;
      sizes = c.sealings_fit.ensures.sealed;
      dsizes = c.sealings_fit.ensures.dsealed;
      kept_open = c.kept_open.ensures;
      kept_dopen = c.kept_dopen.ensures;
    } in
    let law = c.saved_before_sealing.ensures in
    record { made = saved_replies law; clear = saved_replies_in_clear l law; locked = saved_replies_under_master l law }
