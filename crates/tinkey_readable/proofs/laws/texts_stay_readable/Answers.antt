use Rattle.tinkey_readable.proofs.KeptTextLemmas.{AnywhereLaws, EditLaws, reads_after_commands, reads_by_its_id_alone}
use Rattle.tinkey_readable.proofs.laws.texts_stay_readable.Goals as goal

pub returns : goal.returns
returns c =
    let e : EditLaws = record {
      aead = c.sound_usable.ensures.aead;
      daead = c.sound_usable.ensures.daead;
      mac = c.sound_usable.ensures.mac;
      sound = c.edited_kept.ensures.sound;
      keyset = c.edited_kept.ensures.keysets;
    } in
    let a : AnywhereLaws = record {
      opens = c.kept_anywhere.ensures.opens;
      dopens = c.kept_anywhere.ensures.dopens;
      verifies = c.kept_anywhere.ensures.verifies;
      opens_stream = c.kept_anywhere.ensures.opens_stream;
      opens_range = c.kept_anywhere.ensures.opens_range;
      opens_envelope = c.kept_anywhere.ensures.opens_envelope;
      unwraps = c.kept_anywhere.ensures.unwraps;
    } in
    record {
      commands = reads_after_commands c.read_keysets_fit.ensures c.run_step.ensures c.locks_step.ensures c.session_is_edits.ensures.last e a c.kept_by_commands.ensures;
      by_id = reads_by_its_id_alone c.read_keysets_fit.ensures c.run_step.ensures c.locks_step.ensures c.session_is_edits.ensures.last e a c.ids_stay_distinct.ensures.kept;
    }
