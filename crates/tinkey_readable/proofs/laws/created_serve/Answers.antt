use Rattle.key_msgs.specs.declared.primitive.Primitive.TheVariants.{Aead, Daead, Mac}
use Rattle.tinkey_readable.proofs.LockedRunLemmas.{StepLaws, created_serve, created_serve_streams}
use Rattle.tinkey_readable.proofs.laws.created_serve.Goals as goal

pub returns : goal.returns
returns c =
    let l : StepLaws = record {
      faultless = c.faultless_keysets.ensures;
      binary = c.forms_back.ensures.binary;
      json = c.forms_back.ensures.json;
      stored = c.read_is_stored.ensures;
      back = c.wrap_back_bytes.ensures;
      keeps = c.edits_keep_keysets.ensures.edits;
      keeps_stored = c.stored_kept.ensures.edits;
      turns = c.saves_are_turns.ensures;
      sessions = c.session_is_edits.ensures.last;
      edited = c.edited_kept.ensures.keysets;
      keep_sessions = c.stored_kept.ensures.sessions;
    } in
    record {
      aead = created_serve Aead c.sound_usable.ensures.aead c.edited_kept.ensures.sound c.edits_keep_keysets.ensures.firsts c.stored_kept.ensures.firsts l;
      daead = created_serve Daead c.sound_usable.ensures.daead c.edited_kept.ensures.sound c.edits_keep_keysets.ensures.firsts c.stored_kept.ensures.firsts l;
      mac = created_serve Mac c.sound_usable.ensures.mac c.edited_kept.ensures.sound c.edits_keep_keysets.ensures.firsts c.stored_kept.ensures.firsts l;
      streams = created_serve_streams c.edited_kept.ensures.sound c.edits_keep_keysets.ensures.firsts c.stored_kept.ensures.firsts l;
    }
