use Rattle.tinkey_readable.proofs.CaseLemmas.{RunLaws, runs_open_envelope}
use Rattle.tinkey_readable.proofs.laws.kept_envelopes.Goals as goal

pub returns : goal.returns
returns c =
    let l : RunLaws = record {
      fit = c.read_keysets_fit.ensures;
      run = c.run_step.ensures;
      wrap = c.locks_step.ensures;
      sessions = c.session_is_edits.ensures.last;
      sound = c.edited_kept.ensures.sound;
      keyset = c.edited_kept.ensures.keysets;
    } in
    runs_open_envelope c.kept_anywhere.ensures.opens_envelope c.sound_usable.ensures.aead l
