use Rattle.tinkey_readable.proofs.CaseLemmas.{RunLaws, runs_unwrap}
use Rattle.tinkey_readable.proofs.laws.kept_wrapped.Goals as goal

pub returns : goal.returns
returns c =
    let l : RunLaws = record {
      fit = c.read_keysets_fit.ensures;
      run = c.run_step.ensures;
      wrap = c.locks_step.ensures;
      sessions = c.session_is_edits.ensures.last;
      sound = c.edited_kept.ensures.sound;
      keyset = c.edited_kept.ensures.keysets;
    } in
    runs_unwrap c.kept_anywhere.ensures.unwraps c.sound_usable.ensures.aead l
