use Rattle.tinkey_readable.proofs.CaseLemmas.{RunLaws, runs_dopen, runs_dopen_present, runs_open, runs_open_present, runs_verify}
use Rattle.tinkey_readable.proofs.laws.kept_runs.Goals as goal

pub returns-clause-open : goal.returns-clause-open
returns-clause-open c =
    let l : RunLaws = record {
      fit = c.read_keysets_fit.ensures;
      run = c.run_step.ensures;
      wrap = c.locks_step.ensures;
      sessions = c.session_is_edits.ensures.last;
      sound = c.edited_kept.ensures.sound;
      keyset = c.edited_kept.ensures.keysets;
    } in
    runs_open c.kept_anywhere.ensures.opens c.sound_usable.ensures.aead l

pub returns-clause-dopen : goal.returns-clause-dopen
returns-clause-dopen c =
    let l : RunLaws = record {
      fit = c.read_keysets_fit.ensures;
      run = c.run_step.ensures;
      wrap = c.locks_step.ensures;
      sessions = c.session_is_edits.ensures.last;
      sound = c.edited_kept.ensures.sound;
      keyset = c.edited_kept.ensures.keysets;
    } in
    runs_dopen c.kept_anywhere.ensures.dopens c.sound_usable.ensures.daead l

pub returns-clause-open_present : goal.returns-clause-open_present
returns-clause-open_present c =
    let l : RunLaws = record {
      fit = c.read_keysets_fit.ensures;
      run = c.run_step.ensures;
      wrap = c.locks_step.ensures;
      sessions = c.session_is_edits.ensures.last;
      sound = c.edited_kept.ensures.sound;
      keyset = c.edited_kept.ensures.keysets;
    } in
    runs_open_present c.kept_anywhere.ensures.opens_somehow c.sound_usable.ensures.aead l

pub returns-clause-dopen_present : goal.returns-clause-dopen_present
returns-clause-dopen_present c =
    let l : RunLaws = record {
      fit = c.read_keysets_fit.ensures;
      run = c.run_step.ensures;
      wrap = c.locks_step.ensures;
      sessions = c.session_is_edits.ensures.last;
      sound = c.edited_kept.ensures.sound;
      keyset = c.edited_kept.ensures.keysets;
    } in
    runs_dopen_present c.kept_anywhere.ensures.dopens_somehow c.sound_usable.ensures.daead l

pub returns-clause-verify : goal.returns-clause-verify
returns-clause-verify c =
    let l : RunLaws = record {
      fit = c.read_keysets_fit.ensures;
      run = c.run_step.ensures;
      wrap = c.locks_step.ensures;
      sessions = c.session_is_edits.ensures.last;
      sound = c.edited_kept.ensures.sound;
      keyset = c.edited_kept.ensures.keysets;
    } in
    runs_verify c.kept_anywhere.ensures.verifies c.sound_usable.ensures.mac l
