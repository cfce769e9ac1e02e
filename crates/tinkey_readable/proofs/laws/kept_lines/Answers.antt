use Rattle.tinkey_readable.proofs.CaseLemmas.{RunLaws}
use Rattle.tinkey_readable.proofs.LineCaseLemmas.{made_dopens, made_dopens_present, made_opens, made_opens_present, made_verifies}
use Rattle.tinkey_readable.proofs.laws.kept_lines.Goals as goal

pub returns-clause-open : goal.returns-clause-open
returns-clause-open c =
    let l : RunLaws = record {
      fit = c.read_keysets_fit.ensures;
      run = c.run_step.ensures;
      wrap = c.locks_step.ensures;
      sessions = c.session_is_edits.ensures.last;
      sound = c.edited_kept.ensures.sound;
      keyset = c.edited_kept.ensures.keysets;
    } in
    made_opens c.kept_anywhere.ensures.opens c.saves_are_turns.ensures c.sound_usable.ensures.aead l

pub returns-clause-dopen : goal.returns-clause-dopen
returns-clause-dopen c =
    let l : RunLaws = record {
      fit = c.read_keysets_fit.ensures;
      run = c.run_step.ensures;
      wrap = c.locks_step.ensures;
      sessions = c.session_is_edits.ensures.last;
      sound = c.edited_kept.ensures.sound;
      keyset = c.edited_kept.ensures.keysets;
    } in
    made_dopens c.kept_anywhere.ensures.dopens c.saves_are_turns.ensures c.sound_usable.ensures.daead l

pub returns-clause-open_present : goal.returns-clause-open_present
returns-clause-open_present c =
    let l : RunLaws = record {
      fit = c.read_keysets_fit.ensures;
      run = c.run_step.ensures;
      wrap = c.locks_step.ensures;
      sessions = c.session_is_edits.ensures.last;
      sound = c.edited_kept.ensures.sound;
      keyset = c.edited_kept.ensures.keysets;
    } in
    made_opens_present c.kept_anywhere.ensures.opens_somehow c.saves_are_turns.ensures c.sound_usable.ensures.aead l

pub returns-clause-dopen_present : goal.returns-clause-dopen_present
returns-clause-dopen_present c =
    let l : RunLaws = record {
      fit = c.read_keysets_fit.ensures;
      run = c.run_step.ensures;
      wrap = c.locks_step.ensures;
      sessions = c.session_is_edits.ensures.last;
      sound = c.edited_kept.ensures.sound;
      keyset = c.edited_kept.ensures.keysets;
    } in
    made_dopens_present c.kept_anywhere.ensures.dopens_somehow c.saves_are_turns.ensures c.sound_usable.ensures.daead l

pub returns-clause-verify : goal.returns-clause-verify
returns-clause-verify c =
    let l : RunLaws = record {
      fit = c.read_keysets_fit.ensures;
      run = c.run_step.ensures;
      wrap = c.locks_step.ensures;
      sessions = c.session_is_edits.ensures.last;
      sound = c.edited_kept.ensures.sound;
      keyset = c.edited_kept.ensures.keysets;
    } in
    made_verifies c.kept_anywhere.ensures.verifies c.saves_are_turns.ensures c.sound_usable.ensures.mac l
