use Rattle.tinkey_readable.proofs.CaseLemmas.{RunLaws, runs_open_stream, runs_open_stream_present}
use Rattle.tinkey_readable.proofs.laws.kept_streams.Goals as goal

pub returns-clause-open : goal.returns-clause-open
returns-clause-open c =
    let l : RunLaws = record {
      fit = c.read_keysets_fit.ensures;
      run = c.run_step.ensures;
      wrap = c.locks_step.ensures;
      sessions = c.session_is_edits.ensures.last;
      sound = c.edited_kept.ensures.sound;
      keyset = c.edited_kept.ensures.keysets;
    } in
    runs_open_stream c.kept_anywhere.ensures.opens_stream l

pub returns-clause-open_present : goal.returns-clause-open_present
returns-clause-open_present c =
    let l : RunLaws = record {
      fit = c.read_keysets_fit.ensures;
      run = c.run_step.ensures;
      wrap = c.locks_step.ensures;
      sessions = c.session_is_edits.ensures.last;
      sound = c.edited_kept.ensures.sound;
      keyset = c.edited_kept.ensures.keysets;
    } in
    runs_open_stream_present c.kept_anywhere.ensures.opens_first_segment l
