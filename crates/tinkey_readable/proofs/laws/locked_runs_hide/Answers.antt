use Rattle.tinkey_readable.proofs.LockedHidingLemmas.{locked_lines_save, locked_runs_put, locked_sessions_save, sealed_alike}
use Rattle.tinkey_readable.proofs.laws.locked_runs_hide.Goals as goal

pub returns : goal.returns
returns c = record {
  puts = locked_runs_put c.text_hides_keys.ensures;
  lines = locked_lines_save c.text_hides_keys.ensures c.saves_are_turns.ensures;
  saves = locked_sessions_save c.text_hides_keys.ensures;
  alike = sealed_alike c.text_hides_keys.ensures;
}
