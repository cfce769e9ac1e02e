use Rattle.std.proofs.Common.{◌∙◌, sym}
use Rattle.std.specs.Prelude.{slice_get}
use Rattle.std.proofs.lemmas.Option.{slice_get-map}
use Rattle.tinkey_session.proofs.CutLemmas.{lines_go_on}
use Rattle.tinkey_session.proofs.Options.{map_some}
use Rattle.tinkey_session.proofs.TurnLemmas.{turn_line}
use Rattle.tinkey_session.specs.SessionLaws.{TurnsAreSpelled}
use Rattle.tinkey_session.specs.Lines.{line_of}
use Rattle.tinkey_session.specs.Session.{asked_in, lines_of}
use Rattle.tinkey_session.proofs.laws.turns_are_lines.Goals as goal

spelled : TurnsAreSpelled
spelled table keys input random i t e =
    map_some line_of (slice_get (lines_of input) i) t.line (sym (slice_get-map line_of (lines_of input) i) ∙ turn_line table (asked_in input) keys random i t e)

pub returns : goal.returns
returns c = record {
  turns = λ table keys lines random i t e. turn_line table lines keys random i t e;
  spelled = spelled;
  lines = lines_go_on;
}
