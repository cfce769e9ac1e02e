use Rattle.tinkey_session.proofs.EditLemmas.{asks_bad, asks_error, asks_named, asks_nothing, asks_unnamed}
use Rattle.tinkey_session.specs.Reading.{seen_line}
use Rattle.tinkey_session.proofs.session.command_of.Goals as goal

pub returns-in_ok-command-in-Edit : goal.returns-in_ok-command-in-Edit
returns-in_ok-command-in-Edit c = rw c.in-Edit.is (asks_named _ c.in_ok-command-in-Edit.command c.in_ok-command-in-Edit.ensures)

pub returns-in_err-command-in-Edit : goal.returns-in_err-command-in-Edit
returns-in_err-command-in-Edit c = asks_error (seen_line c.args.line.now) _ _ c.from_residual.ensures.1 (rw c.in-Edit.is (asks_unnamed _ _ c.in_err-command-in-Edit.ensures))

pub returns-in-Bad : goal.returns-in-Bad
returns-in-Bad c = rw c.in-Bad.is (asks_bad _)

pub returns-in_default : goal.returns-in_default
returns-in_default c = asks_nothing c.args.line.now c.requires.no_keys c.in_default.not-Edit c.in_default.not-Bad
