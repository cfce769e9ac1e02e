-- An id that is found is in use.
use Rattle.std.proofs.Common.{◌≡◌, subst, sym}
use Rattle.std.specs.Option.{option_copied}
use Rattle.tinkey_cmds.specs.Applying.{records_in}
use Rattle.tinkey_cmds.specs.Edits.{is_taken}
use Rattle.tinkey_cmds.proofs.Drawings.{found-taken}
use Rattle.tinkey_cmds.proofs.drawing.is_taken.Goals as goal

pub returns-in-Some : goal.returns-in-Some
returns-in-Some c = subst (λ o. c.is_some.result ≡ is_taken (records_in (option_copied o)) c.args.id) (sym c.in-Some.is)
    (found-taken _ c.args.id _ _ c.if-id-eq0.false c.find.ensures.place c.is_some.ensures)
