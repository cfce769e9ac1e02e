use Rattle.std.proofs.Common.{ap, Ok, Err, Result}
use Rattle.tinkey_cmds.specs.Edits.{Edit, seen_by}
use Rattle.tinkey_cmds.specs.Edits as edits
use Rattle.tinkey_session.proofs.EditLemmas.{finds_none}
use Rattle.tinkey_session.specs.Serving.{or_refused}
use Rattle.tinkey_session.specs.declared.reply.Refusal.{Refusal}
use Rattle.tinkey_session.proofs.session.find_edit.Goals as goal

pub returns-in_ok-find_template-in-Add : goal.returns-in_ok-find_template-in-Add
returns-in_ok-find_template-in-Add c = rw c.in-Add.is (ap (λ found. or_refused {P = Result Edit Refusal} Err found (λ row. Ok (edits.Add row))) c.in_ok-find_template-in-Add.ensures)

pub returns-in_ok-find_template-in-Rotate : goal.returns-in_ok-find_template-in-Rotate
returns-in_ok-find_template-in-Rotate c = rw c.in-Rotate.is (ap (λ found. or_refused {P = Result Edit Refusal} Err found (λ row. Ok (edits.Rotate row))) c.in_ok-find_template-in-Rotate.ensures)

pub returns-in_err-find_template-in-Add : goal.returns-in_err-find_template-in-Add
returns-in_err-find_template-in-Add c = finds_none (seen_by (λ name. name.now) c.args.edit) _ _ c.from_residual.ensures.1
    (rw c.in-Add.is (ap (λ found. or_refused {P = Result Edit Refusal} Err found (λ row. Ok (edits.Add row))) c.in_err-find_template-in-Add.ensures))

pub returns-in_err-find_template-in-Rotate : goal.returns-in_err-find_template-in-Rotate
returns-in_err-find_template-in-Rotate c = finds_none (seen_by (λ name. name.now) c.args.edit) _ _ c.from_residual-in_err-find_template-in-Rotate.ensures.1
    (rw c.in-Rotate.is (ap (λ found. or_refused {P = Result Edit Refusal} Err found (λ row. Ok (edits.Rotate row))) c.in_err-find_template-in-Rotate.ensures))
