-- Edit by edit.
use Rattle.key_msgs.specs.Templates.{seen}
use Rattle.tinkey_cmds.specs.Applying.{answer_with}
use Rattle.tinkey_cmds.specs.Edits.{Add, Rotate, Promote, Enable, Disable, Destroy, Delete, step}
use Rattle.tinkey_cmds.specs.Laws.{HasTemplate}
use Rattle.tinkey_cmds.proofs.Applications.{edited-applied, short-edited}
use Rattle.tinkey_cmds.proofs.Wholes.{edited-whole, in_any}
use Rattle.tinkey_cmds.proofs.applying.apply.Goals as goal

pub returns-in-Add-clause-short : goal.returns-in-Add-clause-short
returns-in-Add-clause-short g c = λ short. short-edited c.add.result c.args.keyset.now _ (Add (seen c.in-Add.template)) _ _ c.add.ensures.known c.add.ensures.kept short c.add.ensures.step

pub returns-in-Rotate-clause-short : goal.returns-in-Rotate-clause-short
returns-in-Rotate-clause-short g c = λ short. short-edited c.rotate.result c.args.keyset.now _ (Rotate (seen c.in-Rotate.template)) _ _ c.rotate.ensures.known c.rotate.ensures.kept short c.rotate.ensures.step

pub returns-in-Promote-clause-step : goal.returns-in-Promote-clause-step
returns-in-Promote-clause-step g c = rw c.in-Promote.is (edited-applied (answer_with c.promote.result c.promote.new.keyset) (step c.args.keyset.now (Promote c.in-Promote.id)) (g.E.Entropy.state c.args.entropy.now) c.promote.ensures.step)

pub returns-in-Promote-clause-short : goal.returns-in-Promote-clause-short
returns-in-Promote-clause-short g c = λ short. short-edited c.promote.result c.args.keyset.now c.promote.new.keyset (Promote c.in-Promote.id) _ _ (in_any c.promote.result (HasTemplate (Promote c.in-Promote.id)) tt) c.promote.ensures.kept short
    (edited-applied (answer_with c.promote.result c.promote.new.keyset) (step c.args.keyset.now (Promote c.in-Promote.id)) (g.E.Entropy.state c.args.entropy.now) c.promote.ensures.step)

pub returns-in-Promote-clause-whole : goal.returns-in-Promote-clause-whole
returns-in-Promote-clause-whole g c = edited-whole c.promote.result c.promote.new.keyset (step c.args.keyset.now (Promote c.in-Promote.id)) (g.E.Entropy.state c.args.entropy.now) c.promote.ensures.step

pub returns-in-Enable-clause-step : goal.returns-in-Enable-clause-step
returns-in-Enable-clause-step g c = rw c.in-Enable.is (edited-applied (answer_with c.enable.result c.enable.new.keyset) (step c.args.keyset.now (Enable c.in-Enable.id)) (g.E.Entropy.state c.args.entropy.now) c.enable.ensures.step)

pub returns-in-Enable-clause-short : goal.returns-in-Enable-clause-short
returns-in-Enable-clause-short g c = λ short. short-edited c.enable.result c.args.keyset.now c.enable.new.keyset (Enable c.in-Enable.id) _ _ (in_any c.enable.result (HasTemplate (Enable c.in-Enable.id)) tt) c.enable.ensures.kept short
    (edited-applied (answer_with c.enable.result c.enable.new.keyset) (step c.args.keyset.now (Enable c.in-Enable.id)) (g.E.Entropy.state c.args.entropy.now) c.enable.ensures.step)

pub returns-in-Enable-clause-whole : goal.returns-in-Enable-clause-whole
returns-in-Enable-clause-whole g c = edited-whole c.enable.result c.enable.new.keyset (step c.args.keyset.now (Enable c.in-Enable.id)) (g.E.Entropy.state c.args.entropy.now) c.enable.ensures.step

pub returns-in-Disable-clause-step : goal.returns-in-Disable-clause-step
returns-in-Disable-clause-step g c = rw c.in-Disable.is (edited-applied (answer_with c.disable.result c.disable.new.keyset) (step c.args.keyset.now (Disable c.in-Disable.id)) (g.E.Entropy.state c.args.entropy.now) c.disable.ensures.step)

pub returns-in-Disable-clause-short : goal.returns-in-Disable-clause-short
returns-in-Disable-clause-short g c = λ short. short-edited c.disable.result c.args.keyset.now c.disable.new.keyset (Disable c.in-Disable.id) _ _ (in_any c.disable.result (HasTemplate (Disable c.in-Disable.id)) tt) c.disable.ensures.kept short
    (edited-applied (answer_with c.disable.result c.disable.new.keyset) (step c.args.keyset.now (Disable c.in-Disable.id)) (g.E.Entropy.state c.args.entropy.now) c.disable.ensures.step)

pub returns-in-Disable-clause-whole : goal.returns-in-Disable-clause-whole
returns-in-Disable-clause-whole g c = edited-whole c.disable.result c.disable.new.keyset (step c.args.keyset.now (Disable c.in-Disable.id)) (g.E.Entropy.state c.args.entropy.now) c.disable.ensures.step

pub returns-in-Destroy-clause-step : goal.returns-in-Destroy-clause-step
returns-in-Destroy-clause-step g c = rw c.in-Destroy.is (edited-applied (answer_with c.destroy.result c.destroy.new.keyset) (step c.args.keyset.now (Destroy c.in-Destroy.id)) (g.E.Entropy.state c.args.entropy.now) c.destroy.ensures.step)

pub returns-in-Destroy-clause-short : goal.returns-in-Destroy-clause-short
returns-in-Destroy-clause-short g c = λ short. short-edited c.destroy.result c.args.keyset.now c.destroy.new.keyset (Destroy c.in-Destroy.id) _ _ (in_any c.destroy.result (HasTemplate (Destroy c.in-Destroy.id)) tt) c.destroy.ensures.kept short
    (edited-applied (answer_with c.destroy.result c.destroy.new.keyset) (step c.args.keyset.now (Destroy c.in-Destroy.id)) (g.E.Entropy.state c.args.entropy.now) c.destroy.ensures.step)

pub returns-in-Destroy-clause-whole : goal.returns-in-Destroy-clause-whole
returns-in-Destroy-clause-whole g c = edited-whole c.destroy.result c.destroy.new.keyset (step c.args.keyset.now (Destroy c.in-Destroy.id)) (g.E.Entropy.state c.args.entropy.now) c.destroy.ensures.step

pub returns-in-Delete-clause-step : goal.returns-in-Delete-clause-step
returns-in-Delete-clause-step g c = rw c.in-Delete.is (edited-applied (answer_with c.delete.result c.delete.new.keyset) (step c.args.keyset.now (Delete c.in-Delete.id)) (g.E.Entropy.state c.args.entropy.now) c.delete.ensures.step)

pub returns-in-Delete-clause-short : goal.returns-in-Delete-clause-short
returns-in-Delete-clause-short g c = λ short. short-edited c.delete.result c.args.keyset.now c.delete.new.keyset (Delete c.in-Delete.id) _ _ (in_any c.delete.result (HasTemplate (Delete c.in-Delete.id)) tt) c.delete.ensures.kept short
    (edited-applied (answer_with c.delete.result c.delete.new.keyset) (step c.args.keyset.now (Delete c.in-Delete.id)) (g.E.Entropy.state c.args.entropy.now) c.delete.ensures.step)

pub returns-in-Delete-clause-whole : goal.returns-in-Delete-clause-whole
returns-in-Delete-clause-whole g c = edited-whole c.delete.result c.delete.new.keyset (step c.args.keyset.now (Delete c.in-Delete.id)) (g.E.Entropy.state c.args.entropy.now) c.delete.ensures.step
