use Rattle.tinkey_cmds.specs.Edits.{seen_edit, step}
use Rattle.tinkey_plans.proofs.StepLemmas.{handed_on, made_passes, unmade_passes}
use Rattle.tinkey_plans.specs.Steps.{makes_keyset}
use Rattle.tinkey_actions.proofs.edits.edit_of.Goals as goal

pub returns-clause-passes : goal.returns-clause-passes
returns-clause-passes g c = λ w. made_passes _ (record w { entropy = g.E.Entropy.state c.args.entropy.now }) _ _ c.in_ok-apply.ensures.step

pub returns-in_err-apply-clause-passes : goal.returns-in_err-apply-clause-passes
returns-in_err-apply-clause-passes g c = λ w.
    let old = record w { entropy = g.E.Entropy.state c.args.entropy.now } in
    handed_on (λ keys. keys) (makes_keyset (step c.args.keyset (seen_edit c.args.command.now))) old _ _ _ c.from_residual.ensures.1 (unmade_passes _ old _ _ c.in_err-apply.ensures.step)
