use Rattle.std.proofs.Common.{◌∙◌, [], ap, refl, sym}
use Rattle.managers.specs.Standard.{standard_table}
use Rattle.wrapped_prims.specs.Answers.{verify_answer}
use Rattle.ready_keysets.proofs.DrawnLemmas.{answered_some}
use Rattle.ready_keysets.specs.Working.{verified}
use Rattle.ready_keysets.specs.declared.refusal.Refusal.TheVariants as refusals
use Rattle.ready_keysets.proofs.perform.verify.Goals as goal

pub returns-then-verify-clause-answered : goal.returns-then-verify-clause-answered
returns-then-verify-clause-answered g c = λ keys over.
    let said = rw c.requires.table at (c.verify.ensures.verified keys (rw c.requires.table over)) in
    answered_some refusals.Refused (verified (verify_answer keys standard_table c.args.tag.now c.args.body.now)) [] c.args.out.now c.put.new.out c.put.result
    (ap verified (sym said ∙ c.if-verify.true)) c.put.ensures.answered

pub returns-else-verify-clause-answered : goal.returns-else-verify-clause-answered
returns-else-verify-clause-answered g c = λ keys over.
    let said = rw c.requires.table at (c.verify.ensures.verified keys (rw c.requires.table over)) in
    (ap verified (sym said ∙ c.if-verify.false), refl)
