use Rattle.managers.specs.Standard.{standard_table}
use Rattle.wrapped_prims.specs.Answers.{tag_answer}
use Rattle.ready_keysets.proofs.DrawnLemmas.{answered_some}
use Rattle.ready_keysets.specs.declared.refusal.Refusal.TheVariants as refusals
use Rattle.ready_keysets.proofs.perform.tag.Goals as goal

pub returns-clause-answered : goal.returns-clause-answered
returns-clause-answered g c = λ keys over.
    answered_some refusals.Refused (tag_answer keys standard_table c.args.body.now) c.deref.result.now c.args.out.now c.put.new.out c.put.result
    (rw c.deref.ensures.value (rw c.requires.table at (c.in_ok-tag.ensures keys (rw c.requires.table over))))
    c.put.ensures.answered
