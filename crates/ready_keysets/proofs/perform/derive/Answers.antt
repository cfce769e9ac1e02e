use Rattle.std.proofs.Common.{ap}
use Rattle.managers.specs.Standard.{standard_table}
use Rattle.wrapped_prims.specs.Answers.{derive_answer}
use Rattle.ready_keysets.proofs.DrawnLemmas.{answered_some}
use Rattle.ready_keysets.specs.Working.{derived}
use Rattle.ready_keysets.specs.declared.refusal.Refusal.TheVariants as refusals
use Rattle.ready_keysets.proofs.perform.derive.Goals as goal

pub returns-in-Ok-clause-answered : goal.returns-in-Ok-clause-answered
returns-in-Ok-clause-answered g c = λ keys over.
    let given = c.in-Ok.ensures.derived keys (rw c.requires.table over) in
    answered_some refusals.TooLong (derived (derive_answer keys standard_table c.args.input.now c.args.size)) c.deref.result.now c.args.out.now c.put.new.out c.put.result
    (rw c.deref.ensures.value (ap derived (rw c.requires.table at given)))
    c.put.ensures.answered
