use Rattle.std.proofs.Common.{refl}
use Rattle.ready_keysets.proofs.DrawnLemmas.{answered_some}
use Rattle.ready_keysets.specs.declared.refusal.Refusal.TheVariants as refusals
use Rattle.ready_keysets.proofs.perform.put_found.Goals as goal

pub returns-in-Some-clause-answered : goal.returns-in-Some-clause-answered
returns-in-Some-clause-answered c = λ plain sealed opened.
    let is = rw c.in-Some.is at opened in
    answered_some refusals.Refused plain _ c.args.out.now c.put.new.out c.put.result is.2 c.put.ensures.answered

pub returns-in-None-clause-answered : goal.returns-in-None-clause-answered
returns-in-None-clause-answered c = λ plain sealed opened.
    let is = rw c.in-None.is at opened in
    (is.0, refl)
