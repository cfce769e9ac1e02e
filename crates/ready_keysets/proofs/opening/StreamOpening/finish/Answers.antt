use Rattle.std.proofs.Common.{◌∙◌, refl, sym}
use Rattle.ready_keysets.proofs.StreamLemmas.{open_stops_last}
use Rattle.ready_keysets.proofs.opening.StreamOpening.finish.Goals as goal

pub returns-in-Err-clause-answered : goal.returns-in-Err-clause-answered
returns-in-Err-clause-answered c = rw c.step_fault.ensures
    (open_stops_last c.args.self.now _ c.in-Some.stream c.args.out.now c.args.out.now c.finish.new.sink c.in-Err.fault
    (sym c.replace.ensures.value ∙ c.in-Some.is) c.in-Err.ensures.fault c.replace.ensures.after refl)
