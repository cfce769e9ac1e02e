use Rattle.wrapped_prims.proofs.ChangeLemmas.{fault_changed, over_changed}
use Rattle.wrapped_prims.proofs.KeepLemmas.{fault_refused}
use Rattle.wrapped_prims.proofs.handle.Handle.changed.Goals as goal

pub returns-in_err-slots-clause-fault : goal.returns-in_err-slots-clause-fault
returns-in_err-slots-clause-fault g c =
    let changes = c.requires.changes in
    fault_refused _ _ _ c.from_residual.ensures.1
    (fault_changed _ c.args.self.primitive c.args.place changes.0 c.args.keyset.now c.record_at.result.now c.args.self.held c.in_err-slots.field-0.0 changes.1 changes.2 c.record_at.ensures.record_there c.in_err-slots.ensures.keeping)

pub returns-clause-over : goal.returns-clause-over
returns-clause-over g c =
    let changes = c.requires.changes in
    over_changed _ c.args.self.primitive c.args.place _ changes.0 c.args.keyset.now c.record_at.result.now _ c.args.self.held _ changes.1 changes.2
    c.record_at.ensures.record_there c.in_ok-slots.ensures.keeping c.in_ok-slots.ensures.word c.in_ok-held.ensures c.primary_at.ensures.faultless c.primary_at.ensures.primary
