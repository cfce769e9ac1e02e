use Rattle.std.proofs.lemmas.Result.{IfErr-weaker, IfOk-weaker}
use Rattle.wrapped_prims.proofs.SealLemmas.{primary_into_fault, primary_sealing}
use Rattle.wrapped_prims.proofs.handle.Handle.seal_into.Goals as goal

pub returns-clause-sealed : goal.returns-clause-sealed
returns-clause-sealed g c = λ keys over.
    IfOk-weaker _ _ _ (λ size is. primary_sealing _ keys c.primary-kept.result.now _ _ _ _ _ (c.primary-kept.ensures.primary keys over) is) c.seal_kept_into.ensures.sealed

pub returns-clause-fault : goal.returns-clause-fault
returns-clause-fault g c = λ keys over.
    IfErr-weaker _ _ _ (λ fault is. primary_into_fault _ keys c.primary-kept.result.now _ _ _ _ _ fault (c.primary-kept.ensures.primary keys over) is) c.seal_kept_into.ensures.fault
