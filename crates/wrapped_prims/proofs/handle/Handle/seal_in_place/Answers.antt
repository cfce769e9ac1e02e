use Rattle.std.proofs.lemmas.Result.{IfOk-weaker}
use Rattle.wrapped_prims.proofs.RoomLemmas.{seal_room-kept}
use Rattle.wrapped_prims.proofs.SealLemmas.{primary_sealing}
use Rattle.wrapped_prims.proofs.handle.Handle.seal_in_place.Goals as goal

pub returns-clause-sealed : goal.returns-clause-sealed
returns-clause-sealed g c = λ keys over.
    rw (seal_room-kept c.args.self.now.held c.primary-kept.result.now c.primary-kept.ensures.kept)
    (IfOk-weaker _ _ _ (λ sealed is. primary_sealing _ keys c.primary-kept.result.now _ _ _ _ _ (c.primary-kept.ensures.primary keys over) is) c.seal_kept.ensures.sealed)
