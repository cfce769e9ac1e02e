use Rattle.wrapped_prims.proofs.KeepLemmas.{kept_none}
use Rattle.wrapped_prims.proofs.handle.Handle.new.Goals as goal

pub fill-requires-clause-begun : goal.fill-requires-clause-begun
fill-requires-clause-begun g c = kept_none _ c.args.primitive c.args.keyset.now _ _ c.new-none.ensures c.primary_at.ensures.primary
