use Rattle.std.proofs.Common.{refl}
use Rattle.wrapped_prims.proofs.FollowLemmas.{over_first}
use Rattle.wrapped_prims.proofs.handle.Handle.grown.Goals as goal

pub fill-requires-clause-begun : goal.fill-requires-clause-begun
fill-requires-clause-begun g c =
    let grows = c.requires.grows in
    over_first _ c.args.self.primitive grows.0 c.args.keyset.now c.args.self.held _ grows.1.0 grows.1.1 grows.2 refl refl refl c.primary_at.ensures.primary
