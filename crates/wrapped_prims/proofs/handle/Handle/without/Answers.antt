use Rattle.wrapped_prims.proofs.ChangeLemmas.{over_without}
use Rattle.wrapped_prims.proofs.handle.Handle.without.Goals as goal

pub returns-clause-over : goal.returns-clause-over
returns-clause-over g c =
    let loses = c.requires.loses in
    over_without _ c.args.self.primitive c.args.place _ loses.0 c.args.keyset.now _ c.args.self.held _ loses.1 loses.2
    c.remove-gone.ensures.items c.in_ok-held.ensures c.primary_at.ensures.faultless c.primary_at.ensures.primary
