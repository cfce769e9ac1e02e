use Rattle.std.proofs.Common.{arith}
use Rattle.wrapped_prims.proofs.HandleLemmas.{primary_is, primary_kept, primary_none, primary_served, primary_within}
use Rattle.wrapped_prims.proofs.making.primary.Goals as goal

pub index-requires : goal.index-requires
index-requires g c =
    let within = primary_within _ _ _ _ c.requires.over.1 in
    omega (arith, within, c.args.held.now.slots.ok)

pub unreachable-requires : goal.unreachable-requires
unreachable-requires g c = primary_none _ _ _ _ _ c.requires.over.1 c.index.ensures c.in-None.is

pub returns-clause-primary : goal.returns-clause-primary
returns-clause-primary g c = λ keys over. primary_is _ _ keys _ _ _ over c.index.ensures c.in-Some.is

pub returns-clause-served : goal.returns-clause-served
returns-clause-served g c = primary_served _ _ _ _ _ _ c.requires.over.1 c.index.ensures c.in-Some.is

pub returns-clause-kept : goal.returns-clause-kept
returns-clause-kept g c = primary_kept _ _ _ _ _ _ c.requires.over.1 c.index.ensures c.in-Some.is
