use Rattle.std.proofs.Common.{subst, Option, List, ℕ}
use Rattle.tink_spec.specs.InPlace.{OpensTo}
use Rattle.wrapped_prims.proofs.OpenLemmas.{opens-IsOver}
use Rattle.wrapped_prims.proofs.handle.Handle.dopen_within.Goals as goal

pub try_all-requires-clause-served : goal.try_all-requires-clause-served
try_all-requires-clause-served g c = c.requires.over.1.served

pub returns : goal.returns
returns g c = λ keys over.
    subst (λ (plain : Option (List ℕ)). OpensTo plain c.args.bytes.now c.try_all.new.bytes c.try_all.result)
    (opens-IsOver _ _ keys _ c.args.bytes.now c.args.ad.now over) c.try_all.ensures.opened
