use Rattle.std.proofs.Common.{List, ℕ}
use Rattle.tinkey_plans.proofs.StepLemmas.{ends_there, passes_then}
use Rattle.tinkey_plans.specs.Locks.{keyset_under, limit_under}
use Rattle.tinkey_plans.specs.Steps.{loads_bytes}
use Rattle.tinkey_plans.specs.declared.origin.Origin.TheVariants as origins
use Rattle.tinkey_actions.proofs.locks.load_under.Goals as goal

pub keyset_under-requires-clause-within : goal.keyset_under-requires-clause-within
keyset_under-requires-clause-within g c = λ master table is. rw (c.as_slice.ensures, ← c.limit_under.ensures.limit table master is) c.in_ok-bytes.ensures.within

pub returns-in_err-bytes-clause-passes : goal.returns-in_err-bytes-clause-passes
returns-in_err-bytes-clause-passes g c = λ w table master is.
    ends_there {A = List ℕ} (loads_bytes origins.Keyset (limit_under master) c.args.name.now) (keyset_under origins.Keyset table master c.args.form) _ _ _ _ c.from_residual.ensures.1 (rw (c.limit_under.ensures.limit table master is) at (c.in_err-bytes.ensures.passes w))

pub returns-clause-passes : goal.returns-clause-passes
returns-clause-passes g c = λ w table master is.
    let old = record w { store = g.D.Store.state c.args.store.now } in
    let new = record w { store = g.D.Store.state c.load_bytes.new.store } in
    passes_then {A = List ℕ} (loads_bytes origins.Keyset (limit_under master) c.args.name.now) (keyset_under origins.Keyset table master c.args.form) old new new c.in_ok-bytes.bytes _ (rw (c.limit_under.ensures.limit table master is) at (c.in_ok-bytes.ensures.passes w)) (rw c.as_slice.ensures at (c.keyset_under.ensures.passes new table master is))
