-- The bytes, and then their keyset.
use Rattle.tinkey_plans.proofs.StepLemmas.{ends_there, passes_then}
use Rattle.tinkey_plans.specs.Steps.{keyset_in, keyset_limit, loads_bytes}
use Rattle.tinkey_actions.proofs.steps.load_keyset.Goals as goal

pub returns-in_err-bytes-clause-passes : goal.returns-in_err-bytes-clause-passes
returns-in_err-bytes-clause-passes g c = λ w.
    ends_there (loads_bytes c.args.from keyset_limit c.args.name.now) (keyset_in c.args.from c.args.form) _ _ _ _ c.from_residual.ensures.1 (c.in_err-bytes.ensures.passes w)

pub returns-clause-passes : goal.returns-clause-passes
returns-clause-passes g c = λ w.
    let old = record w { store = g.D.Store.state c.args.store.now } in
    let new = record w { store = g.D.Store.state c.load_bytes.new.store } in
    passes_then (loads_bytes c.args.from keyset_limit c.args.name.now) (keyset_in c.args.from c.args.form) old new new c.in_ok-bytes.bytes _ (c.in_ok-bytes.ensures.passes w)
    (rw c.as_slice.ensures at (c.keyset_of.ensures.passes new))
