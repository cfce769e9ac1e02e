use Rattle.tinkey_plans.proofs.StepLemmas.{ends_there, passes_then}
use Rattle.tinkey_plans.specs.KeyOf.{tells_keys}
use Rattle.tinkey_plans.specs.Locks.{loads_locked}
use Rattle.tinkey_words.specs.Words.{seen_datum, seen_lock}
use Rattle.tinkey_actions.proofs.key_of.tell_keys.Goals as goal

pub returns-in_err-keyset : goal.returns-in_err-keyset
returns-in_err-keyset g c = λ w. ends_there (loads_locked _ (seen_lock c.args.lock) c.args.keyset.now c.args.form) (tells_keys c.args.kind (seen_datum c.args.ad)) _ _ _ _ c.from_residual.ensures.1 (c.in_err-keyset.ensures.passes (record w { source = g.S.Source.state c.args.source.now }))

pub returns : goal.returns
returns g c = λ w.
    let old = record w { source = g.S.Source.state c.args.source.now; store = g.D.Store.state c.args.store.now } in
    let mid = record w { source = g.S.Source.state c.args.source.now; store = g.D.Store.state c.load_locked.new.store } in
    let new = record w { source = g.S.Source.state c.tell_under.new.source; store = g.D.Store.state c.load_locked.new.store } in
    passes_then (loads_locked _ (seen_lock c.args.lock) c.args.keyset.now c.args.form) (tells_keys c.args.kind (seen_datum c.args.ad)) old mid new c.in_ok-keyset.keyset _
    (c.in_ok-keyset.ensures.passes (record w { source = g.S.Source.state c.args.source.now }))
    (c.tell_under.ensures (record w { store = g.D.Store.state c.load_locked.new.store }))
