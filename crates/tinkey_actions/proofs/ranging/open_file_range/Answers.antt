use Rattle.tinkey_plans.proofs.StepLemmas.{ends_there, passes_then}
use Rattle.tinkey_plans.specs.Ranging.{opens_file_range}
use Rattle.tinkey_plans.specs.Streaming.{loads_stream_keys}
use Rattle.tinkey_words.specs.Words.{seen_datum, seen_lock, seen_range}
use Rattle.tinkey_actions.proofs.ranging.open_file_range.Goals as goal

pub returns-in_err-keys : goal.returns-in_err-keys
returns-in_err-keys g c = λ w.
    ends_there (loads_stream_keys _ (seen_lock c.args.lock) c.args.keyset.now c.args.form) (λ keys next. opens_file_range keys (seen_datum c.args.ad) (seen_range c.args.range) next) _ _ _ _ c.from_residual.ensures.1 (c.in_err-keys.ensures.passes w)

pub returns : goal.returns
returns g c = λ w.
    let old = record w { store = g.D.Store.state c.args.store.now } in
    let mid = record w { store = g.D.Store.state c.load_stream_keys.new.store } in
    let new = record w { store = g.D.Store.state c.open_under.new.store } in
    passes_then (loads_stream_keys _ (seen_lock c.args.lock) c.args.keyset.now c.args.form) (λ keys next. opens_file_range keys (seen_datum c.args.ad) (seen_range c.args.range) next) old mid new c.in_ok-keys.keys _ (c.in_ok-keys.ensures.passes w) (c.open_under.ensures w)
