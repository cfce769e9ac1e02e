use Rattle.tinkey_words.specs.Words.{seen_lock}
use Rattle.tinkey_actions.proofs.StreamLemmas.{no_keyset, with_stream_keys, no_stream_keys}
use Rattle.tinkey_actions.proofs.streaming.load_stream_keys.Goals as goal

pub returns-in_err-keyset-clause-passes : goal.returns-in_err-keyset-clause-passes
returns-in_err-keyset-clause-passes g c = λ w.
    no_keyset _ (seen_lock c.args.lock) c.args.name.now c.args.form _ _ _ _ c.from_residual.ensures.1 (c.in_err-keyset.ensures.passes w)

pub returns-in-Ok-clause-passes : goal.returns-in-Ok-clause-passes
returns-in-Ok-clause-passes g c = λ w.
    let old = record w { store = g.D.Store.state c.args.store.now } in
    let mid = record w { store = g.D.Store.state c.load_locked.new.store } in
    with_stream_keys _ (seen_lock c.args.lock) c.args.name.now c.args.form old mid c.in_ok-keyset.keyset _ c.in-Ok.ensures.fit c.in-Ok.ensures.keys (c.in_ok-keyset.ensures.passes w)

pub returns-clause-passes : goal.returns-clause-passes
returns-clause-passes g c = λ w.
    let old = record w { store = g.D.Store.state c.args.store.now } in
    let mid = record w { store = g.D.Store.state c.load_locked.new.store } in
    let lock = seen_lock c.args.lock in
    rw c.stream_keys_status.ensures (no_stream_keys _ lock c.args.name.now c.args.form old mid c.in_ok-keyset.keyset _ c.in-Err.ensures.fault (c.in_ok-keyset.ensures.passes w))
