use Rattle.std.proofs.Common.{arith}
use Rattle.tinkey_words.specs.Words.{seen_lock, seen_work}
use Rattle.tinkey_actions.proofs.UseLemmas.{use_no_keyset, use_no_handle, use_no_input, use_with_handle, with_input}
use Rattle.tinkey_actions.proofs.using.use_keyset.Goals as goal

pub returns-in_err-keyset : goal.returns-in_err-keyset
returns-in_err-keyset g c = λ w.
    let work = seen_work c.args.work in
    use_no_keyset _ (seen_lock c.args.lock) c.args.name.now c.args.form work _ _ _ _ c.from_residual.ensures.1 (c.in_err-keyset.ensures.passes (record w { source = g.S.Source.state c.args.source.now; entropy = g.E.Entropy.state c.args.entropy.now }))

pub returns-in_err-handle : goal.returns-in_err-handle
returns-in_err-handle g c = λ w.
    let first = record w { source = g.S.Source.state c.args.source.now; entropy = g.E.Entropy.state c.args.entropy.now } in
    let old = record first { store = g.D.Store.state c.args.store.now } in
    let mid = record first { store = g.D.Store.state c.load_locked.new.store } in
    let work = seen_work c.args.work in
    use_no_handle _ (seen_lock c.args.lock) c.args.name.now c.args.form work old mid c.in_ok-keyset.keyset _ _ _ c.from_residual-in_err-handle.ensures.1 c.primitive_for.ensures (c.in_ok-keyset.ensures.passes first) (c.in_err-handle.ensures.passes mid)

pub returns-in_err-input : goal.returns-in_err-input
returns-in_err-input g c = λ w.
    let first = record w { source = g.S.Source.state c.args.source.now; entropy = g.E.Entropy.state c.args.entropy.now } in
    let old = record first { store = g.D.Store.state c.args.store.now } in
    let mid = record first { store = g.D.Store.state c.load_locked.new.store } in
    let new = record mid { source = g.S.Source.state c.read_input_behind.new.source } in
    let work = seen_work c.args.work in
    use_no_input _ (seen_lock c.args.lock) c.args.name.now c.args.form work old mid new c.in_ok-keyset.keyset _ _ _ c.primitive_for.ensures (c.in_ok-keyset.ensures.passes first) (c.in_ok-handle.ensures.passes mid)
    c.from_residual-in_err-input.ensures.1 (rw c.limit_for.ensures.limit at (c.in_err-input.ensures.passes mid))

pub do_work-requires-clause-room : goal.do_work-requires-clause-room
do_work-requires-clause-room g c = rw c.room_for-room.ensures.room at c.in_ok-input.ensures.room

pub do_work-requires-clause-bound : goal.do_work-requires-clause-bound
do_work-requires-clause-bound g c = rw (← c.room_for-room.ensures.room) (omega (arith, c.in_ok-input.ensures.within, c.limit_for.ensures.bound))

pub returns : goal.returns
returns g c = λ w.
    let first = record w { source = g.S.Source.state c.args.source.now; entropy = g.E.Entropy.state c.args.entropy.now } in
    let old = record first { store = g.D.Store.state c.args.store.now } in
    let mid = record first { store = g.D.Store.state c.load_locked.new.store } in
    let behind = record mid { source = g.S.Source.state c.read_input_behind.new.source } in
    let new = record behind { entropy = g.E.Entropy.state c.do_work.new.entropy } in
    let work = seen_work c.args.work in
    let keys = c.in_ok-keyset.keyset in
    let over = rw c.primitive_for.ensures at c.in_ok-handle.ensures.over in
    use_with_handle _ (seen_lock c.args.lock) c.args.name.now c.args.form work old mid new keys _ _ c.primitive_for.ensures (c.in_ok-keyset.ensures.passes first) (c.in_ok-handle.ensures.passes mid)
    (with_input _ _ work mid behind new keys _ _ c.in_ok-handle.ensures.table (rw (c.limit_for.ensures.limit, c.room_for-room.ensures.room) at (c.in_ok-input.ensures.passes mid)) (c.do_work.ensures behind over))
