use Rattle.std.proofs.Common.{drop}
use Rattle.tinkey_words.specs.Words.{seen_envelope, seen_lock}
use Rattle.key_msgs.specs.Templates.{seen}
use Rattle.tinkey_actions.specs.Rooms.{envelope_room}
use Rattle.tinkey_actions.proofs.EnvelopeLemmas.{envelope_no_handle, envelope_no_input, envelope_no_keyset, envelope_no_manager, envelope_no_template, envelope_with_handle, envelope_with_input}
use Rattle.tinkey_actions.proofs.enveloping.use_envelope.Goals as goal

pub returns-in_err-template : goal.returns-in_err-template
returns-in_err-template g c = λ w.
    let old = record w { source = g.S.Source.state c.args.source.now; store = g.D.Store.state c.args.store.now; entropy = g.E.Entropy.state c.args.entropy.now } in
    envelope_no_template _ (seen_lock c.args.lock) c.args.name.now c.args.form c.args.template.now (seen_envelope c.args.work) old old _ _ c.from_residual.ensures.1 (c.in_err-template.ensures.passes old)

pub returns-in_err-keyset : goal.returns-in_err-keyset
returns-in_err-keyset g c = λ w.
    let first = record w { source = g.S.Source.state c.args.source.now; entropy = g.E.Entropy.state c.args.entropy.now } in
    let old = record first { store = g.D.Store.state c.args.store.now } in
    let mid = record first { store = g.D.Store.state c.load_locked.new.store } in
    envelope_no_keyset _ (seen_lock c.args.lock) c.args.name.now c.args.form c.args.template.now (seen_envelope c.args.work) old mid (seen c.in_ok-template.template) _ _ (c.in_ok-template.ensures.passes old)
    c.from_residual-in_err-keyset.ensures.1 (c.in_err-keyset.ensures.passes first)

pub returns-in_err-handle : goal.returns-in_err-handle
returns-in_err-handle g c = λ w.
    let first = record w { source = g.S.Source.state c.args.source.now; entropy = g.E.Entropy.state c.args.entropy.now } in
    let old = record first { store = g.D.Store.state c.args.store.now } in
    let mid = record first { store = g.D.Store.state c.load_locked.new.store } in
    envelope_no_handle _ (seen_lock c.args.lock) c.args.name.now c.args.form c.args.template.now (seen_envelope c.args.work) old mid (seen c.in_ok-template.template) c.in_ok-keyset.keyset _ _ (c.in_ok-template.ensures.passes old) (c.in_ok-keyset.ensures.passes first)
    c.from_residual-in_err-handle.ensures.1 (c.in_err-handle.ensures.passes mid)

pub returns-in_err-manager : goal.returns-in_err-manager
returns-in_err-manager g c = λ w.
    let first = record w { source = g.S.Source.state c.args.source.now; entropy = g.E.Entropy.state c.args.entropy.now } in
    let old = record first { store = g.D.Store.state c.args.store.now } in
    let mid = record first { store = g.D.Store.state c.load_locked.new.store } in
    let row = seen c.in_ok-template.template in
    let keys = c.in_ok-keyset.keyset in
    let work = seen_envelope c.args.work in
    envelope_no_manager _ (seen_lock c.args.lock) c.args.name.now c.args.form c.args.template.now work old mid row keys _ _ (c.in_ok-template.ensures.passes old) (c.in_ok-keyset.ensures.passes first) (c.in_ok-handle.ensures.passes mid)
    c.from_residual-in_err-manager.ensures.1 (c.in_err-manager.ensures.passes mid)

pub returns-in_err-input : goal.returns-in_err-input
returns-in_err-input g c = λ w.
    let first = record w { source = g.S.Source.state c.args.source.now; entropy = g.E.Entropy.state c.args.entropy.now } in
    let old = record first { store = g.D.Store.state c.args.store.now } in
    let mid = record first { store = g.D.Store.state c.load_locked.new.store } in
    let new = record mid { source = g.S.Source.state c.read_input_behind.new.source } in
    let row = seen c.in_ok-template.template in
    let keys = c.in_ok-keyset.keyset in
    let work = seen_envelope c.args.work in
    envelope_no_input _ (seen_lock c.args.lock) c.args.name.now c.args.form c.args.template.now work old mid new row keys _ _ _ (c.in_ok-template.ensures.passes old) (c.in_ok-keyset.ensures.passes first) (c.in_ok-handle.ensures.passes mid)
    (c.in_ok-manager.ensures.passes mid) c.from_residual-in_err-input.ensures.1 (rw c.envelope_limit.ensures.limit at (c.in_err-input.ensures.passes mid))

pub seal_envelope-requires-clause-room : goal.seal_envelope-requires-clause-room
seal_envelope-requires-clause-room g c = rw (c.envelope_room.ensures.room, c.in-Seal.is) at c.in_ok-input.ensures.room

pub seal_envelope-requires-clause-bound : goal.seal_envelope-requires-clause-bound
seal_envelope-requires-clause-bound g c = rw (c.envelope_room.ensures.room, c.envelope_limit.ensures.limit, c.in-Seal.is) at c.in_ok-input.ensures.within

pub open_envelope-requires-clause-bound : goal.open_envelope-requires-clause-bound
open_envelope-requires-clause-bound g c = rw (c.envelope_room.ensures.room, c.envelope_limit.ensures.limit, c.in-Open.is) at c.in_ok-input.ensures.within

pub returns-in-Seal : goal.returns-in-Seal
returns-in-Seal g c = λ w.
    let first = record w { source = g.S.Source.state c.args.source.now; entropy = g.E.Entropy.state c.args.entropy.now } in
    let old = record first { store = g.D.Store.state c.args.store.now } in
    let mid = record first { store = g.D.Store.state c.load_locked.new.store } in
    let behind = record mid { source = g.S.Source.state c.read_input_behind.new.source } in
    let new = record behind { entropy = g.E.Entropy.state c.seal_envelope.new.entropy } in
    let row = seen c.in_ok-template.template in
    let keys = c.in_ok-keyset.keyset in
    let work = seen_envelope c.args.work in
    envelope_with_handle _ (seen_lock c.args.lock) c.args.name.now c.args.form c.args.template.now work old mid new row keys _ (c.in_ok-template.ensures.passes old) (c.in_ok-keyset.ensures.passes first) (c.in_ok-handle.ensures.passes mid)
    (envelope_with_input _ _ row work keys _ mid behind new (drop (envelope_room work) c.in_ok-input.input.items) _ c.in_ok-handle.ensures.table (c.in_ok-manager.ensures.passes mid) (rw (c.envelope_limit.ensures.limit, c.envelope_room.ensures.room) at (c.in_ok-input.ensures.passes mid))
    (rw c.in-Seal.is (c.seal_envelope.ensures behind keys c.in_ok-handle.ensures.over)))

pub returns-in-Open : goal.returns-in-Open
returns-in-Open g c = λ w.
    let first = record w { source = g.S.Source.state c.args.source.now; entropy = g.E.Entropy.state c.args.entropy.now } in
    let old = record first { store = g.D.Store.state c.args.store.now } in
    let mid = record first { store = g.D.Store.state c.load_locked.new.store } in
    let behind = record mid { source = g.S.Source.state c.read_input_behind.new.source } in
    let row = seen c.in_ok-template.template in
    let keys = c.in_ok-keyset.keyset in
    let work = seen_envelope c.args.work in
    envelope_with_handle _ (seen_lock c.args.lock) c.args.name.now c.args.form c.args.template.now work old mid behind row keys _ (c.in_ok-template.ensures.passes old) (c.in_ok-keyset.ensures.passes first) (c.in_ok-handle.ensures.passes mid)
    (envelope_with_input _ _ row work keys _ mid behind behind (drop (envelope_room work) c.in_ok-input.input.items) _ c.in_ok-handle.ensures.table (c.in_ok-manager.ensures.passes mid) (rw (c.envelope_limit.ensures.limit, c.envelope_room.ensures.room) at (c.in_ok-input.ensures.passes mid))
    (rw c.in-Open.is (c.open_envelope.ensures behind keys row c.in_ok-handle.ensures.over (rw c.deref.ensures.value at c.envelope_sealer_of.ensures))))

pub sealer_behind_room-requires : goal.sealer_behind_room-requires
sealer_behind_room-requires g c = record { room = rw c.deref-in-Reseal.ensures.value (rw (c.envelope_room.ensures.room, c.in-Reseal.is) at c.in_ok-input.ensures.room) }

pub returns : goal.returns
returns g c = λ w.
    let first = record w { source = g.S.Source.state c.args.source.now; entropy = g.E.Entropy.state c.args.entropy.now } in
    let old = record first { store = g.D.Store.state c.args.store.now } in
    let mid = record first { store = g.D.Store.state c.load_locked.new.store } in
    let behind = record mid { source = g.S.Source.state c.read_input_behind.new.source } in
    let new = record behind { entropy = g.E.Entropy.state c.reseal_envelope.new.entropy } in
    let row = seen c.in_ok-template.template in
    let keys = c.in_ok-keyset.keyset in
    let work = seen_envelope c.args.work in
    envelope_with_handle _ (seen_lock c.args.lock) c.args.name.now c.args.form c.args.template.now work old mid new row keys _ (c.in_ok-template.ensures.passes old) (c.in_ok-keyset.ensures.passes first) (c.in_ok-handle.ensures.passes mid)
    (envelope_with_input _ _ row work keys _ mid behind new (drop (envelope_room work) c.in_ok-input.input.items) _ c.in_ok-handle.ensures.table (c.in_ok-manager.ensures.passes mid) (rw (c.envelope_limit.ensures.limit, c.envelope_room.ensures.room) at (c.in_ok-input.ensures.passes mid))
    (rw c.in-Reseal.is (c.reseal_envelope.ensures behind keys row c.in_ok-handle.ensures.over (rw c.deref-in-Reseal.ensures.value at c.sealer_behind_room.ensures))))
