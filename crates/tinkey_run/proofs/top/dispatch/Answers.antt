use Rattle.std.proofs.Common.{◌∙◌}
use Rattle.segment_stream.specs.KeysModel.{KeysForStreams}
use Rattle.tinkey_plans.specs.Commands.{list_keyset_output}
use Rattle.tinkey_plans.specs.Ends.{world}
use Rattle.tinkey_plans.specs.Envelopes.{envelope_output}
use Rattle.tinkey_plans.specs.KeyOf.{key_of_output}
use Rattle.tinkey_plans.specs.Ranging.{range_output}
use Rattle.tinkey_plans.specs.SelfTesting.{self_test_output}
use Rattle.tinkey_plans.specs.Streaming.{begins_file, loads_stream_keys, passes_stream}
use Rattle.tinkey_plans.specs.Using.{shows, use_output}
use Rattle.tinkey_words.specs.Words.{seen_datum, seen_envelope, seen_lock, seen_name, seen_place, seen_range, seen_work}
use Rattle.tinkey_actions.proofs.LockLemmas.{finished_there, finishes_then}
use Rattle.tinkey_run.proofs.top.dispatch.Goals as goal

pub returns-in-CreateKeyset : goal.returns-in-CreateKeyset
returns-in-CreateKeyset g c =
    let w = world (g.S.Source.state c.args.source.now) (g.K.Sink.state c.args.sink.now) (g.D.Store.state c.args.store.now) (g.E.Entropy.state c.args.entropy.now) in
    rw c.in-CreateKeyset.is (c.create_keyset.ensures w)

pub returns-in-EditKeyset : goal.returns-in-EditKeyset
returns-in-EditKeyset g c = rw c.in-EditKeyset.is c.edit_keyset.ensures

pub returns-in-ListKeyset : goal.returns-in-ListKeyset
returns-in-ListKeyset g c =
    let w = world (g.S.Source.state c.args.source.now) (g.K.Sink.state c.args.sink.now) (g.D.Store.state c.args.store.now) (g.E.Entropy.state c.args.entropy.now) in
    rw c.in-ListKeyset.is (c.finish_output.ensures (list_keyset_output _ (seen_lock c.in-ListKeyset.lock) (seen_place c.in-ListKeyset.input)) w (record w { source = g.S.Source.state c.list_keyset-listing.new.source; store = g.D.Store.state c.list_keyset-listing.new.store }) (c.list_keyset-listing.ensures w))

pub returns-in-KeyOf : goal.returns-in-KeyOf
returns-in-KeyOf g c =
    let w = world (g.S.Source.state c.args.source.now) (g.K.Sink.state c.args.sink.now) (g.D.Store.state c.args.store.now) (g.E.Entropy.state c.args.entropy.now) in
    let x = c.in-KeyOf in
    rw x.is (c.finish_output-in-KeyOf.ensures (key_of_output _ (seen_lock x.lock) x.keyset.now x.form x.kind (seen_datum x.ad)) w (record w { source = g.S.Source.state c.tell_keys-told.new.source; store = g.D.Store.state c.tell_keys-told.new.store }) (c.tell_keys-told.ensures w))

pub returns-in-ConvertKeyset : goal.returns-in-ConvertKeyset
returns-in-ConvertKeyset g c = rw c.in-ConvertKeyset.is c.convert_keyset.ensures

pub returns-in-ListKeyTemplates : goal.returns-in-ListKeyTemplates
returns-in-ListKeyTemplates g c =
    let w = world (g.S.Source.state c.args.source.now) (g.K.Sink.state c.args.sink.now) (g.D.Store.state c.args.store.now) (g.E.Entropy.state c.args.entropy.now) in
    rw c.in-ListKeyTemplates.is (c.list_templates.ensures w)

pub returns-in-UseKeyset : goal.returns-in-UseKeyset
returns-in-UseKeyset g c =
    let w = world (g.S.Source.state c.args.source.now) (g.K.Sink.state c.args.sink.now) (g.D.Store.state c.args.store.now) (g.E.Entropy.state c.args.entropy.now) in
    let new = record w { source = g.S.Source.state c.use_keyset-done.new.source; entropy = g.E.Entropy.state c.use_keyset-done.new.entropy; store = g.D.Store.state c.use_keyset-done.new.store } in
    let x = c.in-UseKeyset in
    let step = use_output _ (seen_lock x.lock) x.keyset.now x.form (seen_work x.work) in
    rw x.is (c.finish_output-in-UseKeyset.ensures (λ next. step (λ bytes. shows x.output.hex bytes next)) w new (c.shown-done.ensures step w new (c.use_keyset-done.ensures w)))

pub returns-in-UseEnvelope : goal.returns-in-UseEnvelope
returns-in-UseEnvelope g c =
    let w = world (g.S.Source.state c.args.source.now) (g.K.Sink.state c.args.sink.now) (g.D.Store.state c.args.store.now) (g.E.Entropy.state c.args.entropy.now) in
    let x = c.in-UseEnvelope in
    let new = record w { source = g.S.Source.state c.use_envelope-done.new.source; entropy = g.E.Entropy.state c.use_envelope-done.new.entropy; store = g.D.Store.state c.use_envelope-done.new.store } in
    rw x.is (c.finish_output-in-UseEnvelope.ensures (envelope_output _ (seen_lock x.lock) x.keyset.now x.form x.template.now (seen_envelope x.work)) w new (c.use_envelope-done.ensures w))

pub returns-in_err-keys-in-UseStream : goal.returns-in_err-keys-in-UseStream
returns-in_err-keys-in-UseStream g c =
    let w = world (g.S.Source.state c.args.source.now) (g.K.Sink.state c.args.sink.now) (g.D.Store.state c.args.store.now) (g.E.Entropy.state c.args.entropy.now) in
    let x = c.in-UseStream in
    let out = seen_name x.output in
    rw x.is (finished_there {A = KeysForStreams} (loads_stream_keys _ (seen_lock x.lock) x.keyset.now x.form) (λ keys. begins_file out (passes_stream x.work keys (seen_datum x.ad) out)) w (record w { store = g.D.Store.state c.load_stream_keys.new.store }) _ _ c.from_residual.ensures.1 (c.in_err-keys-in-UseStream.ensures.passes w))

pub returns-in_ok-keys-in-UseStream : goal.returns-in_ok-keys-in-UseStream
returns-in_ok-keys-in-UseStream g c =
    let w = world (g.S.Source.state c.args.source.now) (g.K.Sink.state c.args.sink.now) (g.D.Store.state c.args.store.now) (g.E.Entropy.state c.args.entropy.now) in
    let x = c.in-UseStream in
    let out = seen_name x.output in
    let put = c.put_stream in
    let mid = record w { store = g.D.Store.state c.load_stream_keys.new.store } in
    let new = world (g.S.Source.state put.new.source) (g.K.Sink.state put.new.sink) (g.D.Store.state put.new.store) (g.E.Entropy.state put.new.entropy) in
    rw x.is (finishes_then {A = KeysForStreams} (loads_stream_keys _ (seen_lock x.lock) x.keyset.now x.form) (λ keys. begins_file out (passes_stream x.work keys (seen_datum x.ad) out)) w mid new c.in_ok-keys-in-UseStream.keys put.result (c.in_ok-keys-in-UseStream.ensures.passes w) put.ensures)

pub returns-in-OpenRange : goal.returns-in-OpenRange
returns-in-OpenRange g c =
    let w = world (g.S.Source.state c.args.source.now) (g.K.Sink.state c.args.sink.now) (g.D.Store.state c.args.store.now) (g.E.Entropy.state c.args.entropy.now) in
    let x = c.in-OpenRange in
    rw x.is (c.finish_output-in-OpenRange.ensures (range_output _ (seen_lock x.lock) x.keyset.now x.form (seen_datum x.ad) (seen_range x.range)) w (record w { store = g.D.Store.state c.open_file_range-opened.new.store }) (c.open_file_range-opened.ensures w))

pub returns-in-Session : goal.returns-in-Session
returns-in-Session g c = rw c.in-Session.is c.answer_lines.ensures

pub returns-in-SelfTest : goal.returns-in-SelfTest
returns-in-SelfTest g c =
    let w = world (g.S.Source.state c.args.source.now) (g.K.Sink.state c.args.sink.now) (g.D.Store.state c.args.store.now) (g.E.Entropy.state c.args.entropy.now) in
    rw c.in-SelfTest.is (c.finish_output-in-SelfTest.ensures (self_test_output _ c.in-SelfTest.seed c.in-SelfTest.lines) w w (c.tell_self_test-told.ensures w))

pub returns-in-Help : goal.returns-in-Help
returns-in-Help g c =
    let w = world (g.S.Source.state c.args.source.now) (g.K.Sink.state c.args.sink.now) (g.D.Store.state c.args.store.now) (g.E.Entropy.state c.args.entropy.now) in
    rw c.in-Help.is (rw (c.as_bytes.ensures.value ∙ c.help_text.ensures) at (c.write_output.ensures w))

pub returns-in-Version : goal.returns-in-Version
returns-in-Version g c =
    let w = world (g.S.Source.state c.args.source.now) (g.K.Sink.state c.args.sink.now) (g.D.Store.state c.args.store.now) (g.E.Entropy.state c.args.entropy.now) in
    rw c.in-Version.is (rw (c.as_bytes-in-Version.ensures.value ∙ c.version_text.ensures) at (c.write_output-in-Version.ensures w))
