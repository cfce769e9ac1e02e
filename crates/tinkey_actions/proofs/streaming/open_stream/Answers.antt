use Rattle.std.proofs.Common.{◌∙◌, refl}
use Rattle.tinkey_actions.proofs.StreamLemmas.{opened_ends}
use Rattle.tinkey_actions.proofs.streaming.open_stream.Goals as goal

pub returns-in-Ok-new-clause-finishes : goal.returns-in-Ok-new-clause-finishes
returns-in-Ok-new-clause-finishes g c = λ w.
    let old = record w { source = g.S.Source.state c.args.source.now; sink = g.K.Sink.state c.args.sink.now } in
    let new = record w { source = g.S.Source.state c.pump.new.source; sink = g.K.Sink.state c.pump.new.sink } in
    opened_ends c.args.keys.now _ c.as_slice.result.now _ _ old new c.requires.sound (c.as_slice.ensures ∙ c.in-Ok.ensures.bytes) c.opened.ensures.told (record { store = refl; entropy = refl }) (rw c.in-Ok-new.ensures at c.pump.ensures.pumps) c.pump.ensures.shown
