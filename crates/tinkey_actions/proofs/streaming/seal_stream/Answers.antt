use Rattle.std.proofs.Common.{◌∙◌, refl}
use Rattle.tinkey_actions.proofs.StreamLemmas.{sealed_ends, unsealed_ends}
use Rattle.tinkey_actions.proofs.streaming.seal_stream.Goals as goal

pub returns-in-Ok-new-clause-finishes : goal.returns-in-Ok-new-clause-finishes
returns-in-Ok-new-clause-finishes g c = λ w.
    let old = record w { source = g.S.Source.state c.args.source.now; sink = g.K.Sink.state c.args.sink.now; entropy = g.E.Entropy.state c.args.entropy.now } in
    let entropy = g.E.Entropy.state c.new.new.entropy in
    let new = record old { source = g.S.Source.state c.pump.new.source; sink = g.K.Sink.state c.pump.new.sink; entropy = entropy } in
    let made = rw (c.as_slice.ensures ∙ c.in-Ok.ensures.bytes) at c.in-Ok-new.ensures.made in
    sealed_ends c.args.keys.now _ c.in-Ok-new.sealer _ _ old entropy new c.requires.sound made c.in-Ok-new.ensures.no_fault c.sealed.ensures.told (record { store = refl; entropy = refl }) (c.pump.ensures.pumps _ made.under) c.pump.ensures.shown

pub returns-in-Err-EntropyFault-clause-finishes : goal.returns-in-Err-EntropyFault-clause-finishes
returns-in-Err-EntropyFault-clause-finishes g c = λ w.
    unsealed_ends c.args.keys.now _ (record w { source = g.S.Source.state c.args.source.now; sink = g.K.Sink.state c.args.sink.now; entropy = g.E.Entropy.state c.args.entropy.now }) (g.E.Entropy.state c.new.new.entropy)
    (rw c.in-Err-EntropyFault.field-0-is at c.in-Err-EntropyFault.ensures.fault)
