use Rattle.std.proofs.Common.{◌≡◌, List, ℕ, [], ◌∙◌, refl, subst}
use Rattle.std.specs.Prelude.{false}
use Rattle.segment_stream.specs.PumpModels.{OpenerState}
use Rattle.segment_stream.specs.Pumping.{Pumps, resealing}
use Rattle.segment_stream.specs.Segments.{cipher_of, ciphers_of}
use Rattle.tinkey_words.specs.Words.{seen_datum}
use Rattle.tinkey_actions.proofs.StreamLemmas.{resealed_ends}
use Rattle.tinkey_actions.proofs.streaming.reseal_stream.Goals as goal

pub returns-in-Ok-new-2-clause-finishes : goal.returns-in-Ok-new-2-clause-finishes
returns-in-Ok-new-2-clause-finishes g c = λ w.
    let old = record w { source = g.S.Source.state c.args.source.now; sink = g.K.Sink.state c.args.sink.now; entropy = g.E.Entropy.state c.args.entropy.now } in
    let entropy = g.E.Entropy.state c.new-2.new.entropy in
    let new = record old { source = g.S.Source.state c.reseal.new.source; sink = g.K.Sink.state c.reseal.new.sink; entropy = entropy } in
    let keys = c.args.keys.now in
    let cipher = cipher_of (seen_datum c.args.ad) keys.primary in
    let same : c.as_slice-bytes.result.now ≡ seen_datum c.args.ad = c.as_slice-bytes.ensures ∙ c.in-Ok.ensures.bytes in
    let made = rw same at c.in-Ok-new-2.ensures.made in
    let run = subst (λ (a : List ℕ). Pumps (resealing (ciphers_of a keys.keys) cipher c.in-Ok-new-2.sealer.header) [] [] false c.reseal.result old.source new.source old.sink new.sink) same
    (subst (λ (o : OpenerState). Pumps (resealing (ciphers_of o.ad o.keys.keys) cipher c.in-Ok-new-2.sealer.header) [] [] false c.reseal.result old.source new.source old.sink new.sink) c.in-Ok-new.ensures
    (c.reseal.ensures.pumps cipher made.under)) in
    resealed_ends keys (seen_datum c.args.ad) c.in-Ok-new-2.sealer c.reseal.result _ old entropy new c.requires.sound made c.in-Ok-new-2.ensures.no_fault c.opened.ensures.told (record { store = refl; entropy = refl }) run c.reseal.ensures.shown
