use Rattle.tinkey_plans.specs.KeyOf.{tells_front}
use Rattle.tinkey_words.specs.Words.{seen_datum}
use Rattle.tinkey_actions.proofs.StreamKeyLemmas.{given_pass}
use Rattle.tinkey_actions.proofs.StreamLemmas.{unfit_ends}
use Rattle.tinkey_actions.proofs.stream_key.tell_stream.Goals as goal

pub returns-in-Ok : goal.returns-in-Ok
returns-in-Ok g c = λ w.
    let old = record w { source = g.S.Source.state c.args.source.now } in
    let new = record w { source = g.S.Source.state c.tell_front.new.source } in
    given_pass c.args.keyset.now c.in-Ok.keys (tells_front (seen_datum c.args.ad) c.args.keyset.now) c.tell_front.result old new c.in-Ok.ensures.fit c.in-Ok.ensures.keys (c.tell_front.ensures w)

pub returns-in-Err : goal.returns-in-Err
returns-in-Err g c = λ w next.
    let old = record w { source = g.S.Source.state c.args.source.now } in
    rw c.stream_keys_status.ensures (unfit_ends c.args.keyset.now _ old c.in-Err.ensures.fault (tells_front (seen_datum c.args.ad) c.args.keyset.now next))
