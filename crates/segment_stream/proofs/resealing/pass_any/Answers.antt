use Rattle.std.proofs.Common.{◌≡◌, ◌+◌, ◌-◌, ◌<◌, ◌≤◌, List, ℕ, [], take, drop, length, refl, sym, ◌∙◌, ap, subst, arith}
use Rattle.std.specs.Prelude.{Bool, true, false, Ok, Err}
use Rattle.std.proofs.lemmas.List.{length-map, length-take-le, with_items_is}
use Rattle.std.specs.Vec.{vec_capacity}
use Rattle.tink_spec.specs.Outside.{SinkState}
use Rattle.segment_stream.specs.Opening.{chosen, choose}
use Rattle.segment_stream.specs.Under.{Standing}
use Rattle.segment_stream.specs.Pumping.{ShowsFaults, opening_any}
use Rattle.segment_stream.specs.Pushing.{Passes, SealingState, halt_fault, told, went}
use Rattle.segment_stream.specs.declared.fault.OpenPumpFault.{OpenPumpFault}
use Rattle.segment_stream.specs.Reading.{Decided}
use Rattle.segment_stream.specs.declared.fault.OpenPumpFault.TheVariants as fault
use Rattle.segment_stream.specs.Segments.{IsSound, cipher_of, ciphers_of}
use Rattle.segment_stream.proofs.CipherLemmas.{cipher_of-is_cipher}
use Rattle.segment_stream.proofs.First.{all_at, decided_is, drop_cipher}
use Rattle.segment_stream.proofs.Trials.{Trying, shows_after, trying_reads, trying_passes, trying_chooses, pumps_none, pumps_unread, pumps_first, chosen_now, first_stands}
use Rattle.segment_stream.proofs.PassingLemmas.{passes_chosen, passes_stopped, shows_halted, told_took, untouched}
use Rattle.tink_spec.proofs.Moves.{goes_on_stops}
use Rattle.segment_stream.proofs.ReadsOn.{after_deciding, rest_stops}
use Rattle.segment_stream.proofs.resealing.pass_any.Goals as goal

pub returns-in-Err-clause-passes : goal.returns-in-Err-clause-passes
returns-in-Err-clause-passes g c =
    let cs = ciphers_of c.args.ad.now c.args.keys.now in
    let here = drop_cipher (cipher_of c.args.ad.now) c.args.keys.now c.loop-key.key-index c.key-item.result c.loop-key-test.true c.key-item.is in
    untouched (opening_any cs) (Err fault.ReadFault) _ _ _ _ _ _ c.loop-key.invariant.unsealed c.loop-key.invariant.still
    (pumps_unread cs c.loop-key.key-index (cipher_of c.args.ad.now c.key-item.result) _ _ _ _ _ (told []) c.loop-key.invariant.trying here c.in-Err.ensures.failed)

pub returns-in-Unsealed-clause-passes : goal.returns-in-Unsealed-clause-passes
returns-in-Unsealed-clause-passes g c =
    let cs = ciphers_of c.args.ad.now c.args.keys.now in
    let key = cipher_of c.args.ad.now c.key-item.result in
    let taken = take c.in-Ok.decided.0 c.as_mut_slice-bytes.result.now in
    let decides = subst (λ (l : List ℕ). Decided (g.S.Source.state c.loop-key.source) (g.S.Source.state c.decide.new.source) (take c.loop-key.len c.loop-key.buffer.bytes.items) (take c.in-Ok.decided.0 l) c.loop-key.ended c.in-Ok.decided.1 c.key-item.result.segment) (sym c.as_mut_slice-bytes.ensures.value) c.in-Ok.ensures.decides in
    let here = drop_cipher (cipher_of c.args.ad.now) c.args.keys.now c.loop-key.key-index c.key-item.result c.loop-key-test.true c.key-item.is in
    let t = trying_reads _ _ _ _ _ _ _ _ _ _ c.loop-key.invariant.trying decides in
    let d = decided_is key c.key-item.result.segment taken c.in-Ok.decided.1 refl decides.decided in
    let sound = all_at IsSound c.args.keys.now c.loop-key.key-index c.key-item.result c.requires.sound c.loop-key-test.true c.key-item.is in
    let h = c.in-Unsealed.ensures.ends in
    let choice = trying_chooses cs c.loop-key.key-index key _ _ taken h.0 c.in-Ok.decided.1 t here (cipher_of-is_cipher c.args.ad.now c.key-item.result sound) d h.1 in
    subst (λ (f : OpenPumpFault). Passes (opening_any cs) [] [] false (Err f) (g.S.Source.state c.args.source.now) (g.S.Source.state c.decide.new.source) c.args.sealing.now c.pass_first.new.sealing (g.K.Sink.state c.args.sink.now) (g.K.Sink.state c.pass_first.new.sink)) (sym c.halted.ensures)
    (subst (λ (s : SealingState). Passes (opening_any cs) [] [] false (Err (halt_fault c.in-Unsealed.fault)) (g.S.Source.state c.args.source.now) (g.S.Source.state c.decide.new.source) s c.pass_first.new.sealing (g.K.Sink.state c.args.sink.now) (g.K.Sink.state c.pass_first.new.sink)) (sym c.loop-key.invariant.unsealed)
    (subst (λ (s : SinkState). Passes (opening_any cs) [] [] false (Err (halt_fault c.in-Unsealed.fault)) (g.S.Source.state c.args.source.now) (g.S.Source.state c.decide.new.source) c.loop-key.sealing c.pass_first.new.sealing s (g.K.Sink.state c.pass_first.new.sink)) (sym c.loop-key.invariant.still)
    (passes_stopped cs key _ _ _ _ _ _ taken h.0 c.in-Ok.decided.1 c.in-Unsealed.fault (chosen_now cs key taken c.in-Ok.decided.1 choice) (cipher_of-is_cipher c.args.ad.now c.key-item.result sound) t.gave t.end d h.1 h.2)))

pub returns-in-Unsealed-clause-shown : goal.returns-in-Unsealed-clause-shown
returns-in-Unsealed-clause-shown g c =
    let h = c.in-Unsealed.ensures.ends in
    subst (λ (f : OpenPumpFault). ShowsFaults (Err f) (g.S.Source.state c.args.source.now) (g.S.Source.state c.decide.new.source) (g.K.Sink.state c.args.sink.now) (g.K.Sink.state c.pass_first.new.sink)) (sym c.halted.ensures)
    (shows_after (Err (halt_fault c.in-Unsealed.fault)) (g.S.Source.state c.args.source.now) (g.S.Source.state c.decide.new.source) (g.S.Source.state c.decide.new.source) (g.K.Sink.state c.args.sink.now) (g.K.Sink.state c.loop-key.sink) (g.K.Sink.state c.pass_first.new.sink) (c.in-Ok.ensures.no_fault ∙ c.loop-key.invariant.read) (ap (λ (s : SinkState). s.faults) (sym c.loop-key.invariant.still))
    (shows_halted c.in-Unsealed.fault c.loop-key.sealing h.0 (g.S.Source.state c.decide.new.source) (g.S.Source.state c.decide.new.source) (g.K.Sink.state c.loop-key.sink) (g.K.Sink.state c.pass_first.new.sink) h.2 refl))

pub returns-then-len-size-clause-passes : goal.returns-then-len-size-clause-passes
returns-then-len-size-clause-passes g c =
    let cs = ciphers_of c.args.ad.now c.args.keys.now in
    let key = cipher_of c.args.ad.now c.key-item.result in
    let taken = take c.in-Ok.decided.0 c.as_mut_slice-bytes.result.now in
    let decides = subst (λ (l : List ℕ). Decided (g.S.Source.state c.loop-key.source) (g.S.Source.state c.decide.new.source) (take c.loop-key.len c.loop-key.buffer.bytes.items) (take c.in-Ok.decided.0 l) c.loop-key.ended c.in-Ok.decided.1 c.key-item.result.segment) (sym c.as_mut_slice-bytes.ensures.value) c.in-Ok.ensures.decides in
    let here = drop_cipher (cipher_of c.args.ad.now) c.args.keys.now c.loop-key.key-index c.key-item.result c.loop-key-test.true c.key-item.is in
    let t = trying_reads _ _ _ _ _ _ _ _ _ _ c.loop-key.invariant.trying decides in
    let d = decided_is key c.key-item.result.segment taken c.in-Ok.decided.1 refl decides.decided in
    let sound = all_at IsSound c.args.keys.now c.loop-key.key-index c.key-item.result c.requires.sound c.loop-key-test.true c.key-item.is in
    let h = c.in-Sealed.ensures.ends in
    let choice = trying_chooses cs c.loop-key.key-index key _ _ taken h.0 c.in-Ok.decided.1 t here (cipher_of-is_cipher c.args.ad.now c.key-item.result sound) d h.1 in
    let ended : c.in-Ok.decided.1 ≡ true = c.in-Ok.ensures.short c.if-len-size.true in
    let now : choose cs taken true ≡ chosen key = ap (λ (b : Bool). choose cs taken b) (sym ended) ∙ chosen_now cs key taken c.in-Ok.decided.1 choice in
    subst (λ (s : SealingState). Passes (opening_any cs) [] [] false (Ok tt) (g.S.Source.state c.args.source.now) (g.S.Source.state c.decide.new.source) s c.pass_first.new.sealing (g.K.Sink.state c.args.sink.now) (g.K.Sink.state c.pass_first.new.sink)) (sym c.loop-key.invariant.unsealed)
    (subst (λ (s : SinkState). Passes (opening_any cs) [] [] false (Ok tt) (g.S.Source.state c.args.source.now) (g.S.Source.state c.decide.new.source) c.loop-key.sealing c.pass_first.new.sealing s (g.K.Sink.state c.pass_first.new.sink)) (sym c.loop-key.invariant.still)
    (went h.0 (pumps_first cs key _ _ (told []) (told h.0) taken h.0 now (cipher_of-is_cipher c.args.ad.now c.key-item.result sound) t.gave (t.end ended) (omega (arith, length-take-le c.in-Ok.decided.0 c.as_mut_slice-bytes.result.now (omega (arith, c.in-Ok.ensures.bound, c.as_mut_slice-bytes.ensures.len)), c.if-len-size.true)) h.1 (told_took [] h.0)) h.2))

pub returns-in-Sealed-clause-passes : goal.returns-in-Sealed-clause-passes
returns-in-Sealed-clause-passes g c =
    let cs = ciphers_of c.args.ad.now c.args.keys.now in
    let key = cipher_of c.args.ad.now c.key-item.result in
    let taken = take c.in-Ok.decided.0 c.as_mut_slice-bytes.result.now in
    let decides = subst (λ (l : List ℕ). Decided (g.S.Source.state c.loop-key.source) (g.S.Source.state c.decide.new.source) (take c.loop-key.len c.loop-key.buffer.bytes.items) (take c.in-Ok.decided.0 l) c.loop-key.ended c.in-Ok.decided.1 c.key-item.result.segment) (sym c.as_mut_slice-bytes.ensures.value) c.in-Ok.ensures.decides in
    let here = drop_cipher (cipher_of c.args.ad.now) c.args.keys.now c.loop-key.key-index c.key-item.result c.loop-key-test.true c.key-item.is in
    let t = trying_reads _ _ _ _ _ _ _ _ _ _ c.loop-key.invariant.trying decides in
    let d = decided_is key c.key-item.result.segment taken c.in-Ok.decided.1 refl decides.decided in
    let sound = all_at IsSound c.args.keys.now c.loop-key.key-index c.key-item.result c.requires.sound c.loop-key-test.true c.key-item.is in
    let h = c.in-Sealed.ensures.ends in
    let choice = trying_chooses cs c.loop-key.key-index key _ _ taken h.0 c.in-Ok.decided.1 t here (cipher_of-is_cipher c.args.ad.now c.key-item.result sound) d h.1 in
    let full : key.size < length taken = omega (arith, length-take-le c.in-Ok.decided.0 c.as_mut_slice-bytes.result.now (omega (arith, c.in-Ok.ensures.bound, c.as_mut_slice-bytes.ensures.len)), c.if-len-size.false) in
    let s = first_stands key taken h.0 (cipher_of-is_cipher c.args.ad.now c.key-item.result sound) full h.1 in
    let rest : drop key.size taken ≡ take (c.in-Ok.decided.0 - c.key-item.result.segment) c.turn.new.buffer = sym c.in-Sealed.ensures.rest ∙ sym c.turn.ensures in
    let stands = subst (λ (l : List ℕ). Standing key (take key.header taken) taken 1 l h.0) rest s in
    subst (λ (s : SealingState). Passes (opening_any cs) [] [] false c.pass_rest.result (g.S.Source.state c.args.source.now) (g.S.Source.state c.pass_rest.new.source) s c.pass_rest.new.sealing (g.K.Sink.state c.args.sink.now) (g.K.Sink.state c.pass_rest.new.sink)) (sym c.loop-key.invariant.unsealed)
    (subst (λ (s : SinkState). Passes (opening_any cs) [] [] false c.pass_rest.result (g.S.Source.state c.args.source.now) (g.S.Source.state c.pass_rest.new.source) c.loop-key.sealing c.pass_rest.new.sealing s (g.K.Sink.state c.pass_rest.new.sink)) (sym c.loop-key.invariant.still)
    (passes_chosen cs key taken h.0 c.in-Ok.decided.1 _ _ _ _ _ _ _ _ _ _ choice t.gave h.2 h.3 (c.pass_rest.ensures.passes key (take key.header taken) taken h.0 h.4 stands)))

pub loop-key-preserved : goal.loop-key-preserved
loop-key-preserved g c =
    let cs = ciphers_of c.args.ad.now c.args.keys.now in
    let key = cipher_of c.args.ad.now c.key-item.result in
    let taken = take c.in-Ok.decided.0 c.as_mut_slice-bytes.result.now in
    let decides = subst (λ (l : List ℕ). Decided (g.S.Source.state c.loop-key.source) (g.S.Source.state c.decide.new.source) (take c.loop-key.len c.loop-key.buffer.bytes.items) (take c.in-Ok.decided.0 l) c.loop-key.ended c.in-Ok.decided.1 c.key-item.result.segment) (sym c.as_mut_slice-bytes.ensures.value) c.in-Ok.ensures.decides in
    let here = drop_cipher (cipher_of c.args.ad.now) c.args.keys.now c.loop-key.key-index c.key-item.result c.loop-key-test.true c.key-item.is in
    let t = trying_reads _ _ _ _ _ _ _ _ _ _ c.loop-key.invariant.trying decides in
    let d = decided_is key c.key-item.result.segment taken c.in-Ok.decided.1 refl decides.decided in
    let sound = all_at IsSound c.args.keys.now c.loop-key.key-index c.key-item.result c.requires.sound c.loop-key-test.true c.key-item.is in
    let h = c.in-Refused.ensures.ends in
    let kept = with_items_is c.decide.new.buffer.bytes c.pass_first.new.buffer (c.pass_first.auto.buffer ∙ c.as_mut_slice-bytes.ensures.len) ∙ c.in-Refused.ensures.kept refl in
    record {
      in_place = record {
        block = c.decide.ensures.in_place.block ∙ c.loop-key.invariant.in_place.block;
        capacity = c.decide.ensures.in_place.capacity ∙ c.loop-key.invariant.in_place.capacity;
      };
      len = c.in-Ok.ensures.bound;
      unsealed = c.loop-key.invariant.unsealed ∙ h.1;
      still = c.loop-key.invariant.still ∙ h.2;
      reads_on = after_deciding _ _ _ _ _ c.loop-key.invariant.reads_on (λ e. (c.in-Ok.ensures.decides.follows e).1) c.in-Ok.ensures.still c.in-Ok.ensures.reads_on;
      read = c.in-Ok.ensures.no_fault ∙ c.loop-key.invariant.read;
      trying = subst (λ (l : List ℕ). Trying cs (c.loop-key.key-index + 1) (g.S.Source.state c.args.source.now) (g.S.Source.state c.decide.new.source) (take c.in-Ok.decided.0 l) c.in-Ok.decided.1) (sym kept)
          (trying_passes cs c.loop-key.key-index key _ _ taken c.in-Ok.decided.1 t here (cipher_of-is_cipher c.args.ad.now c.key-item.result sound) d h.0);
    }

pub returns-clause-passes : goal.returns-clause-passes
returns-clause-passes g c =
    let cs = ciphers_of c.args.ad.now c.args.keys.now in
    untouched (opening_any cs) (Err (fault.StreamFailed 0)) _ _ _ _ _ _ c.loop-key.invariant.unsealed c.loop-key.invariant.still
    (pumps_none cs c.loop-key.key-index _ _ _ _ (told []) (omega (arith, length-map c.args.keys.now (cipher_of c.args.ad.now), c.loop-key-test.false)) c.loop-key.invariant.trying)

pub decide-requires-clause-fits : goal.decide-requires-clause-fits
decide-requires-clause-fits g c =
    omega (
      arith,
      all_at (λ key. key.segment + 1 ≤ vec_capacity c.args.buffer.now.bytes) c.args.keys.now c.loop-key.key-index
          c.key-item.result c.requires.fits c.loop-key-test.true c.key-item.is,
      c.loop-key.invariant.in_place.capacity,
    )

pub pass_first-requires-clause-sound : goal.pass_first-requires-clause-sound
pass_first-requires-clause-sound g c =
    all_at IsSound c.args.keys.now c.loop-key.key-index c.key-item.result c.requires.sound
    c.loop-key-test.true c.key-item.is

pub returns-in-Sealed-clause-shown : goal.returns-in-Sealed-clause-shown
returns-in-Sealed-clause-shown g c =
    shows_after c.pass_rest.result _ _ _ _ _ _ (c.in-Ok.ensures.no_fault ∙ c.loop-key.invariant.read)
    (c.in-Sealed.ensures.ends.3 ∙ ap (λ (s : SinkState). s.faults) (sym c.loop-key.invariant.still))
    c.pass_rest.ensures.shown

pub returns-in-Err-clause-stops : goal.returns-in-Err-clause-stops
returns-in-Err-clause-stops g c =
    goes_on_stops (g.S.Source.state c.args.source.now) (g.S.Source.state c.loop-key.source) (g.S.Source.state c.decide.new.source) (c.loop-key.invariant.reads_on.goes_on c.in-Err.ensures.failed.open_end) c.in-Err.ensures.stops

pub returns-in-Unsealed-clause-stops : goal.returns-in-Unsealed-clause-stops
returns-in-Unsealed-clause-stops g c =
    (after_deciding _ _ _ _ _ c.loop-key.invariant.reads_on (λ e. (c.in-Ok.ensures.decides.follows e).1) c.in-Ok.ensures.still c.in-Ok.ensures.reads_on).stops

pub returns-then-len-size-clause-stops : goal.returns-then-len-size-clause-stops
returns-then-len-size-clause-stops g c =
    (after_deciding _ _ _ _ _ c.loop-key.invariant.reads_on (λ e. (c.in-Ok.ensures.decides.follows e).1) c.in-Ok.ensures.still c.in-Ok.ensures.reads_on).stops

pub returns-in-Sealed-clause-stops : goal.returns-in-Sealed-clause-stops
returns-in-Sealed-clause-stops g c =
    rest_stops c.in-Ok.decided.1 _ _ _
    (after_deciding _ _ _ _ _ c.loop-key.invariant.reads_on (λ e. (c.in-Ok.ensures.decides.follows e).1) c.in-Ok.ensures.still c.in-Ok.ensures.reads_on)
    c.pass_rest.ensures.still c.pass_rest.ensures.stops
