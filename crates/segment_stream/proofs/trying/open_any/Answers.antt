use Rattle.std.proofs.Common.{◌≡◌, ◌+◌, ◌-◌, ◌<◌, ◌≤◌, List, ℕ, [], take, drop, length, refl, sym, ◌∙◌, ap, subst, arith}
use Rattle.std.specs.Prelude.{Bool, true, false, Ok, Err}
use Rattle.std.proofs.lemmas.List.{length-map, length-take-le, with_items_is}
use Rattle.std.specs.Vec.{vec_capacity}
use Rattle.tink_spec.specs.Outside.{SinkState}
use Rattle.segment_stream.specs.Opening.{chosen, choose}
use Rattle.segment_stream.specs.Under.{Standing}
use Rattle.segment_stream.specs.Pumping.{Pumps, opening_any}
use Rattle.segment_stream.specs.Reading.{Decided}
use Rattle.segment_stream.specs.declared.fault.OpenPumpFault.TheVariants as fault
use Rattle.segment_stream.specs.Segments.{IsSound, cipher_of, ciphers_of}
use Rattle.segment_stream.proofs.CipherLemmas.{cipher_of-is_cipher}
use Rattle.segment_stream.proofs.First.{all_at, decided_is, drop_cipher}
use Rattle.segment_stream.proofs.Trials.{Trying, shows_after, trying_reads, trying_passes, trying_chooses, pumps_chosen, pumps_none, pumps_unread, pumps_first, pumps_unwritten, chosen_now, first_stands}
use Rattle.tink_spec.proofs.Moves.{goes_on_stops}
use Rattle.segment_stream.proofs.ReadsOn.{after_deciding, rest_stops}
use Rattle.segment_stream.proofs.trying.open_any.Goals as goal

pub returns-in-Err-clause-pumps : goal.returns-in-Err-clause-pumps
returns-in-Err-clause-pumps g c =
    let cs = ciphers_of c.args.ad.now c.args.keys.now in
    let here = drop_cipher (cipher_of c.args.ad.now) c.args.keys.now c.loop-key.key-index c.key-item.result c.loop-key-test.true c.key-item.is in
    subst (λ (s : SinkState). Pumps (opening_any cs) [] [] false (Err fault.ReadFault) (g.S.Source.state c.args.source.now) (g.S.Source.state c.decide.new.source) s (g.K.Sink.state c.loop-key.sink)) (sym c.loop-key.invariant.still)
    (pumps_unread cs c.loop-key.key-index (cipher_of c.args.ad.now c.key-item.result) _ _ _ _ _ _ c.loop-key.invariant.trying here c.in-Err.ensures.failed)

pub returns-in-Unwritten-clause-pumps : goal.returns-in-Unwritten-clause-pumps
returns-in-Unwritten-clause-pumps g c =
    let cs = ciphers_of c.args.ad.now c.args.keys.now in
    let key = cipher_of c.args.ad.now c.key-item.result in
    let taken = take c.in-Ok.decided.0 c.as_mut_slice-bytes.result.now in
    let decides = subst (λ (l : List ℕ). Decided (g.S.Source.state c.loop-key.source) (g.S.Source.state c.decide.new.source) (take c.loop-key.len c.loop-key.buffer.bytes.items) (take c.in-Ok.decided.0 l) c.loop-key.ended c.in-Ok.decided.1 c.key-item.result.segment) (sym c.as_mut_slice-bytes.ensures.value) c.in-Ok.ensures.decides in
    let here = drop_cipher (cipher_of c.args.ad.now) c.args.keys.now c.loop-key.key-index c.key-item.result c.loop-key-test.true c.key-item.is in
    let t = trying_reads _ _ _ _ _ _ _ _ _ _ c.loop-key.invariant.trying decides in
    let d = decided_is key c.key-item.result.segment taken c.in-Ok.decided.1 refl decides.decided in
    let sound = all_at IsSound c.args.keys.now c.loop-key.key-index c.key-item.result c.requires.sound c.loop-key-test.true c.key-item.is in
    let h = c.in-Unwritten.ensures.ends in
    let choice = trying_chooses cs c.loop-key.key-index key _ _ taken h.0 c.in-Ok.decided.1 t here (cipher_of-is_cipher c.args.ad.now c.key-item.result sound) d h.1 in
    subst (λ (s : SinkState). Pumps (opening_any cs) [] [] false (Err fault.WriteFault) (g.S.Source.state c.args.source.now) (g.S.Source.state c.decide.new.source) s (g.K.Sink.state c.open_first.new.sink)) (sym c.loop-key.invariant.still)
    (pumps_unwritten cs key _ _ _ _ taken h.0 c.in-Ok.decided.1 (chosen_now cs key taken c.in-Ok.decided.1 choice) (cipher_of-is_cipher c.args.ad.now c.key-item.result sound) t.gave t.end d h.1 h.2 h.3)

pub returns-then-len-size-clause-pumps : goal.returns-then-len-size-clause-pumps
returns-then-len-size-clause-pumps g c =
    let cs = ciphers_of c.args.ad.now c.args.keys.now in
    let key = cipher_of c.args.ad.now c.key-item.result in
    let taken = take c.in-Ok.decided.0 c.as_mut_slice-bytes.result.now in
    let decides = subst (λ (l : List ℕ). Decided (g.S.Source.state c.loop-key.source) (g.S.Source.state c.decide.new.source) (take c.loop-key.len c.loop-key.buffer.bytes.items) (take c.in-Ok.decided.0 l) c.loop-key.ended c.in-Ok.decided.1 c.key-item.result.segment) (sym c.as_mut_slice-bytes.ensures.value) c.in-Ok.ensures.decides in
    let here = drop_cipher (cipher_of c.args.ad.now) c.args.keys.now c.loop-key.key-index c.key-item.result c.loop-key-test.true c.key-item.is in
    let t = trying_reads _ _ _ _ _ _ _ _ _ _ c.loop-key.invariant.trying decides in
    let d = decided_is key c.key-item.result.segment taken c.in-Ok.decided.1 refl decides.decided in
    let sound = all_at IsSound c.args.keys.now c.loop-key.key-index c.key-item.result c.requires.sound c.loop-key-test.true c.key-item.is in
    let h = c.in-Written.ensures.ends in
    let choice = trying_chooses cs c.loop-key.key-index key _ _ taken h.0 c.in-Ok.decided.1 t here (cipher_of-is_cipher c.args.ad.now c.key-item.result sound) d h.1 in
    let ended : c.in-Ok.decided.1 ≡ true = c.in-Ok.ensures.short c.if-len-size.true in
    let now : choose cs taken true ≡ chosen key = ap (λ (b : Bool). choose cs taken b) (sym ended) ∙ chosen_now cs key taken c.in-Ok.decided.1 choice in
    subst (λ (s : SinkState). Pumps (opening_any cs) [] [] false (Ok tt) (g.S.Source.state c.args.source.now) (g.S.Source.state c.decide.new.source) s (g.K.Sink.state c.open_first.new.sink)) (sym c.loop-key.invariant.still)
    (pumps_first cs key _ _ _ _ taken h.0 now (cipher_of-is_cipher c.args.ad.now c.key-item.result sound) t.gave (t.end ended) (omega (arith, length-take-le c.in-Ok.decided.0 c.as_mut_slice-bytes.result.now (omega (arith, c.in-Ok.ensures.bound, c.as_mut_slice-bytes.ensures.len)), c.if-len-size.true)) h.1 h.2)

pub returns-in-Written-clause-pumps : goal.returns-in-Written-clause-pumps
returns-in-Written-clause-pumps g c =
    let cs = ciphers_of c.args.ad.now c.args.keys.now in
    let key = cipher_of c.args.ad.now c.key-item.result in
    let taken = take c.in-Ok.decided.0 c.as_mut_slice-bytes.result.now in
    let decides = subst (λ (l : List ℕ). Decided (g.S.Source.state c.loop-key.source) (g.S.Source.state c.decide.new.source) (take c.loop-key.len c.loop-key.buffer.bytes.items) (take c.in-Ok.decided.0 l) c.loop-key.ended c.in-Ok.decided.1 c.key-item.result.segment) (sym c.as_mut_slice-bytes.ensures.value) c.in-Ok.ensures.decides in
    let here = drop_cipher (cipher_of c.args.ad.now) c.args.keys.now c.loop-key.key-index c.key-item.result c.loop-key-test.true c.key-item.is in
    let t = trying_reads _ _ _ _ _ _ _ _ _ _ c.loop-key.invariant.trying decides in
    let d = decided_is key c.key-item.result.segment taken c.in-Ok.decided.1 refl decides.decided in
    let sound = all_at IsSound c.args.keys.now c.loop-key.key-index c.key-item.result c.requires.sound c.loop-key-test.true c.key-item.is in
    let h = c.in-Written.ensures.ends in
    let choice = trying_chooses cs c.loop-key.key-index key _ _ taken h.0 c.in-Ok.decided.1 t here (cipher_of-is_cipher c.args.ad.now c.key-item.result sound) d h.1 in
    let full : key.size < length taken = omega (arith, length-take-le c.in-Ok.decided.0 c.as_mut_slice-bytes.result.now (omega (arith, c.in-Ok.ensures.bound, c.as_mut_slice-bytes.ensures.len)), c.if-len-size.false) in
    let s = first_stands key taken h.0 (cipher_of-is_cipher c.args.ad.now c.key-item.result sound) full h.1 in
    let rest : drop key.size taken ≡ take (c.in-Ok.decided.0 - c.key-item.result.segment) c.turn.new.buffer = sym c.in-Written.ensures.rest ∙ sym c.turn.ensures in
    let stands = subst (λ (l : List ℕ). Standing key (take key.header taken) taken 1 l h.0) rest s in
    subst (λ (s : SinkState). Pumps (opening_any cs) [] [] false c.open_rest.result (g.S.Source.state c.args.source.now) (g.S.Source.state c.open_rest.new.source) s (g.K.Sink.state c.open_rest.new.sink)) (sym c.loop-key.invariant.still)
    (pumps_chosen cs key taken h.0 c.in-Ok.decided.1 _ _ _ _ _ _ _ choice t.gave h.2 (c.open_rest.ensures.pumps key (take key.header taken) taken h.0 h.4 stands))

pub loop-key-preserved : goal.loop-key-preserved
loop-key-preserved g c =
    let cs = ciphers_of c.args.ad.now c.args.keys.now in
    let key = cipher_of c.args.ad.now c.key-item.result in
    let taken = take c.in-Ok.decided.0 c.as_mut_slice-bytes.result.now in
    let decides = subst (λ (l : List ℕ). Decided (g.S.Source.state c.loop-key.source) (g.S.Source.state c.decide.new.source) (take c.loop-key.len c.loop-key.buffer.bytes.items) (take c.in-Ok.decided.0 l) c.loop-key.ended c.in-Ok.decided.1 c.key-item.result.segment) (sym c.as_mut_slice-bytes.ensures.value) c.in-Ok.ensures.decides in
    let here = drop_cipher (cipher_of c.args.ad.now) c.args.keys.now c.loop-key.key-index c.key-item.result c.loop-key-test.true c.key-item.is in
    let t = trying_reads _ _ _ _ _ _ _ _ _ _ c.loop-key.invariant.trying decides in
    let d = decided_is key c.key-item.result.segment taken c.in-Ok.decided.1 refl decides.decided in
    let sound = all_at IsSound c.args.keys.now c.loop-key.key-index c.key-item.result c.requires.sound c.loop-key-test.true c.key-item.is in
    let h = c.in-Refused.ensures.ends in
    let kept = with_items_is c.decide.new.buffer.bytes c.open_first.new.buffer (c.open_first.auto.buffer ∙ c.as_mut_slice-bytes.ensures.len) ∙ c.in-Refused.ensures.kept refl in
    record {
      in_place = record {
        block = c.decide.ensures.in_place.block ∙ c.loop-key.invariant.in_place.block;
        capacity = c.decide.ensures.in_place.capacity ∙ c.loop-key.invariant.in_place.capacity;
      };
      len = c.in-Ok.ensures.bound;
      still = c.loop-key.invariant.still ∙ h.1;
      reads_on = after_deciding _ _ _ _ _ c.loop-key.invariant.reads_on (λ e. (c.in-Ok.ensures.decides.follows e).1) c.in-Ok.ensures.still c.in-Ok.ensures.reads_on;
      read = c.in-Ok.ensures.no_fault ∙ c.loop-key.invariant.read;
      trying = subst (λ (l : List ℕ). Trying cs (c.loop-key.key-index + 1) (g.S.Source.state c.args.source.now) (g.S.Source.state c.decide.new.source) (take c.in-Ok.decided.0 l) c.in-Ok.decided.1) (sym kept)
          (trying_passes cs c.loop-key.key-index key _ _ taken c.in-Ok.decided.1 t here (cipher_of-is_cipher c.args.ad.now c.key-item.result sound) d h.0);
    }

pub returns-clause-pumps : goal.returns-clause-pumps
returns-clause-pumps g c =
    let cs = ciphers_of c.args.ad.now c.args.keys.now in
    subst (λ (s : SinkState). Pumps (opening_any cs) [] [] false (Err (fault.StreamFailed 0)) (g.S.Source.state c.args.source.now) (g.S.Source.state c.loop-key.source) s (g.K.Sink.state c.loop-key.sink)) (sym c.loop-key.invariant.still)
    (pumps_none cs c.loop-key.key-index _ _ _ _ _ (omega (arith, length-map c.args.keys.now (cipher_of c.args.ad.now), c.loop-key-test.false)) c.loop-key.invariant.trying)

pub decide-requires-clause-fits : goal.decide-requires-clause-fits
decide-requires-clause-fits g c =
    omega (
      arith,
      all_at (λ key. key.segment + 1 ≤ vec_capacity c.args.buffer.now.bytes) c.args.keys.now c.loop-key.key-index
          c.key-item.result c.requires.fits c.loop-key-test.true c.key-item.is,
      c.loop-key.invariant.in_place.capacity,
    )

pub open_first-requires-clause-sound : goal.open_first-requires-clause-sound
open_first-requires-clause-sound g c =
    all_at IsSound c.args.keys.now c.loop-key.key-index c.key-item.result c.requires.sound
    c.loop-key-test.true c.key-item.is

pub returns-in-Written-clause-shown : goal.returns-in-Written-clause-shown
returns-in-Written-clause-shown g c =
    shows_after c.open_rest.result _ _ _ _ _ _ (c.in-Ok.ensures.no_fault ∙ c.loop-key.invariant.read)
    (c.in-Written.ensures.ends.3 ∙ ap (λ (s : SinkState). s.faults) (sym c.loop-key.invariant.still))
    c.open_rest.ensures.shown

pub returns-in-Err-clause-stops : goal.returns-in-Err-clause-stops
returns-in-Err-clause-stops g c =
    goes_on_stops (g.S.Source.state c.args.source.now) (g.S.Source.state c.loop-key.source) (g.S.Source.state c.decide.new.source) (c.loop-key.invariant.reads_on.goes_on c.in-Err.ensures.failed.open_end) c.in-Err.ensures.stops

pub returns-in-Unwritten-clause-stops : goal.returns-in-Unwritten-clause-stops
returns-in-Unwritten-clause-stops g c =
    (after_deciding _ _ _ _ _ c.loop-key.invariant.reads_on (λ e. (c.in-Ok.ensures.decides.follows e).1) c.in-Ok.ensures.still c.in-Ok.ensures.reads_on).stops

pub returns-then-len-size-clause-stops : goal.returns-then-len-size-clause-stops
returns-then-len-size-clause-stops g c =
    (after_deciding _ _ _ _ _ c.loop-key.invariant.reads_on (λ e. (c.in-Ok.ensures.decides.follows e).1) c.in-Ok.ensures.still c.in-Ok.ensures.reads_on).stops

pub returns-in-Written-clause-stops : goal.returns-in-Written-clause-stops
returns-in-Written-clause-stops g c =
    rest_stops c.in-Ok.decided.1 _ _ _
    (after_deciding _ _ _ _ _ c.loop-key.invariant.reads_on (λ e. (c.in-Ok.ensures.decides.follows e).1) c.in-Ok.ensures.still c.in-Ok.ensures.reads_on)
    c.open_rest.ensures.still c.open_rest.ensures.stops
