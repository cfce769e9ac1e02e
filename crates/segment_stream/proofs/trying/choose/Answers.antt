use Rattle.std.proofs.Common.{◌≡◌, ◌+◌, ◌-◌, ◌<◌, ◌≤◌, List, ℕ, [], ◌∷◌, take, drop, length, refl, sym, ◌∙◌, ap, subst, arith}
use Rattle.std.specs.Prelude.{Bool, true, false, ◌||◌, nat_lt}
use Rattle.std.proofs.lemmas.Bool.Decides.{nat_tests}
use Rattle.std.proofs.lemmas.List.{length-map, length-take-le}
use Rattle.tink_spec.specs.Outside.{SinkState, Rose, Took, next}
use Rattle.segment_stream.specs.Arriving.{Passed}
use Rattle.segment_stream.specs.Halting.{Halts}
use Rattle.segment_stream.specs.Opening.{opens_at}
use Rattle.segment_stream.specs.Pumping.{opening_any}
use Rattle.segment_stream.specs.Segments.{IsSound, cipher_of, ciphers_of}
use Rattle.segment_stream.specs.Streams.{IsUnder}
use Rattle.segment_stream.specs.declared.fault.OpenPumpFault.TheVariants as faults
use Rattle.segment_stream.proofs.ArrivingLemmas.{chooses_key, chooses_none, chooses_unwritten, chooses_waits, passed_more, passed_none}
use Rattle.segment_stream.proofs.CipherLemmas.{cipher_of-is_cipher}
use Rattle.segment_stream.proofs.First.{all_at, decided_is, drop_cipher}
use Rattle.segment_stream.proofs.trying.choose.Goals as goal

-- whether a byte follows the segment, of the bytes in the buffer
lt_taken : (ended : Bool) (size len : ℕ) (buffer : List ℕ) (b : Bool) → len ≤ length buffer → (ended || nat_lt size len) ≡ b → (ended || nat_lt size (length (take len buffer))) ≡ b
lt_taken ended size len buffer b fits e = ap (λ n. ended || nat_lt size n) (length-take-le len buffer fits) ∙ e

pub loop-key-init : goal.loop-key-init
loop-key-init g c = record { still = refl; same = refl; index = refl; passed = passed_none _ _ _ }

pub open_first-requires-clause-sound : goal.open_first-requires-clause-sound
open_first-requires-clause-sound g c =
    all_at IsSound c.args.keys.now c.loop-key.key-index c.key-item.result c.requires.sound
    c.loop-key-test.true c.key-item.is

pub returns-then-not-is_settled-clause-chooses : goal.returns-then-not-is_settled-clause-chooses
returns-then-not-is_settled-clause-chooses g c =
    let cs = ciphers_of c.args.ad.now c.args.keys.now in
    let key = cipher_of c.args.ad.now c.key-item.result in
    let l = c.loop-key in
    chooses_waits cs l.count c.key-item.result.segment key (take c.args.len c.args.buffer.now) (take c.args.len l.buffer) c.args.ended _ _
    (subst (λ n. Passed cs n (take c.args.len c.args.buffer.now) c.args.ended) (sym l.invariant.index) l.invariant.passed)
    (ap (λ n. drop n cs) l.invariant.index ∙ drop_cipher (cipher_of c.args.ad.now) c.args.keys.now l.key-index c.key-item.result c.loop-key-test.true c.key-item.is ∙ ap (λ n. key ∷ drop (n + 1) cs) (sym l.invariant.index))
    refl
    (lt_taken c.args.ended c.key-item.result.segment c.args.len c.args.buffer.now false c.requires.within (sym c.is_settled.ensures ∙ c.if-not-is_settled.true))
    (ap (λ (b : List ℕ). take c.args.len b) l.invariant.same)
    l.invariant.still

pub returns-then-not-is_settled-clause-below : goal.returns-then-not-is_settled-clause-below
returns-then-not-is_settled-clause-below g c = λ most all.
    let short = all_at (λ key. key.segment < most) c.args.keys.now c.loop-key.key-index c.key-item.result all c.loop-key-test.true c.key-item.is in
    below_most c.args.ended c.key-item.result.segment c.args.len most (sym c.is_settled.ensures ∙ c.if-not-is_settled.true) short
  where
    below_most : (ended : Bool) (size len most : ℕ) → (ended || nat_lt size len) ≡ false → size < most → len < most
    below_most true size len most e lt = absurd cc
    below_most false size len most e lt = grind (arith, nat_tests)

pub returns-in-Unwritten-clause-chooses : goal.returns-in-Unwritten-clause-chooses
returns-in-Unwritten-clause-chooses g c =
    let cs = ciphers_of c.args.ad.now c.args.keys.now in
    let key = cipher_of c.args.ad.now c.key-item.result in
    let l = c.loop-key in
    let taken = take c.args.len c.args.buffer.now in
    let here = drop_cipher (cipher_of c.args.ad.now) c.args.keys.now l.key-index c.key-item.result c.loop-key-test.true c.key-item.is in
    let sound = all_at IsSound c.args.keys.now l.key-index c.key-item.result c.requires.sound c.loop-key-test.true c.key-item.is in
    let is = cipher_of-is_cipher c.args.ad.now c.key-item.result sound in
    let d = decided_is key c.key-item.result.segment taken c.args.ended refl (lt_taken c.args.ended c.key-item.result.segment c.args.len c.args.buffer.now true c.requires.within (sym c.is_settled.ensures ∙ c.if-not-is_settled.false)) in
    let h = c.in-Unwritten.ensures.ends in
    let opens : opens_at key taken 0 ≡ _ = ap (λ (b : List ℕ). opens_at key (take c.args.len b) 0) (sym l.invariant.same) ∙ h.1 in
    subst (λ (s : SinkState). Halts (opening_any cs) faults.WriteFault taken [] c.args.ended s (g.K.Sink.state c.open_first.new.sink)) (sym l.invariant.still)
    (chooses_unwritten cs key taken h.0 c.args.ended _ _ (chooses_key cs l.key-index key taken h.0 c.args.ended l.invariant.passed here is d opens) is d opens h.3)

pub returns-in-Unwritten-clause-shown : goal.returns-in-Unwritten-clause-shown
returns-in-Unwritten-clause-shown g c =
    let h = c.in-Unwritten.ensures.ends in
    let same = ap (λ (s : SinkState). s.faults) (sym c.loop-key.invariant.still) in
    (subst (λ n. Rose n (g.K.Sink.state c.open_first.new.sink).faults) same h.2, h.4 ∙ ap next same)

pub returns-in-Written-clause-chooses : goal.returns-in-Written-clause-chooses
returns-in-Written-clause-chooses g c =
    let cs = ciphers_of c.args.ad.now c.args.keys.now in
    let key = cipher_of c.args.ad.now c.key-item.result in
    let l = c.loop-key in
    let taken = take c.args.len c.args.buffer.now in
    let same : take c.args.len l.buffer ≡ taken = ap (λ (b : List ℕ). take c.args.len b) l.invariant.same in
    let here = drop_cipher (cipher_of c.args.ad.now) c.args.keys.now l.key-index c.key-item.result c.loop-key-test.true c.key-item.is in
    let sound = all_at IsSound c.args.keys.now l.key-index c.key-item.result c.requires.sound c.loop-key-test.true c.key-item.is in
    let is = cipher_of-is_cipher c.args.ad.now c.key-item.result sound in
    let d = decided_is key c.key-item.result.segment taken c.args.ended refl (lt_taken c.args.ended c.key-item.result.segment c.args.len c.args.buffer.now true c.requires.within (sym c.is_settled.ensures ∙ c.if-not-is_settled.false)) in
    let h = c.in-Written.ensures.ends in
    let opens : opens_at key taken 0 ≡ _ = ap (λ (b : List ℕ). opens_at key b 0) (sym same) ∙ h.1 in (
      refl,
      record {
        key = key;
        plain = h.0;
        under = subst (λ (b : List ℕ). IsUnder c.in-Written.stream key (take key.header b)) same h.4;
        choice = chooses_key cs l.key-index key taken h.0 c.args.ended l.invariant.passed here is d opens;
        decided = d;
        opens = opens;
        took = subst (λ (s : SinkState). Took s (g.K.Sink.state c.open_first.new.sink) h.0) (sym l.invariant.still) h.2;
        rest = c.in-Written.ensures.rest ∙ ap (drop key.size) same;
      },
    )

pub returns-in-Written-clause-below : goal.returns-in-Written-clause-below
returns-in-Written-clause-below g c = λ most all.
    let short = all_at (λ key. key.segment < most) c.args.keys.now c.loop-key.key-index c.key-item.result all c.loop-key-test.true c.key-item.is in
    omega (arith, c.in-Written.ensures.ends.4.size, short)

pub returns-in-Written-clause-shown : goal.returns-in-Written-clause-shown
returns-in-Written-clause-shown g c = c.in-Written.ensures.ends.3 ∙ ap (λ (s : SinkState). s.faults) (sym c.loop-key.invariant.still)

pub loop-key-preserved : goal.loop-key-preserved
loop-key-preserved g c =
    let cs = ciphers_of c.args.ad.now c.args.keys.now in
    let key = cipher_of c.args.ad.now c.key-item.result in
    let l = c.loop-key in
    let taken = take c.args.len c.args.buffer.now in
    let here = drop_cipher (cipher_of c.args.ad.now) c.args.keys.now l.key-index c.key-item.result c.loop-key-test.true c.key-item.is in
    let sound = all_at IsSound c.args.keys.now l.key-index c.key-item.result c.requires.sound c.loop-key-test.true c.key-item.is in
    let is = cipher_of-is_cipher c.args.ad.now c.key-item.result sound in
    let d = decided_is key c.key-item.result.segment taken c.args.ended refl (lt_taken c.args.ended c.key-item.result.segment c.args.len c.args.buffer.now true c.requires.within (sym c.is_settled.ensures ∙ c.if-not-is_settled.false)) in
    let h = c.in-Refused.ensures.ends in
    record {
      still = l.invariant.still ∙ h.1;
      same = c.in-Refused.ensures.kept refl ∙ l.invariant.same;
      index = omega (arith, l.invariant.index);
      passed = passed_more cs l.key-index key taken c.args.ended l.invariant.passed here is d (ap (λ (b : List ℕ). opens_at key (take c.args.len b) 0) (sym l.invariant.same) ∙ h.0);
    }

pub returns-clause-chooses : goal.returns-clause-chooses
returns-clause-chooses g c =
    let cs = ciphers_of c.args.ad.now c.args.keys.now in
    subst (λ (s : SinkState). Halts (opening_any cs) (faults.StreamFailed 0) (take c.args.len c.args.buffer.now) [] c.args.ended (g.K.Sink.state c.args.sink.now) s) c.loop-key.invariant.still
    (chooses_none cs c.loop-key.key-index _ c.args.ended _ (omega (arith, length-map c.args.keys.now (cipher_of c.args.ad.now), c.loop-key-test.false)) c.loop-key.invariant.passed)

pub returns-clause-shown : goal.returns-clause-shown
returns-clause-shown g c = ap (λ (s : SinkState). s.faults) (sym c.loop-key.invariant.still)
