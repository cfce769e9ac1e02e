use Rattle.std.proofs.Common.{◌≡◌, ◌-◌, ◌<◌, ◌≤◌, List, [], take, drop, length, ap, subst, arith}
use Rattle.std.specs.Prelude.{Ok, false}
use Rattle.std.proofs.lemmas.Bool.Decides.{nat_tests}
use Rattle.std.proofs.lemmas.List.{length-drop, length-take-le}
use Rattle.segment_stream.specs.Cipher.{SegmentCipher}
use Rattle.segment_stream.specs.Halting.{Halts}
use Rattle.segment_stream.specs.Pumping.{opening_any}
use Rattle.segment_stream.specs.Segments.{IsSound, ciphers_of}
use Rattle.segment_stream.specs.Settling.{Chooses, IsBelow, OpensFirst, TriesWithin, Waits}
use Rattle.segment_stream.specs.declared.settling.Stage.{Stage}
use Rattle.segment_stream.proofs.ArrivingCalls.{all_left, ciphers_left, left_is}
use Rattle.segment_stream.proofs.ArrivingLemmas.{first_under_key, halts_trying, settled_after, settled_waits}
use Rattle.segment_stream.proofs.Followed.{err_more, halts_after, ok_more, shows_later}
use Rattle.segment_stream.proofs.settling.settle_first.Goals as goal
use Rattle.segment_stream.proofs.settling.settle_first.Goals.{After-size-start}

pub choose-requires-clause-sound : goal.choose-requires-clause-sound
choose-requires-clause-sound g c = all_left IsSound c.args.tried c.args.keys.now c.requires.sound

-- what was chosen
chose : (g : Rattle.segment_stream.proofs.settling.settle_first.Given.Over) (c : After-size-start g)
    → (c.in-Ok-Under.number ≡ 1) × OpensFirst (ciphers_of c.args.ad.now (take (length c.args.keys.now - c.args.tried) (drop c.args.tried c.args.keys.now))) c.in-Ok-Under.stream (take c.args.held c.args.buffer.now) (take c.args.held c.choose.new.buffer) false (g.K.Sink.state c.args.sink.now) (g.K.Sink.state c.choose.new.sink)
chose g c =
    subst (λ (x : Stage). Chooses (ciphers_of c.args.ad.now (take (length c.args.keys.now - c.args.tried) (drop c.args.tried c.args.keys.now))) (take c.args.held c.args.buffer.now) (take c.args.held c.choose.new.buffer) false (Ok x) (g.K.Sink.state c.args.sink.now) (g.K.Sink.state c.choose.new.sink))
    c.in-Ok-Under.field-0-is c.in-Ok-Under.ensures.chooses

pub settle_under-requires-clause-some : goal.settle_under-requires-clause-some
settle_under-requires-clause-some g c =
    let x = (chose g (goal.at.settle_under-requires-clause-some g c).After-size-start).1 in omega (arith, x.under.size, x.under.is.room)

pub settle_under-requires-clause-front : goal.settle_under-requires-clause-front
settle_under-requires-clause-front g c =
    let x = (chose g (goal.at.settle_under-requires-clause-front g c).After-size-start).1 in
    grind (arith, nat_tests, x.decided, x.under.size, c.size-start.ensures.size, length-take-le c.args.held c.args.buffer.now c.requires.within)

-- the key that is chosen, of all keys
first_key : (g : Rattle.segment_stream.proofs.settling.settle_first.Given.Over) (c : After-size-start g)
    → OpensFirst (drop c.args.tried (ciphers_of c.args.ad.now c.args.keys.now)) c.in-Ok-Under.stream (take c.args.held c.args.buffer.now) (take c.args.held c.choose.new.buffer) false (g.K.Sink.state c.args.sink.now) (g.K.Sink.state c.choose.new.sink)
first_key g c =
    subst (λ (k : List SegmentCipher). OpensFirst k c.in-Ok-Under.stream (take c.args.held c.args.buffer.now) (take c.args.held c.choose.new.buffer) false (g.K.Sink.state c.args.sink.now) (g.K.Sink.state c.choose.new.sink))
    (ciphers_left c.args.ad.now c.args.keys.now c.args.tried) (chose g c).1

pub returns-in-Ok-Under-clause-fits : goal.returns-in-Ok-Under-clause-fits
returns-in-Ok-Under-clause-fits g c = λ most all.
    ok_more c.settle_under.result _ _ (λ r said. said (length c.args.keys.now) most
    (subst (λ (x : Stage). IsBelow c.args.held most x) c.in-Ok-Under.field-0-is (c.in-Ok-Under.ensures.below most (all_left (λ key. key.segment < most) c.args.tried c.args.keys.now all)))) c.settle_under.ensures.fits

pub returns-in-Ok-Under-clause-short : goal.returns-in-Ok-Under-clause-short
returns-in-Ok-Under-clause-short g c = λ most all.
    let below : c.in-Ok-Under.stream.size < most
    = (subst (λ (x : Stage). IsBelow c.args.held most x) c.in-Ok-Under.field-0-is (c.in-Ok-Under.ensures.below most (all_left (λ key. key.segment < most) c.args.tried c.args.keys.now all))) in
    ok_more c.settle_under.result _ _ (λ r said. omega (arith, said, below)) c.settle_under.ensures.short

pub returns-in-Ok-Under-clause-settled : goal.returns-in-Ok-Under-clause-settled
returns-in-Ok-Under-clause-settled g c =
    let cs = ciphers_of c.args.ad.now c.args.keys.now in
    let x = first_key g (goal.at.returns-in-Ok-Under-clause-settled g c).After-size-start in
    ok_more c.settle_under.result _ _
    (λ r said taken written t.
    settled_after cs r.0 taken _ written x.plain _ _ _ x.took
    (said cs taken _ (first_under_key cs c.args.tried c.in-Ok-Under.number c.in-Ok-Under.stream taken _ _ written _ _ _ t x (chose g (goal.at.returns-in-Ok-Under-clause-settled g c).After-size-start).0 (ap (λ n. drop n (take c.args.held c.choose.new.buffer)) c.size-start.ensures.size))))
    c.settle_under.ensures.settled

pub returns-in-Ok-Under-clause-fault : goal.returns-in-Ok-Under-clause-fault
returns-in-Ok-Under-clause-fault g c =
    let cs = ciphers_of c.args.ad.now c.args.keys.now in
    let x = first_key g (goal.at.returns-in-Ok-Under-clause-fault g c).After-size-start in
    err_more c.settle_under.result _ _
    (λ fault said taken written t.
    halts_after (opening_any cs) fault taken written x.plain false _ _ _ x.took
    (said cs taken _ (first_under_key cs c.args.tried c.in-Ok-Under.number c.in-Ok-Under.stream taken _ _ written _ _ _ t x (chose g (goal.at.returns-in-Ok-Under-clause-fault g c).After-size-start).0 (ap (λ n. drop n (take c.args.held c.choose.new.buffer)) c.size-start.ensures.size))))
    c.settle_under.ensures.fault

pub returns-in-Ok-Under-clause-shown : goal.returns-in-Ok-Under-clause-shown
returns-in-Ok-Under-clause-shown g c = shows_later c.settle_under.result _ _ _ c.in-Ok-Under.ensures.shown c.settle_under.ensures.shown

pub returns-in-Ok-Trying-clause-fits : goal.returns-in-Ok-Trying-clause-fits
returns-in-Ok-Trying-clause-fits g c = λ most all.
    let tried : c.in-Ok-Trying.count ≤ length (take (length c.args.keys.now - c.args.tried) (drop c.args.tried c.args.keys.now))
    = subst (λ (x : Stage). TriesWithin (length (take (length c.args.keys.now - c.args.tried) (drop c.args.tried c.args.keys.now))) x) c.in-Ok-Trying.field-0-is c.in-Ok-Trying.ensures.tried in
    omega (arith, tried, c.requires.tried, ap length (left_is c.args.tried c.args.keys.now), length-drop c.args.tried c.args.keys.now)

pub returns-in-Ok-Trying-clause-short : goal.returns-in-Ok-Trying-clause-short
returns-in-Ok-Trying-clause-short g c = λ most all.
    subst (λ (x : Stage). IsBelow c.args.held most x) c.in-Ok-Trying.field-0-is (c.in-Ok-Trying.ensures.below most (all_left (λ key. key.segment < most) c.args.tried c.args.keys.now all))

pub returns-in-Ok-Trying-clause-settled : goal.returns-in-Ok-Trying-clause-settled
returns-in-Ok-Trying-clause-settled g c = λ taken written t.
    let w = subst (λ (x : Stage). Chooses (ciphers_of c.args.ad.now (take (length c.args.keys.now - c.args.tried) (drop c.args.tried c.args.keys.now))) (take c.args.held c.args.buffer.now) (take c.args.held c.choose.new.buffer) false (Ok x) (g.K.Sink.state c.args.sink.now) (g.K.Sink.state c.choose.new.sink))
    c.in-Ok-Trying.field-0-is c.in-Ok-Trying.ensures.chooses in
    settled_waits (ciphers_of c.args.ad.now c.args.keys.now) c.args.tried c.in-Ok-Trying.count taken _ _ written _ _ t
    (subst (λ (k : List SegmentCipher). Waits k c.in-Ok-Trying.count (take c.args.held c.args.buffer.now) (take c.args.held c.choose.new.buffer) false (g.K.Sink.state c.args.sink.now) (g.K.Sink.state c.choose.new.sink))
    (ciphers_left c.args.ad.now c.args.keys.now c.args.tried) w)

pub returns-in-Err-clause-fault : goal.returns-in-Err-clause-fault
returns-in-Err-clause-fault g c = λ taken written t.
    halts_trying (ciphers_of c.args.ad.now c.args.keys.now) c.args.tried c.in-Err.fault taken _ written _ _ t
    (subst (λ (k : List SegmentCipher). Halts (opening_any k) c.in-Err.fault (take c.args.held c.args.buffer.now) [] false (g.K.Sink.state c.args.sink.now) (g.K.Sink.state c.choose.new.sink))
    (ciphers_left c.args.ad.now c.args.keys.now c.args.tried) c.in-Err.ensures.chooses)
