use Rattle.std.proofs.Common.{◌≡◌, ◌-◌, List, [], ap, arith, drop, length, subst, take, true}
use Rattle.std.specs.Prelude.{Ok}
use Rattle.std.proofs.lemmas.List.{length-take-le}
use Rattle.segment_stream.specs.Cipher.{SegmentCipher}
use Rattle.segment_stream.specs.Halting.{Halts}
use Rattle.segment_stream.specs.Pumping.{opening_any}
use Rattle.segment_stream.specs.Segments.{IsSound, ciphers_of}
use Rattle.segment_stream.specs.Settling.{Chooses, OpensFirst}
use Rattle.segment_stream.specs.declared.settling.Stage.{Stage}
use Rattle.segment_stream.proofs.ArrivingCalls.{all_left, ciphers_left}
use Rattle.segment_stream.proofs.ArrivingEnds.{first_is_last, first_then_halts, first_then_opened}
use Rattle.segment_stream.proofs.Followed.{err_more, on_ok_more, shows_later}
use Rattle.segment_stream.proofs.settling.finish_first.Goals as goal
use Rattle.segment_stream.proofs.settling.finish_first.Goals.{After-size-size}

-- what was chosen
chose : (g : Rattle.segment_stream.proofs.settling.finish_first.Given.Over) (c : After-size-size g)
    → (c.in-Ok-Under.number ≡ 1) × OpensFirst (ciphers_of c.args.ad.now (take (length c.args.keys.now - c.args.tried) (drop c.args.tried c.args.keys.now))) c.in-Ok-Under.stream (take c.args.held c.args.buffer.now) (take c.args.held c.choose.new.buffer) true (g.K.Sink.state c.args.sink.now) (g.K.Sink.state c.choose.new.sink)
chose g c =
    subst (λ (x : Stage). Chooses (ciphers_of c.args.ad.now (take (length c.args.keys.now - c.args.tried) (drop c.args.tried c.args.keys.now))) (take c.args.held c.args.buffer.now) (take c.args.held c.choose.new.buffer) true (Ok x) (g.K.Sink.state c.args.sink.now) (g.K.Sink.state c.choose.new.sink))
    c.in-Ok-Under.field-0-is c.in-Ok-Under.ensures.chooses

-- the key that is chosen, of all that are left
first_key : (g : Rattle.segment_stream.proofs.settling.finish_first.Given.Over) (c : After-size-size g)
    → OpensFirst (drop c.args.tried (ciphers_of c.args.ad.now c.args.keys.now)) c.in-Ok-Under.stream (take c.args.held c.args.buffer.now) (take c.args.held c.choose.new.buffer) true (g.K.Sink.state c.args.sink.now) (g.K.Sink.state c.choose.new.sink)
first_key g c =
    subst (λ (k : List SegmentCipher). OpensFirst k c.in-Ok-Under.stream (take c.args.held c.args.buffer.now) (take c.args.held c.choose.new.buffer) true (g.K.Sink.state c.args.sink.now) (g.K.Sink.state c.choose.new.sink))
    (ciphers_left c.args.ad.now c.args.keys.now c.args.tried) (chose g c).1

pub choose-requires-clause-sound : goal.choose-requires-clause-sound
choose-requires-clause-sound g c = all_left IsSound c.args.tried c.args.keys.now c.requires.sound

pub returns-then-held-size-clause-opened : goal.returns-then-held-size-clause-opened
returns-then-held-size-clause-opened g c =
    first_is_last _ c.in-Ok-Under.stream _ _ _ _ (first_key g (goal.at.returns-then-held-size-clause-opened g c).After-size-size)
    (omega (arith, c.size-size.ensures.size, c.if-held-size.true, length-take-le c.args.held c.args.buffer.now c.requires.within))

pub finish_under-requires-clause-some : goal.finish_under-requires-clause-some
finish_under-requires-clause-some g c =
    let x = (chose g (goal.at.finish_under-requires-clause-some g c).After-size-size).1 in omega (arith, x.under.size, x.under.is.room)

pub returns-else-held-size-clause-opened : goal.returns-else-held-size-clause-opened
returns-else-held-size-clause-opened g c =
    on_ok_more c.finish_under.result _ _
    (λ said. first_then_opened _ c.in-Ok-Under.stream _ _ _ c.in-Ok-Under.number _ _ _ (first_key g (goal.at.returns-else-held-size-clause-opened g c).After-size-size)
    (omega (arith, c.size-size.ensures.size, c.if-held-size.false, length-take-le c.args.held c.args.buffer.now c.requires.within))
    (chose g (goal.at.returns-else-held-size-clause-opened g c).After-size-size).0 (ap (λ n. drop n (take c.args.held c.choose.new.buffer)) c.size-size.ensures.size) said)
    c.finish_under.ensures.opened

pub returns-else-held-size-clause-fault : goal.returns-else-held-size-clause-fault
returns-else-held-size-clause-fault g c =
    err_more c.finish_under.result _ _
    (λ fault said. first_then_halts _ c.in-Ok-Under.stream _ _ _ c.in-Ok-Under.number fault _ _ _ (first_key g (goal.at.returns-else-held-size-clause-fault g c).After-size-size)
    (omega (arith, c.size-size.ensures.size, c.if-held-size.false, length-take-le c.args.held c.args.buffer.now c.requires.within))
    (chose g (goal.at.returns-else-held-size-clause-fault g c).After-size-size).0 (ap (λ n. drop n (take c.args.held c.choose.new.buffer)) c.size-size.ensures.size) said)
    c.finish_under.ensures.fault

pub returns-else-held-size-clause-shown : goal.returns-else-held-size-clause-shown
returns-else-held-size-clause-shown g c = shows_later c.finish_under.result _ _ _ c.in-Ok-Under.ensures.shown c.finish_under.ensures.shown

pub returns-in-Err-clause-fault : goal.returns-in-Err-clause-fault
returns-in-Err-clause-fault g c =
    subst (λ (k : List SegmentCipher). Halts (opening_any k) c.in-Err.fault (take c.args.held c.args.buffer.now) [] true (g.K.Sink.state c.args.sink.now) (g.K.Sink.state c.choose.new.sink))
    (ciphers_left c.args.ad.now c.args.keys.now c.args.tried) c.in-Err.ensures.chooses
