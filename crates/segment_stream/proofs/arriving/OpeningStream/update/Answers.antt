use Rattle.std.proofs.Common.{◌-◌, ◌++◌, List, ℕ, ap, arith, length, refl, subst, take, ◌∙◌}
use Rattle.std.proofs.lemmas.List.{length-drop, take-append-drop, take_all}
use Rattle.segment_stream.specs.Arriving.{OpenStops, Opens}
use Rattle.segment_stream.proofs.ArrivingCalls.{left_is, opens_more, opens_nothing, stops_more}
use Rattle.segment_stream.proofs.Followed.{shows_behind}
use Rattle.segment_stream.proofs.PushLemmas.{taken_more}
use Rattle.segment_stream.proofs.arriving.OpeningStream.update.Goals as goal

pub loop-at-init : goal.loop-at-init
loop-at-init g c = record {
  within = omega arith;
  stood = refl;
  opens = opens_nothing c.args.self.now (g.K.Sink.state c.args.sink.now);
}

pub loop-at-preserved : goal.loop-at-preserved
loop-at-preserved g c =
    let at = c.loop-at.at in
    let n = c.in-Ok.n in
    let bytes = c.args.bytes.now in
    let rest = left_is at bytes in
    record {
      within = omega (arith, c.in-Ok.ensures.most, ap length rest, length-drop at bytes, c.loop-at-test.true);
      stood = c.in-Ok.ensures.shown ∙ c.loop-at.invariant.stood;
      opens = subst (λ (l : List ℕ). Opens c.args.self.now c.take_some.new.self l (g.K.Sink.state c.args.sink.now) (g.K.Sink.state c.take_some.new.sink)) (ap (λ (l : List ℕ). take at bytes ++ take n l) rest ∙ taken_more at n bytes)
          (opens_more c.args.self.now c.loop-at.self c.take_some.new.self _ _ _ _ _ c.loop-at.invariant.opens c.in-Ok.ensures.opened);
    }

pub returns-in-Err-clause-fault : goal.returns-in-Err-clause-fault
returns-in-Err-clause-fault g c =
    let at = c.loop-at.at in
    let bytes = c.args.bytes.now in
    subst (λ (l : List ℕ). OpenStops c.in-Err.fault c.args.self.now l (g.K.Sink.state c.args.sink.now) (g.K.Sink.state c.take_some.new.sink)) (ap (λ (l : List ℕ). take at bytes ++ l) (left_is at bytes) ∙ take-append-drop at bytes)
    (stops_more c.in-Err.fault c.args.self.now c.loop-at.self _ _ _ _ _ c.loop-at.invariant.opens c.in-Err.ensures.fault)

pub returns-in-Err-clause-shown : goal.returns-in-Err-clause-shown
returns-in-Err-clause-shown g c = shows_behind c.in-Err.fault _ _ _ c.loop-at.invariant.stood c.in-Err.ensures.shown

pub returns-clause-opened : goal.returns-clause-opened
returns-clause-opened g c =
    subst (λ (l : List ℕ). Opens c.args.self.now c.loop-at.self l (g.K.Sink.state c.args.sink.now) (g.K.Sink.state c.loop-at.sink)) (take_all c.loop-at.at c.args.bytes.now (omega (arith, c.loop-at-test.false))) c.loop-at.invariant.opens
