use Rattle.std.proofs.Common.{◌≡◌, ◌-◌, ◌++◌, List, ℕ, ap, arith, drop, length, refl, subst, take, ◌∙◌}
use Rattle.std.proofs.lemmas.List.{length-drop, take-append-drop, take_all}
use Rattle.segment_stream.specs.Pushing.{Seals, Stops}
use Rattle.segment_stream.proofs.PushLemmas.{seals_more, seals_nothing, stops_more, taken_more}
use Rattle.segment_stream.proofs.sealing.SealingStream.update.Goals as goal

rest_is : (at : ℕ) (plain : List ℕ) → take (length plain - at) (drop at plain) ≡ drop at plain
rest_is at plain = take_all (length plain - at) (drop at plain) (omega (arith, length-drop at plain))

pub loop-at-init : goal.loop-at-init
loop-at-init g c = record {
  within = omega arith;
  stood = refl;
  seals = seals_nothing c.args.self.now (g.K.Sink.state c.args.sink.now);
}

pub loop-at-preserved : goal.loop-at-preserved
loop-at-preserved g c =
    let at = c.loop-at.at in
    let n = c.in-Ok.n in
    let plain = c.args.plain.now in
    let rest = rest_is at plain in
    record {
      within = omega (arith, c.in-Ok.ensures.most, ap length rest, length-drop at plain, c.loop-at-test.true);
      stood = c.in-Ok.ensures.no_fault ∙ c.loop-at.invariant.stood;
      seals = subst (λ (l : List ℕ). Seals c.args.self.now c.take_some.new.self l (g.K.Sink.state c.args.sink.now) (g.K.Sink.state c.take_some.new.sink)) (ap (λ (l : List ℕ). take at plain ++ take n l) rest ∙ taken_more at n plain)
          (seals_more c.args.self.now c.loop-at.self c.take_some.new.self _ _ _ _ _ c.loop-at.invariant.seals c.in-Ok.ensures.sealed);
    }

pub returns-in-Err-clause-fault : goal.returns-in-Err-clause-fault
returns-in-Err-clause-fault g c =
    let at = c.loop-at.at in
    let plain = c.args.plain.now in
    subst (λ (l : List ℕ). Stops c.in-Err.fault c.args.self.now l (g.K.Sink.state c.args.sink.now) (g.K.Sink.state c.take_some.new.sink)) (ap (λ (l : List ℕ). take at plain ++ l) (rest_is at plain) ∙ take-append-drop at plain)
    (stops_more c.in-Err.fault c.args.self.now c.loop-at.self _ _ _ _ _ c.loop-at.invariant.seals c.loop-at.invariant.stood c.in-Err.ensures.fault)

pub returns-clause-sealed : goal.returns-clause-sealed
returns-clause-sealed g c =
    subst (λ (l : List ℕ). Seals c.args.self.now c.loop-at.self l (g.K.Sink.state c.args.sink.now) (g.K.Sink.state c.loop-at.sink)) (take_all c.loop-at.at c.args.plain.now (omega (arith, c.loop-at-test.false))) c.loop-at.invariant.seals
