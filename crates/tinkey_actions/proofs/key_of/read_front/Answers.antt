use Rattle.std.proofs.Common.{arith, ◌≡◌, ◌∙◌, refl, subst, ℕ, ◌+◌, List, [], ◌++◌, take, length-append}
use Rattle.std.proofs.lemmas.List.{length-take, length-take-le}
use Rattle.tink_spec.proofs.Moves.{gave_more}
use Rattle.tink_spec.specs.Outside.{Gave, Rose}
use Rattle.tinkey_plans.specs.Ends.{front_failed, front_read}
use Rattle.tinkey_actions.proofs.KeyOfLemmas.{gave_on}
use Rattle.tinkey_actions.proofs.key_of.read_front.Goals as goal

pub returns-in-Err-clause-passes : goal.returns-in-Err-clause-passes
returns-in-Err-clause-passes g c = λ w next.
    let front = c.loop-at.front in
    let at = c.loop-at.at in
    let size = length-take-le at front c.loop-at.invariant.within in
    let both = length-append (take at front) [] in
    front_failed (take at front ++ []) refl (record { sink = refl; store = refl; entropy = refl })
    (subst (λ (n : ℕ). Rose n (g.S.Source.state c.read_on.new.source).faults) c.loop-at.invariant.no_fault c.in-Err.ensures.failed)
    (gave_more _ _ _ _ _ c.loop-at.invariant.gave c.in-Err.ensures.kept)
    (omega (arith, size, both, c.loop-at.invariant.size, c.loop-at-test.true))

pub returns-then-n-eq0-clause-passes : goal.returns-then-n-eq0-clause-passes
returns-then-n-eq0-clause-passes g c = λ w next s last run.
    let old = g.S.Source.state c.args.source.now in
    let new = g.S.Source.state c.read_on.new.source in
    let after = c.read_on.new.front in
    let at = c.loop-at.at in
    let more : Gave old new (take (at + c.in-Ok.n) after) = gave_on old (g.S.Source.state c.loop-at.source) new c.loop-at.front after at c.in-Ok.n c.in-Ok.ensures.before c.loop-at.invariant.gave c.in-Ok.ensures.gives in
    let size = length-take at after in
    let sum : at + c.in-Ok.n ≡ at = omega (arith, c.if-n-eq0.true) in
    front_read (take at after) new
    (subst (λ (n : ℕ). Gave old new (take n after)) sum more)
    (c.in-Ok.ensures.no_fault ∙ c.loop-at.invariant.no_fault)
    (omega (arith, size, c.loop-at.invariant.within, c.loop-at.invariant.size))
    (λ few. c.in-Ok.ensures.end c.if-n-eq0.true)
    run

pub loop-at-preserved : goal.loop-at-preserved
loop-at-preserved g c = record {
  within = omega (arith, c.in-Ok.ensures.bound, c.read_on.auto.front);
  size = omega (arith, c.read_on.auto.front, c.loop-at.invariant.size);
  gave = gave_on _ (g.S.Source.state c.loop-at.source) _ c.loop-at.front c.read_on.new.front c.loop-at.at c.in-Ok.n c.in-Ok.ensures.before c.loop-at.invariant.gave c.in-Ok.ensures.gives;
  no_fault = c.in-Ok.ensures.no_fault ∙ c.loop-at.invariant.no_fault;
}

pub returns-clause-passes : goal.returns-clause-passes
returns-clause-passes g c = λ w next s last run.
    let size = length-take-le c.loop-at.at c.loop-at.front c.loop-at.invariant.within in
    front_read (take c.loop-at.at c.loop-at.front) (g.S.Source.state c.loop-at.source) c.loop-at.invariant.gave c.loop-at.invariant.no_fault
    (omega (arith, size, c.loop-at.invariant.within, c.loop-at.invariant.size))
    (λ few. absurd (omega (arith, few, size, c.loop-at.invariant.size, c.loop-at-test.false)))
    run
