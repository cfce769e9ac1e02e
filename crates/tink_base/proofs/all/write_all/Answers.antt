use Rattle.std.proofs.Common.{List, ℕ, take, drop, arith, subst, ◌∙◌, append-nil}
use Rattle.std.proofs.lemmas.List.{take-append-drop, length-drop}
use Rattle.tink_spec.specs.Outside.{Took}
use Rattle.tink_spec.proofs.Moves.{took_more}
use Rattle.tink_base.proofs.Fronts.{front_rest}
use Rattle.tink_base.proofs.all.write_all.Goals as goal

pub loop-at-preserved : goal.loop-at-preserved
loop-at-preserved g c = record {
  within = omega (arith, c.in-Ok.ensures.bound, length-drop {A = ℕ});
  took = subst (λ (p : List ℕ). Took (g.K.Sink.state c.args.sink.now) (g.K.Sink.state c.write.new.self) p)
      (front_rest c.args.bytes.now c.loop-at.at c.in-Ok.n)
      (took_more _ _ _ _ _ c.loop-at.invariant.took c.in-Ok.ensures.takes);
  no_fault = c.in-Ok.ensures.no_fault ∙ c.loop-at.invariant.no_fault;
}

pub returns-in-Err-clause-prefix : goal.returns-in-Err-clause-prefix
returns-in-Err-clause-prefix g c = record {
  front = take c.loop-at.at c.args.bytes.now;
  rest = drop c.loop-at.at c.args.bytes.now;
  some = omega (arith, length-drop {A = ℕ});
  whole = take-append-drop c.loop-at.at c.args.bytes.now;
  took = subst (λ (p : List ℕ). Took (g.K.Sink.state c.args.sink.now) (g.K.Sink.state c.write.new.self) p)
      (append-nil (take c.loop-at.at c.args.bytes.now))
      (took_more _ _ _ _ _ c.loop-at.invariant.took c.in-Err.ensures.kept);
}
