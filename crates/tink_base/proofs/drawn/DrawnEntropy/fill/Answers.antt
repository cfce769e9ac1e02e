use Rattle.std.proofs.Common.{refl, arith, rules, []}
use Rattle.tink_base.proofs.drawn.DrawnEntropy.fill.Goals as goal

pub returns-then-self-out-clause-failed : goal.returns-then-self-out-clause-failed
returns-then-self-out-clause-failed c = record {
  rose = search rules;
  short = search rules;
  gone = record { lost = []; kept = λ steady. refl; drew = search rules };
  few = omega arith;
}
