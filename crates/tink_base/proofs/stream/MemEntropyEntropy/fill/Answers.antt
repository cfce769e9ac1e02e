use Rattle.std.proofs.Common.{refl, ap, arith, rules, length, [], Some}
use Rattle.std.proofs.lemmas.Grind.{common_steps}
use Rattle.tink_base.proofs.Fronts.{front_and_left}
use Rattle.tink_base.proofs.stream.MemEntropyEntropy.fill.Goals as goal

pub returns-clause-fills : goal.returns-clause-fills
returns-clause-fills c = rw (← c.self.view_is) (record {
  left = ap Some (front_and_left c.self.inside.bytes.items c.copy_from_slice.new.self c.self.inside.at (length c.copy_from_slice.new.self)
      (grind (arith, common_steps, c.copy_from_slice.ensures.len, c.copy_from_slice.ensures.after)));
  faults = omega arith;
  steady = refl;
})

pub returns-then-contains-clause-failed : goal.returns-then-contains-clause-failed
returns-then-contains-clause-failed c = record {
  rose = search rules;
  short = search rules;
  gone = record { lost = []; kept = λ steady. refl; drew = search rules };
  few = omega arith;
}
