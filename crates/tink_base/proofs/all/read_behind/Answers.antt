use Rattle.std.proofs.Common.{ℕ, take, drop, ◌++◌, arith, length-append}
use Rattle.std.proofs.lemmas.List.{length-take, length-drop}
use Rattle.tink_spec.proofs.Moves.{gave_more}
use Rattle.tink_base.proofs.all.read_behind.Goals as goal

pub returns-then-n-end-clause-too_long : goal.returns-then-n-end-clause-too_long
returns-then-n-end-clause-too_long g c = λ _. record {
  piece = drop c.args.room c.loop-n.all.items ++ take c.in-Ok-read.n c.read.new.out;
  exact = simp (length-append) (omega (arith, length-take {A = ℕ}, length-drop {A = ℕ}, c.in-Ok-read.ensures.bound));
  gave = gave_more _ _ _ _ _ c.loop-n.invariant.gave c.in-Ok-read.ensures.gives;
}

pub returns-in-Err-extend_from_slice-clause-no_memory : goal.returns-in-Err-extend_from_slice-clause-no_memory
returns-in-Err-extend_from_slice-clause-no_memory g c = λ _. record {
  piece = drop c.args.room c.loop-n.all.items ++ take c.in-Ok-read.n c.read.new.out;
  within = simp (length-append) (omega (arith, length-take {A = ℕ}, length-drop {A = ℕ}, c.in-Ok-read.ensures.bound));
  gave = gave_more _ _ _ _ _ c.loop-n.invariant.gave c.in-Ok-read.ensures.gives;
}
