use Rattle.std.proofs.Common.{◌≡◌, ◌-◌, ◌<◌, take, drop, IfSome, map, string_bytes}
use Rattle.real_objects.specs.Words.{IsCause}
use Rattle.real_objects.specs.declared.args.NoWords.TheVariants as whys
use Rattle.real_objects.proofs.args.words.Given as goal

-- the words before this place, but for the program's name; and memory may have been wanted for one of them
abbrev pub invariant-loop-place : goal.invariant-loop-place
invariant-loop-place g l = IfSome (g.A.Arguments.told l.from) (λ told. map string_bytes l.words.items ≡ take (l.place - 1) (drop 1 told)) × (1 < l.place → IfSome (g.A.Arguments.told l.from) (λ told. IsCause told whys.NoMemory))
