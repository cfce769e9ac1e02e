use Rattle.std.proofs.lemmas.Grind.{common_steps}
use Rattle.std.proofs.Common.{arith}
use Rattle.managers.proofs.ListLemmas.{has_repeat-append}
use Rattle.managers.proofs.lists.repeats_in_three.Goals as goal

pub returns-then-across : goal.returns-then-across
returns-then-across g c = rw has_repeat-append (grind (arith, common_steps))

pub returns-else-across : goal.returns-else-across
returns-else-across g c = rw has_repeat-append (grind (arith, common_steps))
