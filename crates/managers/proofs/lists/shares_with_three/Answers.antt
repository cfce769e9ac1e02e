use Rattle.std.proofs.lemmas.Grind.{common_steps}
use Rattle.std.proofs.Common.{arith}
use Rattle.managers.proofs.ListLemmas.{shares_url-append}
use Rattle.managers.proofs.lists.shares_with_three.Goals as goal

pub returns-then-before : goal.returns-then-before
returns-then-before g c = rw shares_url-append (grind (arith, common_steps))

pub returns-else-before : goal.returns-else-before
returns-else-before g c = rw shares_url-append (grind (arith, common_steps))
