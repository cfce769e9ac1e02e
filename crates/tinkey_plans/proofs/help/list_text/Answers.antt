use Rattle.std.proofs.Common.{refl}
use Rattle.tinkey_plans.specs.Help.{list_text}
use Rattle.tinkey_plans.proofs.help.list_text.Goals as goal

pub returns : goal.returns
unfolding list_text
returns c = refl
