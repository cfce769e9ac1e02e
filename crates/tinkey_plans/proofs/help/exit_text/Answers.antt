use Rattle.std.proofs.Common.{refl}
use Rattle.tinkey_plans.specs.Help.{exit_text}
use Rattle.tinkey_plans.proofs.help.exit_text.Goals as goal

pub returns : goal.returns
unfolding exit_text
returns c = refl
