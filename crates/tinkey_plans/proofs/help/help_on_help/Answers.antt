use Rattle.std.proofs.Common.{refl}
use Rattle.tinkey_plans.specs.Help.{help_on_help}
use Rattle.tinkey_plans.proofs.help.help_on_help.Goals as goal

pub returns : goal.returns
unfolding help_on_help
returns c = refl
