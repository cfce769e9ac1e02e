use Rattle.std.proofs.Common.{refl}
use Rattle.tinkey_plans.specs.Help.{help_on_version}
use Rattle.tinkey_plans.proofs.help.help_on_version.Goals as goal

pub returns : goal.returns
unfolding help_on_version
returns c = refl
