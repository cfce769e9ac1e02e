use Rattle.std.proofs.Common.{refl}
use Rattle.tinkey_plans.specs.Help.{version_text}
use Rattle.tinkey_plans.proofs.help.version_text.Goals as goal

pub returns : goal.returns
unfolding version_text
returns c = refl
