use Rattle.tinkey_plans.proofs.WholeLemmas.{commands_are_whole}
use Rattle.tinkey_plans.proofs.laws.commands_are_whole.Goals as goal

pub returns : goal.returns
returns c = commands_are_whole
