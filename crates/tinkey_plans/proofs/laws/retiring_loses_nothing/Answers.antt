use Rattle.tinkey_plans.proofs.RetiringLemmas.{retiring_loses_nothing}
use Rattle.tinkey_plans.proofs.laws.retiring_loses_nothing.Goals as goal

pub returns : goal.returns
returns c = retiring_loses_nothing
