use Rattle.tinkey_plans.proofs.NamingLemmas.{key_of_tells}
use Rattle.tinkey_plans.proofs.laws.key_of_tells.Goals as goal

pub returns : goal.returns
returns c = key_of_tells
