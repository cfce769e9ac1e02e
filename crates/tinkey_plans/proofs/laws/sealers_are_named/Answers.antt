use Rattle.tinkey_plans.proofs.SealerLemmas.{sealers_are_named}
use Rattle.tinkey_plans.proofs.laws.sealers_are_named.Goals as goal

pub returns : goal.returns
returns c = sealers_are_named
