use Rattle.wrapped_prims.proofs.SameKeyLemmas.{sole_first}
use Rattle.wrapped_prims.proofs.laws.sole_first.Goals as goal

pub returns : goal.returns
returns c = sole_first
