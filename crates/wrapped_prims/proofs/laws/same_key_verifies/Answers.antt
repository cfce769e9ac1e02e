use Rattle.wrapped_prims.proofs.SameKeyLemmas.{same_key_verifies}
use Rattle.wrapped_prims.proofs.laws.same_key_verifies.Goals as goal

pub returns : goal.returns
returns c = same_key_verifies
