use Rattle.wrapped_prims.proofs.SameKeyLemmas.{same_key_dopens}
use Rattle.wrapped_prims.proofs.laws.same_key_dopens.Goals as goal

pub returns : goal.returns
returns c = same_key_dopens c.dopens_sealings.ensures
