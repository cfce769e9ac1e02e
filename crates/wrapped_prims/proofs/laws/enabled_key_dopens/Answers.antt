use Rattle.wrapped_prims.proofs.SameKeyLemmas.{enabled_key_dopens}
use Rattle.wrapped_prims.proofs.laws.enabled_key_dopens.Goals as goal

pub returns : goal.returns
returns c = enabled_key_dopens c.dopens_sealings.ensures
