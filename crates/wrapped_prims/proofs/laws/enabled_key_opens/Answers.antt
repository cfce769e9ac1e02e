use Rattle.wrapped_prims.proofs.SameKeyLemmas.{enabled_key_opens}
use Rattle.wrapped_prims.proofs.laws.enabled_key_opens.Goals as goal

pub returns : goal.returns
returns c = enabled_key_opens c.sealings_open.ensures
