use Rattle.wrapped_prims.proofs.SameKeyLemmas.{same_key_opens}
use Rattle.wrapped_prims.proofs.laws.same_key_opens.Goals as goal

pub returns : goal.returns
returns c = same_key_opens c.sealings_open.ensures
