use Rattle.seal_wrap.proofs.BackLemmas.{wrap_back}
use Rattle.seal_wrap.proofs.laws.wrap_back.Goals as goal

pub returns : goal.returns
returns c = wrap_back c.binary_back.ensures c.same_key_opens.ensures
