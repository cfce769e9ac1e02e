use Rattle.tinkey_session.proofs.OpenLemmas.{kept_open}
use Rattle.tinkey_session.proofs.laws.kept_open.Goals as goal

pub returns : goal.returns
returns c = kept_open c.same_key_opens.ensures
