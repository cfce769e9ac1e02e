use Rattle.tinkey_session.proofs.OpenLemmas.{kept_open_present}
use Rattle.tinkey_session.proofs.laws.kept_open_present.Goals as goal

pub returns : goal.returns
returns c = kept_open_present c.enabled_key_opens.ensures
