use Rattle.tinkey_session.proofs.OpenLemmas.{kept_dopen_present}
use Rattle.tinkey_session.proofs.laws.kept_dopen_present.Goals as goal

pub returns : goal.returns
returns c = kept_dopen_present c.enabled_key_dopens.ensures
