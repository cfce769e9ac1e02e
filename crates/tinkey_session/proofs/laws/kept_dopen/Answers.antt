use Rattle.tinkey_session.proofs.OpenLemmas.{kept_dopen}
use Rattle.tinkey_session.proofs.laws.kept_dopen.Goals as goal

pub returns : goal.returns
returns c = kept_dopen c.same_key_dopens.ensures
