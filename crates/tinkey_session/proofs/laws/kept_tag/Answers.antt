use Rattle.tinkey_session.proofs.OpenLemmas.{kept_tag}
use Rattle.tinkey_session.proofs.laws.kept_tag.Goals as goal

pub returns : goal.returns
returns c = kept_tag c.same_key_verifies.ensures
