use Rattle.tinkey_session.proofs.UnsavedLemmas.{nothing_is_saved}
use Rattle.tinkey_session.proofs.laws.nothing_is_saved.Goals as goal

pub returns : goal.returns
returns c = nothing_is_saved
