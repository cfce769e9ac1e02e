use Rattle.tinkey_session.proofs.NewIdLemmas.{tells_added, tells_rotated}
use Rattle.tinkey_session.proofs.laws.new_ids_are_told.Goals as goal

pub returns : goal.returns
returns c = record { add = tells_added; rotate = tells_rotated }
