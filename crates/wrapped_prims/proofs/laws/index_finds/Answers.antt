use Rattle.wrapped_prims.proofs.PlaceLemmas.{index_finds}
use Rattle.wrapped_prims.proofs.laws.index_finds.Goals as goal

pub returns : goal.returns
returns c = index_finds
