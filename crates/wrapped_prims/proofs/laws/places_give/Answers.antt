use Rattle.wrapped_prims.proofs.PlaceLemmas.{places_give}
use Rattle.wrapped_prims.proofs.laws.places_give.Goals as goal

pub returns : goal.returns
returns c = places_give
