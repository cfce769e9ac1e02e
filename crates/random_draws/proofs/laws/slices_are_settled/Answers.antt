use Rattle.random_draws.proofs.SettledLemmas.{slices_are_settled}
use Rattle.random_draws.proofs.laws.slices_are_settled.Goals as goal

pub returns : goal.returns
returns c = slices_are_settled
