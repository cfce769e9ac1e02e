use Rattle.random_draws.proofs.SessionLemmas.{no_byte_serves_twice, slices_apart}
use Rattle.random_draws.proofs.laws.slices_apart.Goals as goal

pub returns : goal.returns
returns c = record { slices = slices_apart; bytes = no_byte_serves_twice }
