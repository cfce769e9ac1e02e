use Rattle.random_draws.proofs.IvLemmas.{ivs_apart, ivs_are_drawn, ivs_stand_in_replies}
use Rattle.random_draws.proofs.laws.ivs_are_drawn.Goals as goal

pub returns : goal.returns
returns c = record { sealed = ivs_are_drawn; replies = ivs_stand_in_replies; apart = ivs_apart }
