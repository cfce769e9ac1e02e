use Rattle.random_draws.proofs.KeyLemmas.{added_are_drawn, rotated_are_drawn}
use Rattle.random_draws.proofs.laws.new_keys_are_drawn.Goals as goal

pub returns : goal.returns
returns c = record { add = added_are_drawn; rotate = rotated_are_drawn }
