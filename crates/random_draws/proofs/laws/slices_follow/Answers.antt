use Rattle.random_draws.proofs.SessionLemmas.{slices_are_all, slices_are_within, slices_follow, slices_go_on, turns_have_slices}
use Rattle.random_draws.proofs.laws.slices_follow.Goals as goal

pub returns : goal.returns
returns c = record { follow = slices_follow; within = slices_are_within; all = slices_are_all; turns = turns_have_slices; more = slices_go_on }
