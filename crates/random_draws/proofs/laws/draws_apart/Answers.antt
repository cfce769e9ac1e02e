use Rattle.random_draws.proofs.OrderLemmas.{moved_are_same, ordered_are_apart}
use Rattle.random_draws.proofs.RunLemmas.{runs_draw, runs_draw_in_order}
use Rattle.random_draws.proofs.laws.draws_apart.Goals as goal

pub returns : goal.returns
returns c = record {
  run = runs_draw c.slices_are_settled.ensures c.saves_are_turns.ensures;
  runs = runs_draw_in_order c.slices_are_settled.ensures c.saves_are_turns.ensures;
  apart = ordered_are_apart;
  moved = moved_are_same;
}
