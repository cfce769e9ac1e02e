use Rattle.tinkey_session.proofs.DrawLemmas.{lines_draw_fronts}
use Rattle.tinkey_session.proofs.laws.lines_draw_fronts.Goals as goal

pub returns : goal.returns
returns c = lines_draw_fronts
