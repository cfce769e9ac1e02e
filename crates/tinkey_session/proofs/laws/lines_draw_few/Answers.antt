use Rattle.tinkey_session.proofs.FewLemmas.{firsts_draw_few, lines_draw_few}
use Rattle.tinkey_session.proofs.laws.lines_draw_few.Goals as goal

pub returns : goal.returns
returns c = record { lines = lines_draw_few; firsts = firsts_draw_few }
