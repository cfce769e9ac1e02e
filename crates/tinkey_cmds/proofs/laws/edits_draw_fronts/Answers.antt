use Rattle.tinkey_cmds.proofs.Fronts.{fronts-step, fronts-first}
use Rattle.tinkey_cmds.proofs.laws.edits_draw_fronts.Goals as goal

pub returns : goal.returns
returns c = (fronts-step, fronts-first)
