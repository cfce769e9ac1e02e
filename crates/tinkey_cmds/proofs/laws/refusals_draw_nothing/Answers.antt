use Rattle.tinkey_cmds.proofs.Refusals.{refusals_draw_nothing}
use Rattle.tinkey_cmds.proofs.laws.refusals_draw_nothing.Goals as goal

pub returns : goal.returns
returns c = refusals_draw_nothing
