use Rattle.tinkey_cmds.proofs.Standing.{edits_leave_others}
use Rattle.tinkey_cmds.proofs.laws.edits_leave_others.Goals as goal

pub returns : goal.returns
returns c = edits_leave_others
