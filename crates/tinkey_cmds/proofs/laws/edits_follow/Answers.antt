use Rattle.tinkey_cmds.proofs.Kept.{edits_follow}
use Rattle.tinkey_cmds.proofs.laws.edits_follow.Goals as goal

pub returns : goal.returns
returns c = edits_follow
