use Rattle.tinkey_cmds.proofs.Kept.{edits_keep_the_primary}
use Rattle.tinkey_cmds.proofs.laws.edits_keep_the_primary.Goals as goal

pub returns : goal.returns
returns c = edits_keep_the_primary
