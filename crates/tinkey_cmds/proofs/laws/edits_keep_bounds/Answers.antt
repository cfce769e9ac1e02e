use Rattle.tinkey_cmds.proofs.Kept.{edits_keep_bounds, firsts_have_bounds}
use Rattle.tinkey_cmds.proofs.laws.edits_keep_bounds.Goals as goal

pub returns : goal.returns
returns c = record { edits = edits_keep_bounds; firsts = firsts_have_bounds }
