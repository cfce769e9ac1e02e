use Rattle.tinkey_cmds.proofs.Kept.{edits_keep_keysets, firsts_are_keysets}
use Rattle.tinkey_cmds.proofs.laws.edits_keep_keysets.Goals as goal

pub returns : goal.returns
returns c = record { edits = edits_keep_keysets; firsts = firsts_are_keysets }
