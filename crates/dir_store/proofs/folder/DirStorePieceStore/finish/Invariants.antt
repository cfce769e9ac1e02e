use Rattle.std.proofs.Common.{[]}
use Rattle.dir_store.proofs.folder.DirStorePieceStore.finish.Given as goal

-- a file of the system tells no bytes, so that any do
abbrev pub ghost-finish_file : goal.ghost-finish_file
ghost-finish_file a = []
