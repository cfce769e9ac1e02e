use Rattle.std.proofs.Common.{[]}
use Rattle.host_tests.proofs.folder.naming.write_draft.Given as goal

-- pages tell no bytes, so that any do
abbrev pub ghost-finish_file : goal.ghost-finish_file
ghost-finish_file a = []
