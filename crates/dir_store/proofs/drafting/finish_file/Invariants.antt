use Rattle.dir_store.proofs.drafting.finish_file.Given as goal

abbrev pub ghost-name_file : goal.ghost-name_file
ghost-name_file g a = g.bytes
