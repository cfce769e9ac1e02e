use Rattle.dir_store.proofs.drafting.name_file.Given as goal

abbrev pub ghost-copy_named : goal.ghost-copy_named
ghost-copy_named g a = g.bytes
