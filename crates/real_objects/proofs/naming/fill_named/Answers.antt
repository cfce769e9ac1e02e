use Rattle.real_objects.specs.Cause.{stored_answer}
use Rattle.real_objects.proofs.KeptNames.{ends_opened}
use Rattle.real_objects.proofs.naming.fill_named.Goals as goal

pub returns-in-Ok-opened-clause-named : goal.returns-in-Ok-opened-clause-named
returns-in-Ok-opened-clause-named g c =
    ends_opened g.N.NewName.fresh g.N.File.Write.contents g.N.File.NewFile.lasts c.args.bytes.now c.open-opened.result c.fill_opened.new.opened c.in-Ok-opened.file c.in-Ok.made c.fill_opened.result _ _ (stored_answer c.keep_name.result)
    c.open-opened.ensures.fresh c.open-opened.ensures.opened c.fill_opened.ensures.made c.fill_opened.ensures.unopened c.in-Ok.is c.in-Ok-opened.is
    c.keep_name.ensures.made c.keep_name.ensures.failed
