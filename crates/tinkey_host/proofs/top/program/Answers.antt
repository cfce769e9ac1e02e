use Rattle.tinkey_host.specs.Program.{obeyed}
use Rattle.tinkey_host.proofs.top.program.Goals as goal

pub returns : goal.returns
returns c = obeyed _ _ _ _ _ _ c.obey_to_the_end-code.ensures.ended
