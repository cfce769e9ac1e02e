-- What was drawn so far gave no id, so that as many draws are left as are still to be made.
use Rattle.std.proofs.Common.{◌-◌}
use Rattle.std.specs.Option.{option_copied}
use Rattle.tink_spec.specs.Outside.{Stood}
use Rattle.tinkey_cmds.specs.Edits.{new_id}
use Rattle.tinkey_cmds.specs.Applying.{records_in}
use Rattle.tinkey_cmds.proofs.Drawings.{Continues}
use Rattle.tinkey_cmds.proofs.Wholes.{DrewGroups}
use Rattle.tinkey_cmds.proofs.drawing.draw_id.Given as goal

abbrev pub invariant-loop-try : goal.invariant-loop-try
invariant-loop-try g l = record {
  no_fault : Stood (g.E.Entropy.state l.fn.entropy).faults (g.E.Entropy.state l.entropy).faults;
  ids : DrewGroups (g.E.Entropy.state l.fn.entropy) (g.E.Entropy.state l.entropy) l._try;
  before : Continues (new_id 64 (records_in (option_copied l.keyset))) (new_id (64 - l._try) (records_in (option_copied l.keyset))) (g.E.Entropy.state l.fn.entropy) (g.E.Entropy.state l.entropy);
}
