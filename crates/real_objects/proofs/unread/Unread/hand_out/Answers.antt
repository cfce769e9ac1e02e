use Rattle.std.proofs.Common.{arith}
use Rattle.std.proofs.lemmas.Grind.{common_steps}
use Rattle.real_objects.proofs.DrawnAhead.{copied_out}
use Rattle.real_objects.proofs.unread.Unread.hand_out.Goals as goal

pub returns-clause-given : goal.returns-clause-given
returns-clause-given c =
    rw (← c.self.view_is) (copied_out c.self.inside.from c.min-n.result c.self.inside.to c.self.inside.bytes.items c.copy_from_slice.new.self _
    (omega (arith, c.min-n.ensures, c.self.invariant.0))
    (grind (arith, common_steps))
    (grind (arith, common_steps)))
