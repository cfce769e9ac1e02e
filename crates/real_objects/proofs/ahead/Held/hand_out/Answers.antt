use Rattle.std.proofs.Common.{arith}
use Rattle.std.proofs.lemmas.Grind.{common_steps}
use Rattle.real_objects.proofs.DrawnAhead.{zeros_on, handed_out}
use Rattle.real_objects.proofs.ahead.Held.hand_out.Goals as goal

pub invariant_of-self : goal.invariant_of-self
invariant_of-self c = (
  omega (arith, c.min-n.ensures, c.self.invariant.0),
  c.self.invariant.1,
  zeros_on c.self.inside.from _ c.min-n.result c.self.inside.bytes c.fill.new.self
      (grind (arith, common_steps))
      (grind (arith, common_steps))
      (grind (arith, common_steps))
      c.self.invariant.2,
)

pub returns-clause-given : goal.returns-clause-given
returns-clause-given c =
    rw (← c.self.view_is) (handed_out c.self.inside.from _ c.min-n.result c.self.inside.to c.self.inside.bytes c.fill.new.self c.copy_from_slice.new.self _
    (grind (arith, common_steps))
    (omega arith)
    (grind (arith, common_steps))
    (omega (arith, c.min-n.ensures, c.self.invariant.0))
    (grind (arith, common_steps))
    (grind (arith, common_steps)))
