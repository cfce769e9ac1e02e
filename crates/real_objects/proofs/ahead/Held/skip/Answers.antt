use Rattle.std.proofs.Common.{arith, ◌+◌, ◌≤◌}
use Rattle.std.proofs.lemmas.Grind.{common_steps}
use Rattle.real_objects.proofs.DrawnAhead.{zeros_on, let_go}
use Rattle.real_objects.proofs.ahead.Held.skip.Goals as goal

pub invariant_of-self : goal.invariant_of-self
invariant_of-self c =
    let fits : c.self.inside.from + c.args.count ≤ c.self.inside.to = grind (arith, common_steps, c.requires.within, c.self.view_is, c.self.invariant.0) in (
      fits,
      c.self.invariant.1,
      zeros_on c.self.inside.from _ c.args.count c.self.inside.bytes c.fill.new.self
          (grind (arith, common_steps))
          (grind (arith, common_steps))
          (grind (arith, common_steps))
          c.self.invariant.2,
    )

pub returns : goal.returns
returns c =
    rw (← c.self.view_is) (let_go c.self.inside.from _ c.args.count c.self.inside.to c.self.inside.bytes c.fill.new.self
    (grind (arith, common_steps))
    (omega arith)
    (grind (arith, common_steps))
    (grind (arith, common_steps, c.requires.within, c.self.view_is, c.self.invariant.0)))
