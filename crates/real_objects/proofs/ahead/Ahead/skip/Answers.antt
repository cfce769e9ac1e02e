use Rattle.real_objects.proofs.DrawnAhead.{front_gone}
use Rattle.real_objects.proofs.ahead.Ahead.skip.Goals as goal

pub returns-clause-gone : goal.returns-clause-gone
returns-clause-gone g c = rw c.skip.ensures (front_gone c.args.count _ _)
