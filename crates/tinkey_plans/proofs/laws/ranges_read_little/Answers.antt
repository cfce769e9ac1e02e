use Rattle.tinkey_plans.proofs.RangeLemmas.{ranges_read_little}
use Rattle.tinkey_plans.proofs.laws.ranges_read_little.Goals as goal

pub returns : goal.returns
returns c = ranges_read_little
