use Rattle.tinkey_plans.specs.Advice.{advice}
use Rattle.tinkey_plans.specs.Status.{behind_line, second_text}
use Rattle.tinkey_plans.proofs.diagnostic.starve.Goals as goal

pub returns-clause-line : goal.returns-clause-line
unfolding advice behind_line second_text
returns-clause-line g c = λ mention. c.report.ensures
