use Rattle.tinkey_plans.proofs.StepLemmas.{handed_on}
use Rattle.tinkey_plans.specs.SelfTesting.{self_test_output}
use Rattle.tinkey_actions.proofs.SelfTestLemmas.{counted_passes, uncounted_passes}
use Rattle.tinkey_actions.proofs.self_testing.tell_self_test.Goals as goal

pub returns : goal.returns
returns g c = λ w. counted_passes _ _ _ _ w c.in_ok-counts.ensures c.tell_counts.ensures.line c.tell_counts.ensures.no_memory

pub returns-in_err-counts : goal.returns-in_err-counts
returns-in_err-counts g c = λ w. handed_on (λ line. line) (self_test_output _ c.args.seed c.args.lines) w w _ _ c.from_residual.ensures.1 (uncounted_passes _ _ _ w c.in_err-counts.ensures)
