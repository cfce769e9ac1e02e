use Rattle.tinkey_plans.proofs.CountLemmas.{self_test_runs, self_tests_tell}
use Rattle.tinkey_plans.proofs.laws.self_tests_tell.Goals as goal

pub returns-clause-stated : goal.returns-clause-stated
returns-clause-stated c = self_tests_tell c.counts_add_up.ensures c.nothing_is_lost.ensures c.entropy_suffices.ensures

pub returns-clause-runs : goal.returns-clause-runs
returns-clause-runs c = self_test_runs c.counts_add_up.ensures c.nothing_is_lost.ensures c.entropy_suffices.ensures
