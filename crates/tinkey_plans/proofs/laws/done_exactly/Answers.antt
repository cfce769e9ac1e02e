use Rattle.tinkey_plans.proofs.AnswerLemmas.{fit_keysets_seal}
use Rattle.tinkey_plans.proofs.GoingLemmas.{commands_done_exactly}
use Rattle.tinkey_plans.proofs.laws.done_exactly.Goals as goal

pub returns-clause-commands : goal.returns-clause-commands
returns-clause-commands c = commands_done_exactly

pub returns-clause-seals : goal.returns-clause-seals
returns-clause-seals c = fit_keysets_seal
