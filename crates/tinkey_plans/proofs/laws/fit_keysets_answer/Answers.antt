use Rattle.tinkey_plans.proofs.AnswerLemmas.{fit_keysets_answer}
use Rattle.tinkey_plans.proofs.laws.fit_keysets_answer.Goals as goal

pub returns : goal.returns
returns c = fit_keysets_answer
