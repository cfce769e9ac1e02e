-- What is decided early, the whole input decides too.
use Rattle.segment_stream.proofs.ResealingLemmas.{reseal-pass-answers}
use Rattle.segment_stream.proofs.laws.reseal_pass_answers.Goals as goal

pub returns : goal.returns
returns c = reseal-pass-answers
