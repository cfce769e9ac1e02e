use Rattle.envelopes.proofs.EnvelopeBackLemmas.{resealed_fit}
use Rattle.envelopes.proofs.laws.resealed_fit.Goals as goal

pub returns : goal.returns
returns c = resealed_fit
