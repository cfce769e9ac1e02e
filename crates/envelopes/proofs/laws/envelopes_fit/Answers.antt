use Rattle.envelopes.proofs.EnvelopeBackLemmas.{envelopes_fit}
use Rattle.envelopes.proofs.laws.envelopes_fit.Goals as goal

pub returns : goal.returns
returns c = envelopes_fit c.reading_is_admitted.ensures
