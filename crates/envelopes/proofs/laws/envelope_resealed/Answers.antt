use Rattle.envelopes.proofs.EnvelopeBackLemmas.{envelope_resealed}
use Rattle.envelopes.proofs.laws.envelope_resealed.Goals as goal

pub returns : goal.returns
returns c = envelope_resealed c.same_key_opens.ensures c.sealings_open.ensures c.reading_is_admitted.ensures
