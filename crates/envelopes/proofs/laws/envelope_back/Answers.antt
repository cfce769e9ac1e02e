use Rattle.envelopes.proofs.EnvelopeBackLemmas.{envelope_back}
use Rattle.envelopes.proofs.laws.envelope_back.Goals as goal

pub returns : goal.returns
returns c = envelope_back c.same_key_opens.ensures c.sealings_open.ensures c.reading_is_admitted.ensures
