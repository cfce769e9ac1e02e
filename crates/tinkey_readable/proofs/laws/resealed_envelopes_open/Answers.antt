use Rattle.tinkey_readable.proofs.EnvelopeResealLemmas.{resealed_envelopes_open}
use Rattle.tinkey_readable.proofs.laws.resealed_envelopes_open.Goals as goal

pub returns : goal.returns
returns c = resealed_envelopes_open c.envelope_resealed.ensures c.standard_data_keys.ensures.served c.read_keysets_fit.ensures
