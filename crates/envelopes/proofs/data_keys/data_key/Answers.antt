use Rattle.envelopes.proofs.EnvelopeLemmas.{scheme_found, url_found}
use Rattle.envelopes.proofs.data_keys.data_key.Goals as goal

pub returns-in-Some-clause-scheme : goal.returns-in-Some-clause-scheme
returns-in-Some-clause-scheme g c = scheme_found _ _ _ _ _ c.in-Some.ensures c.url.ensures c.aead_at.ensures

pub returns-in-Some-clause-url : goal.returns-in-Some-clause-url
returns-in-Some-clause-url g c = url_found _ _ _ _ _ c.in-Some.ensures c.url.ensures c.aead_at.ensures
