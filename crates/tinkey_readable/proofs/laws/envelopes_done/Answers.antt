use Rattle.tinkey_readable.proofs.DoneEnvelopeLemmas.{envelopes_done}
use Rattle.tinkey_readable.proofs.laws.envelopes_done.Goals as goal

pub returns : goal.returns
returns c = envelopes_done
