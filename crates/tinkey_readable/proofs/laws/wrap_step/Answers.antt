use Rattle.tinkey_readable.proofs.WrappedRunLemmas.{wrap_step}
use Rattle.tinkey_readable.proofs.laws.wrap_step.Goals as goal

pub returns : goal.returns
returns c = wrap_step c.faultless_keysets.ensures c.forms_back.ensures.binary c.forms_back.ensures.json c.read_is_stored.ensures c.wrap_back_bytes.ensures
