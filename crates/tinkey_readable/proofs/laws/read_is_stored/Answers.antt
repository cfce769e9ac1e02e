use Rattle.tinkey_readable.proofs.ReadBytesLemmas.{read_is_stored}
use Rattle.tinkey_readable.proofs.laws.read_is_stored.Goals as goal

pub returns : goal.returns
returns c = read_is_stored c.read_keysets_fit.ensures c.json_is_stored.ensures.stored c.json_is_stored.ensures.short
