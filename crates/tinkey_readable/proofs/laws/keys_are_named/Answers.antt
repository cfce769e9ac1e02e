use Rattle.tinkey_readable.proofs.NamedRunLemmas.{keys_are_named}
use Rattle.tinkey_readable.proofs.laws.keys_are_named.Goals as goal

pub returns : goal.returns
returns c = keys_are_named c.fit_keysets_answer.ensures c.read_keysets_fit.ensures
