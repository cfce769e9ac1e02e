use Rattle.std.proofs.Common.{rules}
use Rattle.serde_json.specs.declared.value.Value.{the_lemmas}
use Rattle.keyset_json.specs.Writing.{data_value}
use Rattle.keyset_json.proofs.writing.data_value.Goals as goal

pub returns : goal.returns
unfolding data_value
returns c = search (rules, the_lemmas)
