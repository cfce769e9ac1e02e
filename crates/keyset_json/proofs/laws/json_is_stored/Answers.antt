use Rattle.keyset_json.proofs.StoredLemmas.{json_is_short, json_is_stored}
use Rattle.keyset_json.proofs.laws.json_is_stored.Goals as goal

pub returns-clause-stored : goal.returns-clause-stored
returns-clause-stored c = json_is_stored

pub returns-clause-short : goal.returns-clause-short
returns-clause-short c = json_is_short
