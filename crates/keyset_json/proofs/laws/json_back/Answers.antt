use Rattle.keyset_json.proofs.BackLemmas.{json_back}
use Rattle.keyset_json.proofs.laws.json_back.Goals as goal

pub returns : goal.returns
returns c = json_back
