use Rattle.tinkey_plans.proofs.EnvelopeLemmas.{data_keys_come}
use Rattle.tinkey_plans.proofs.laws.data_keys_come.Goals as goal

pub returns : goal.returns
returns c = data_keys_come c.standard_data_keys.ensures.served c.standard_data_keys.ensures.valid
