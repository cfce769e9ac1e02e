use Rattle.envelopes.proofs.DataKeyLemmas.{data_keys_are_served, data_keys_are_valid}
use Rattle.envelopes.proofs.laws.standard_data_keys.Goals as goal

pub returns : goal.returns
returns c = record { served = data_keys_are_served; valid = data_keys_are_valid c.made_is_valid.ensures c.key_back.ensures }
