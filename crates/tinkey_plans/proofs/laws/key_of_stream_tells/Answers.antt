use Rattle.tinkey_plans.proofs.StreamNamingLemmas.{key_of_stream_tells}
use Rattle.tinkey_plans.proofs.laws.key_of_stream_tells.Goals as goal

pub returns : goal.returns
returns c = key_of_stream_tells
