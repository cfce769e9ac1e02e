-- Key by key.
use Rattle.segment_stream.proofs.PassedKeys.{trials}
use Rattle.segment_stream.proofs.laws.trials_in_order.Goals as goal

pub returns : goal.returns
returns c = trials
