-- Either side's refusal stays.
use Rattle.segment_stream.proofs.ResealingLemmas.{reseal-stays}
use Rattle.segment_stream.proofs.laws.reseal_stays.Goals as goal

pub returns : goal.returns
returns c = reseal-stays
