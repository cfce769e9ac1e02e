-- The whole plaintext is sealed.
use Rattle.segment_stream.proofs.ResealingLemmas.{resealed-back}
use Rattle.segment_stream.proofs.laws.resealed_back.Goals as goal

pub returns : goal.returns
returns c = resealed-back
