-- A segment is sealed as the last one only where the whole plaintext is known.
use Rattle.segment_stream.proofs.ResealingLemmas.{refused-unfinished}
use Rattle.segment_stream.proofs.laws.refused_unfinished.Goals as goal

pub returns : goal.returns
returns c = refused-unfinished
