-- What is refused early stays refused.
use Rattle.segment_stream.proofs.PieceAnswers.{refused-early}
use Rattle.segment_stream.proofs.laws.refused_early.Goals as goal

pub returns : goal.returns
returns c = refused-early
