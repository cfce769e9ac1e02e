-- A stream that arrives in pieces gives the stated answer.
use Rattle.segment_stream.proofs.PieceAnswers.{pieces-answer}
use Rattle.segment_stream.proofs.laws.pieces_answer.Goals as goal

pub returns : goal.returns
returns c = pieces-answer
