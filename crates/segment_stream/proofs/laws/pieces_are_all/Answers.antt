-- Piece by piece.
use Rattle.segment_stream.proofs.PassedKeys.{pieces-all}
use Rattle.segment_stream.proofs.laws.pieces_are_all.Goals as goal

pub returns : goal.returns
returns c = pieces-all
