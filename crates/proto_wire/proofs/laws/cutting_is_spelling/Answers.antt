use Rattle.proto_wire.proofs.Cuts.{cut-spells, cut-of, cut-fails, cut-fails_at}
use Rattle.proto_wire.proofs.laws.cutting_is_spelling.Goals as goal

pub returns : goal.returns
returns c = λ at part. (
  λ fields. (cut-spells at part fields, cut-of at part fields),
  λ place. (cut-fails at part place, cut-fails_at at part place),
)
