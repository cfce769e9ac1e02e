use Rattle.proto_wire.proofs.Places.{number_found}
use Rattle.proto_wire.proofs.reading.read_number.Goals as goal

pub returns-clause-read : goal.returns-clause-read
returns-clause-read c = number_found _ _ _ _ _ c.requires.within c.in_ok-value.ensures.within c.in_ok-value.ensures.read
