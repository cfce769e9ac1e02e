use Rattle.proto_wire.proofs.Writing.{varint_of-spells, varint_of-shortest}
use Rattle.proto_wire.proofs.laws.varints_are_short.Goals as goal

pub returns : goal.returns
returns c = λ value below. (varint_of-spells value below, λ spelling spells. varint_of-shortest value spelling spells)
