use Rattle.proto_wire.proofs.Writing.{written-cut}
use Rattle.proto_wire.proofs.laws.written_is_cut_back.Goals as goal

pub returns : goal.returns
returns c = λ at entry rest is. written-cut at entry rest is
