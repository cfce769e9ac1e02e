use Rattle.proto_wire.proofs.Varints.{number_front-none, number_front-some}
use Rattle.proto_wire.proofs.number.front_number.Goals as goal

pub returns-in_err-last-clause-read : goal.returns-in_err-last-clause-read
returns-in_err-last-clause-read c = rw c.from_residual.ensures (number_front-none _ c.in_err-last.ensures)

pub returns-clause-read : goal.returns-clause-read
returns-clause-read c = number_front-some _ _ _ c.in_ok-last.ensures c.low_groups.ensures
