use Rattle.std.proofs.Common.{arith}
use Rattle.proto_wire.proofs.Places.{varint_none, varint_found, eight_none, eight_found, four_none, four_found, other_none}
use Rattle.proto_wire.proofs.reading.read_payload.Goals as goal

pub returns-in_err-value-in-0-clause-none : goal.returns-in_err-value-in-0-clause-none
returns-in_err-value-in-0-clause-none c = rw c.from_residual.ensures (varint_none _ _ _ c.in-0.is c.in_err-value-in-0.ensures.read)

pub returns-in_err-behind-in-1-clause-none : goal.returns-in_err-behind-in-1-clause-none
returns-in_err-behind-in-1-clause-none c = rw c.from_residual-in_err-behind-in-1.ensures (eight_none _ _ _ _ c.requires.within c.in-1.is c.in_err-behind-in-1.ensures)

pub returns-in_err-behind-in-5-clause-none : goal.returns-in_err-behind-in-5-clause-none
returns-in_err-behind-in-5-clause-none c = rw c.from_residual-in_err-behind-in-5.ensures (four_none _ _ _ _ c.requires.within c.in-5.is c.in_err-behind-in-5.ensures)

pub returns-in_ok-value-in-0-clause-found : goal.returns-in_ok-value-in-0-clause-found
returns-in_ok-value-in-0-clause-found c = varint_found _ _ _ _ _ c.in-0.is c.in_ok-value-in-0.ensures.read

pub returns-in_ok-behind-in-1-clause-found : goal.returns-in_ok-behind-in-1-clause-found
returns-in_ok-behind-in-1-clause-found c = let found = c.in_ok-behind-in-1.ensures in rw found.1 (eight_found _ _ _ _ c.requires.within c.in-1.is found.0)

pub returns-in_ok-behind-in-5-clause-found : goal.returns-in_ok-behind-in-5-clause-found
returns-in_ok-behind-in-5-clause-found c = let found = c.in_ok-behind-in-5.ensures in rw found.1 (four_found _ _ _ _ c.requires.within c.in-5.is found.0)

pub returns-in_default-clause-none : goal.returns-in_default-clause-none
returns-in_default-clause-none c = other_none _ _ _ (omega arith) (omega arith) (omega arith) (omega arith)
