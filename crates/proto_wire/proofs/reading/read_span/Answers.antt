use Rattle.std.proofs.Common.{arith}
use Rattle.proto_wire.proofs.Places.{span_none, span_past, span_found}
use Rattle.proto_wire.proofs.reading.read_span.Goals as goal

pub returns-in_err-size-clause-read : goal.returns-in_err-size-clause-read
returns-in_err-size-clause-read c = rw c.from_residual.ensures (span_none _ _ c.in_err-size.ensures.read)

pub returns-then-size-end-clause-read : goal.returns-then-size-end-clause-read
returns-then-size-end-clause-read c = span_past _ _ _ _ _ c.requires.within c.in_ok-size.ensures.read c.if-size-end.true

pub returns-clause-read : goal.returns-clause-read
returns-clause-read c = span_found _ _ _ _ _ (omega (arith, c.in_ok-size.ensures.behind)) (omega (arith, c.in_ok-size.ensures.behind)) c.requires.within c.in_ok-size.ensures.read c.if-size-end.false
