use Rattle.std.proofs.Common.{arith, inl, inr}
use Rattle.proto_wire.proofs.Places.{tag_none, tag_zero, tag_past, tag_found}
use Rattle.proto_wire.proofs.reading.read_tag.Goals as goal

pub returns-in_err-value-clause-none : goal.returns-in_err-value-clause-none
returns-in_err-value-clause-none c = rw c.from_residual.ensures (tag_none _ _ c.in_err-value.ensures.read)

pub returns-then-number-eq0-clause-none : goal.returns-then-number-eq0-clause-none
returns-then-number-eq0-clause-none c = elim c.then-number-eq0.either [
  | inl none ↦ tag_zero _ _ _ _ c.in_ok-value.ensures.read none
  | inr past ↦ tag_past _ _ _ _ c.in_ok-value.ensures.read past.1
]

pub returns-clause-found : goal.returns-clause-found
returns-clause-found c = tag_found _ _ _ _ _ (omega (arith, c.in_ok-value.ensures.behind)) (omega (arith, c.in_ok-value.ensures.behind)) c.requires.within c.in_ok-value.ensures.read (omega arith) c.if-number-gt-GREATEST.false
