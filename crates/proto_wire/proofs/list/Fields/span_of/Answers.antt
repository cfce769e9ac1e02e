use Rattle.std.proofs.Common.{◌∙◌}
use Rattle.proto_wire.proofs.ByNumber.{bytes_end}
use Rattle.proto_wire.proofs.list.Fields.span_of.Goals as goal

pub returns : goal.returns
returns c = λ source all.
    let here = c.loop-field.invariant source all in
    (here.1, here.2, here.3 ∙ bytes_end source _ _ _ _ c.loop-field-test.false)
