use Rattle.std.proofs.Common.{◌≡◌, ◌∙◌, arith}
use Rattle.real_objects.specs.Streams.{told_sink}
use Rattle.tinkey_host.specs.Program.{as_obeyed, late_fault}
use Rattle.tinkey_host.proofs.top.obey_to_the_end.Goals as goal

pub returns-then-ne-clause-ended : goal.returns-then-ne-clause-ended
returns-then-ne-clause-ended g c = as_obeyed c.obey_listed-code.ensures

pub returns-in-Ok-clause-ended : goal.returns-in-Ok-clause-ended
returns-in-Ok-clause-ended g c = rw c.in-Ok.ensures.same (as_obeyed c.obey_listed-code.ensures)

pub returns-in-Err-clause-ended : goal.returns-in-Err-clause-ended
returns-in-Err-clause-ended g c =
    let well : c.obey_listed-code.result.status ≡ 0 = grind (arith, c.ne.ensures, c.if-ne.false) in
    late_fault
    (told_sink g.W.Write.contents c.obey_listed-code.new.sink)
    (g.G.Sink.state c.obey_listed-code.new.diag)
    (rw well at c.obey_listed-code.ensures)
    c.in-Err.ensures.once
    c.in-Err.ensures.kept
    (c.from.ensures ∙ c.code.ensures)
    (rw c.no_mention.ensures at c.report.ensures)
