use Rattle.tinkey_plans.specs.Status.{behind_line, line_of}
use Rattle.tinkey_plans.proofs.WroteLemmas.{wrote_both, wrote_front}
use Rattle.tinkey_plans.proofs.diagnostic.report.Goals as goal

pub returns-in-Ok : goal.returns-in-Ok
returns-in-Ok g c =
    let took = rw (c.as_slice.ensures, c.line.ensures) at c.in-Ok.ensures.all in
    let behind = c.write_behind.ensures in
    wrote_both (g.G.Sink.state c.args.diag.now) (g.G.Sink.state c.write_all.new.sink) (g.G.Sink.state c.write_behind.new.diag) (line_of c.args.status) (behind_line c.args.mention c.args.status) took behind

pub returns-in-Err : goal.returns-in-Err
returns-in-Err g c =
    let e = c.in-Err.ensures in
    let prefix = rw (c.as_slice.ensures, c.line.ensures) at e.prefix in
    wrote_front (g.G.Sink.state c.args.diag.now) (g.G.Sink.state c.write_all.new.sink) (line_of c.args.status) (behind_line c.args.mention c.args.status) e.failed prefix
