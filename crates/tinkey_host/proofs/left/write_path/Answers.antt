use Rattle.std.proofs.Common.{codes}
use Rattle.tinkey_plans.proofs.WroteLemmas.{wrote_both, wrote_front}
use Rattle.tinkey_host.proofs.left.write_path.Goals as goal

pub returns-in-Ok : goal.returns-in-Ok
returns-in-Ok g c =
    wrote_both (g.G.Sink.state c.args.diag.now) (g.G.Sink.state c.write_all.new.sink) (g.G.Sink.state c.write_end.new.diag) c.args.path.now (codes "\n") (rw c.as_bytes.ensures.value at c.in-Ok.ensures.all) c.write_end.ensures

pub returns-in-Err : goal.returns-in-Err
returns-in-Err g c =
    wrote_front (g.G.Sink.state c.args.diag.now) (g.G.Sink.state c.write_all.new.sink) c.args.path.now (codes "\n") c.in-Err.ensures.failed (rw c.as_bytes.ensures.value at c.in-Err.ensures.prefix)
