use Rattle.std.proofs.Common.{arith}
use Rattle.stream_range.proofs.PieceLemmas.{reads_on}
use Rattle.stream_range.proofs.piece.read_on.Goals as goal

pub returns-in-Ok-clause-reads : goal.returns-in-Ok-clause-reads
returns-in-Ok-clause-reads g c =
    reads_on (g.V.Device.state c.args.device.now).bytes c.args.at c.args.done c.in-Ok.n c.args.out.now c.read_at.new.out
    (omega (arith, c.requires.some)) (c.in-Ok.ensures.reads).1 (c.in-Ok.ensures.reads).2
