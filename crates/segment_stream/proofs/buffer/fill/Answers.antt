use Rattle.std.proofs.Common.{◌-◌, take, arith}
use Rattle.std.proofs.lemmas.List.{length-take-le}
use Rattle.segment_stream.proofs.Buffers.{put_front}
use Rattle.segment_stream.proofs.buffer.fill.Goals as goal

pub returns-in-Ok-clause-reads : goal.returns-in-Ok-clause-reads
returns-in-Ok-clause-reads g c = record {
  piece = take c.in-Ok.n c.read.new.out;
  size = length-take-le c.in-Ok.n c.read.new.out (omega (arith, c.in-Ok.ensures.bound, c.read.auto.out));
  gave = c.in-Ok.ensures.gives;
  is = put_front c.args.len (c.args.end - c.args.len) c.in-Ok.n c.args.buffer.now c.read.new.out (omega (arith, c.in-Ok.ensures.bound, c.read.auto.out)) (omega (arith, c.requires.room, c.requires.fits));
}
