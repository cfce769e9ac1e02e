use Rattle.std.proofs.Common.{◌-◌, ◌∙◌, arith, drop, set}
use Rattle.std.proofs.lemmas.List.{length-drop, length-set, length-take-le}
use Rattle.segment_stream.proofs.Buffers.{header_there}
use Rattle.segment_stream.proofs.sealer.draw_header.Goals as goal

pub returns-in-Ok-clause-drawn : goal.returns-in-Ok-clause-drawn
returns-in-Ok-clause-drawn g c =
    let whole = c.fill.auto.out
    ∙ length-take-le (c.args.header - 1) (drop 1 (set c.args.buffer.now 0 c.args.header))
    (omega (
      arith,
      length-drop 1 (set c.args.buffer.now 0 c.args.header),
      length-set c.args.buffer.now 0 c.args.header,
      c.requires.fits,
    )) in
    record {
      random = c.fill.new.out;
      drew = c.in-Ok.ensures.fills;
      is = header_there c.args.header c.args.buffer.now c.fill.new.out c.requires.some c.requires.fits whole;
      whole = whole;
    }
