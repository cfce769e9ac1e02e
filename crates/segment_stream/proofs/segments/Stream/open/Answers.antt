use Rattle.std.proofs.Common.{refl, arith}
use Rattle.segment_stream.proofs.SegmentLemmas.{short-opens_none}
use Rattle.segment_stream.proofs.segments.Stream.open.Goals as goal

pub returns-then-segment-size-clause-opened : goal.returns-then-segment-size-clause-opened
returns-then-segment-size-clause-opened c = (
  short-opens_none c.args.self.now.keys c.args.self.now.prefix c.args.number c.args.last
      c.args.segment.now (omega (arith, c.tag_size-size.ensures.size)),
  refl,
)
