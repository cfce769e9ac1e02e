use Rattle.std.proofs.Common.{List, arith, ap}
use Rattle.segment_stream.specs.StreamKeys.{largest_of}
use Rattle.segment_stream.specs.declared.key.StreamKey.{StreamKey}
use Rattle.segment_stream.proofs.KeysLemmas.{largest-bound}
use Rattle.segment_stream.proofs.keys.StreamKeys.largest.Goals as goal

pub returns-clause-bound : goal.returns-clause-bound
returns-clause-bound c =
    omega (
      arith,
      largest-bound c.self.inside.keys.items 0 (omega arith) c.self.invariant.1,
      ap (λ (l : List StreamKey). largest_of l) c.deref.ensures.value,
      c.largest_of.ensures,
    )
