use Rattle.std.proofs.Common.{List, arith, refl, subst}
use Rattle.std.specs.List.{AllByRecursion}
use Rattle.segment_stream.specs.Segments.{IsSound}
use Rattle.segment_stream.specs.declared.key.StreamKey.{StreamKey}
use Rattle.segment_stream.proofs.ArrivingCalls.{begins_opened}
use Rattle.segment_stream.proofs.arriving.OpeningStream.new.Goals as goal

pub returns-in-Ok : goal.returns-in-Ok
returns-in-Ok c =
    begins_opened _ c.args.ad c.args.keys refl refl refl refl
    (omega (arith, c.primary-primary.ensures.within, c.primary-primary.ensures.sound.room)) (subst (λ (l : List StreamKey). AllByRecursion IsSound l) c.keys-every.ensures.keys c.keys-every.ensures.sound)
