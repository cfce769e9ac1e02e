use Rattle.std.proofs.Common.{arith, subst}
use Rattle.std.proofs.lemmas.List.{length-take-le}
use Rattle.segment_stream.specs.Pushing.{SealingState, SealsLast, SealsLastFront}
use Rattle.segment_stream.proofs.PushLemmas.{seals_last, seals_last_front}
use Rattle.segment_stream.proofs.sealing.SealingStream.finish.Goals as goal

pub returns-in-Ok-clause-sealed : goal.returns-in-Ok-clause-sealed
returns-in-Ok-clause-sealed g c =
    subst (λ (s : SealingState). SealsLast s (g.K.Sink.state c.args.sink.now) (g.K.Sink.state c.seal_held.new.sink)) c.self.view_is
    (seals_last _ c.plain_from-from.result _ _
    (omega (arith, c.self.invariant.short, length-take-le c.self.inside.held c.self.inside.buffer.bytes.items (omega (arith, c.self.invariant.within, c.self.inside.buffer.bytes.ok.0))))
    c.plain_from-from.ensures.first c.plain_from-from.ensures.later c.in-Ok.ensures.all)

pub returns-clause-front : goal.returns-clause-front
returns-clause-front g c =
    subst (λ (s : SealingState). SealsLastFront s (g.K.Sink.state c.args.sink.now) (g.K.Sink.state c.seal_held.new.sink)) c.self.view_is
    (seals_last_front _ c.plain_from-from.result _ _
    (omega (arith, c.self.invariant.short, length-take-le c.self.inside.held c.self.inside.buffer.bytes.items (omega (arith, c.self.invariant.within, c.self.inside.buffer.bytes.ok.0))))
    c.plain_from-from.ensures.first c.plain_from-from.ensures.later c.in-Err.ensures.prefix)
