use Rattle.std.proofs.Common.{◌+◌, [], arith, subst, sym}
use Rattle.std.proofs.lemmas.List.{length-take-le}
use Rattle.segment_stream.specs.Pushing.{MakesRoom, SealingState, Stops}
use Rattle.segment_stream.specs.Streams.{StreamState}
use Rattle.segment_stream.specs.declared.fault.UpdateFault.TheVariants as faults
use Rattle.segment_stream.proofs.PushLemmas.{has_room, makes_room, room_full, room_unwritten}
use Rattle.segment_stream.proofs.sealing.SealingStream.make_room.Goals as goal

pub returns-then-self-size-clause-made : goal.returns-then-self-size-clause-made
returns-then-self-size-clause-made g c = has_room c.args.self.now (g.K.Sink.state c.args.sink.now)

pub returns-in-Err-clause-fault : goal.returns-in-Err-clause-fault
returns-in-Err-clause-fault g c = λ plain some.
    subst (λ (s : SealingState). Stops faults.WriteFault s plain (g.K.Sink.state c.args.sink.now) (g.K.Sink.state c.seal_held.new.sink)) c.self.view_is
    (room_unwritten _ c.plain_from-from.result _ _ plain
    (omega (arith, c.size.ensures.size, c.tag_size.ensures.size, c.if-self-size.false, c.self.invariant.short, length-take-le c.self.inside.held c.self.inside.buffer.bytes.items (omega (arith, c.self.invariant.within, c.self.inside.buffer.bytes.ok.0))))
    some c.plain_from-from.ensures.first c.plain_from-from.ensures.later c.in-Err.ensures.failed c.in-Err.ensures.once c.in-Err.ensures.prefix)

pub returns-then-self-eq-LAST_NUMBER-clause-fault : goal.returns-then-self-eq-LAST_NUMBER-clause-fault
returns-then-self-eq-LAST_NUMBER-clause-fault g c = λ plain some.
    subst (λ (s : SealingState). Stops faults.TooManySegments s plain (g.K.Sink.state c.args.sink.now) (g.K.Sink.state c.seal_held.new.sink)) c.self.view_is
    (room_full _ c.plain_from-from.result _ _ plain
    (omega (arith, c.size.ensures.size, c.tag_size.ensures.size, c.if-self-size.false, c.self.invariant.short, length-take-le c.self.inside.held c.self.inside.buffer.bytes.items (omega (arith, c.self.invariant.within, c.self.inside.buffer.bytes.ok.0))))
    some (omega arith) c.plain_from-from.ensures.first c.plain_from-from.ensures.later c.in-Ok.ensures.no_fault c.in-Ok.ensures.all)

pub returns-clause-made : goal.returns-clause-made
returns-clause-made g c =
    subst (λ (t : StreamState). MakesRoom c.args.self.now (record { stream = t; header = c.self.inside.header; number = c.self.inside.number + 1; held = [] }) (g.K.Sink.state c.args.sink.now) (g.K.Sink.state c.seal_held.new.sink)) (sym c.in-Ok.ensures.stream)
    (subst (λ (s : SealingState). MakesRoom s (record { stream = c.self.inside.stream; header = c.self.inside.header; number = c.self.inside.number + 1; held = [] }) (g.K.Sink.state c.args.sink.now) (g.K.Sink.state c.seal_held.new.sink)) c.self.view_is
    (makes_room _ c.plain_from-from.result _ _
    (omega (arith, c.size.ensures.size, c.tag_size.ensures.size, c.if-self-size.false, c.self.invariant.short, length-take-le c.self.inside.held c.self.inside.buffer.bytes.items (omega (arith, c.self.invariant.within, c.self.inside.buffer.bytes.ok.0))))
    (omega (arith, c.self.invariant.few, c.if-self-eq-LAST_NUMBER.false)) c.plain_from-from.ensures.first c.plain_from-from.ensures.later c.in-Ok.ensures.all))
