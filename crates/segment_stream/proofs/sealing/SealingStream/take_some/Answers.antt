use Rattle.std.proofs.Common.{◌≡◌, ◌+◌, ◌++◌, ap, arith, length, sym, take, ◌∙◌}
use Rattle.std.proofs.lemmas.List.{length-append, length-take-le}
use Rattle.segment_stream.specs.Pushing.{SealingState}
use Rattle.segment_stream.proofs.PushLemmas.{seals_held}
use Rattle.segment_stream.proofs.sealing.SealingStream.take_some.Goals as goal

pub returns-clause-sealed : goal.returns-clause-sealed
returns-clause-sealed g c =
    let n = c.min-n.result in
    let front = take n c.args.plain.now in
    let size : length front ≡ n = length-take-le n c.args.plain.now (omega (arith, c.min-n.ensures)) in
    let held : take (c.self.inside.held + n) c.hold.new.buffer.bytes.items ≡ c.make_room.new.self.held ++ front
    = ap (λ k. take (c.self.inside.held + k) c.hold.new.buffer.bytes.items) (sym size) ∙ c.hold.ensures.holds
    ∙ ap (λ (s : SealingState). s.held ++ front) c.self.view_is in
    seals_held c.args.self.now c.make_room.new.self _ _ _ front c.in-Ok.ensures.made
    (omega (arith, size, c.min-n.ensures, c.requires.some, c.in-Ok.ensures.some))
    (ap (λ (s : SealingState). s.stream) c.self.view_is) (ap (λ (s : SealingState). s.header) c.self.view_is) (ap (λ (s : SealingState). s.number) c.self.view_is) held
    (omega (arith, ap length held, length-append c.make_room.new.self.held front, size, c.in-Ok.ensures.room, c.min-n.ensures))
