use Rattle.std.proofs.Common.{◌≡◌, ◌+◌, ◌++◌, List, ℕ, ap, arith, drop, false, length, subst, sym, take, ◌∙◌}
use Rattle.std.proofs.lemmas.List.{length-take-le, take-append-drop}
use Rattle.segment_stream.specs.Arriving.{OpeningState, StandsAt}
use Rattle.segment_stream.specs.Cipher.{SegmentCipher}
use Rattle.segment_stream.specs.Halting.{Halts}
use Rattle.segment_stream.specs.Pumping.{opening_any}
use Rattle.segment_stream.specs.Segments.{ciphers_of}
use Rattle.segment_stream.specs.Settling.{SettledOn}
use Rattle.segment_stream.specs.declared.key.StreamKey.{StreamKey}
use Rattle.segment_stream.specs.declared.settling.Stage.{Stage}
use Rattle.segment_stream.proofs.ArrivingCalls.{below_all, opens_taken, stops_taken}
use Rattle.segment_stream.proofs.arriving.OpeningStream.take_some.Goals as goal
use Rattle.segment_stream.proofs.arriving.OpeningStream.take_some.Goals.{After-settle}

-- the ciphers, as the stream's contracts see them
ciphers_are : (g : Rattle.segment_stream.proofs.arriving.OpeningStream.take_some.Given.Over) (c : After-settle g)
    → ciphers_of c.as_slice.result.now c.keys-keys.result.now ≡ ciphers_of c.args.self.now.ad c.args.self.now.keys.keys
ciphers_are g c =
    ap (λ (l : List ℕ). ciphers_of l c.keys-keys.result.now) c.as_slice.ensures
    ∙ ap (λ (l : List StreamKey). ciphers_of c.self.inside.ad l) c.keys-keys.ensures.keys
    ∙ ap (λ (s : OpeningState). ciphers_of s.ad s.keys.keys) c.self.view_is

-- the bytes that were held, and those that came
held_are : (g : Rattle.segment_stream.proofs.arriving.OpeningStream.take_some.Given.Over) (c : After-settle g)
    → take (c.self.inside.held + c.min-n.result) c.hold.new.buffer.bytes.items ≡ c.args.self.now.held ++ take c.min-n.result c.args.bytes.now
held_are g c =
    let n = c.min-n.result in
    let front = take n c.args.bytes.now in
    let size : length front ≡ n = length-take-le n c.args.bytes.now (omega (arith, c.min-n.ensures)) in
    ap (λ k. take (c.self.inside.held + k) c.hold.new.buffer.bytes.items) (sym size) ∙ c.hold.ensures.holds
    ∙ ap (λ (s : OpeningState). s.held ++ front) c.self.view_is

pub settle-requires-clause-below : goal.settle-requires-clause-below
settle-requires-clause-below g c = below_all _ _ c.keys-keys.result.now (omega (arith, c.self.invariant.room, c.hold.ensures.in_place.capacity)) c.keys-keys.ensures.within

pub returns-in-Ok-clause-opened : goal.returns-in-Ok-clause-opened
returns-in-Ok-clause-opened g c =
    let s = (goal.at.returns-in-Ok-clause-opened g c).After-settle in
    let cs = ciphers_of c.args.self.now.ad c.args.self.now.keys.keys in
    let n = c.min-n.result in
    let stage = c.replace-stage.ensures.value ∙ ap (λ (x : OpeningState). x.stage) c.self.view_is in
    opens_taken c.args.self.now _ (take n c.args.bytes.now) _ _ (ap (λ (x : OpeningState). x.keys) c.self.view_is) (ap (λ (x : OpeningState). x.ad) c.self.view_is)
    (λ taken written x.
    subst (λ (k : List SegmentCipher). SettledOn k c.in-Ok.settled.0 taken (take c.in-Ok.settled.1 c.settle.new.buffer.bytes.items) written (g.K.Sink.state c.args.sink.now) (g.K.Sink.state c.settle.new.sink)) (ciphers_are g s)
    (c.in-Ok.ensures.settled taken written
    (subst (λ (k : List SegmentCipher). StandsAt k c.replace-stage.result taken (take (c.self.inside.held + n) c.hold.new.buffer.bytes.items) written) (sym (ciphers_are g s))
    (subst (λ (k : Stage). StandsAt cs k taken (take (c.self.inside.held + n) c.hold.new.buffer.bytes.items) written) (sym stage)
    (subst (λ (l : List ℕ). StandsAt cs c.args.self.now.stage taken l written) (sym (held_are g s)) x)))))

pub returns-in-Err-clause-fault : goal.returns-in-Err-clause-fault
returns-in-Err-clause-fault g c =
    let s = (goal.at.returns-in-Err-clause-fault g c).After-settle in
    let cs = ciphers_of c.args.self.now.ad c.args.self.now.keys.keys in
    let n = c.min-n.result in
    let stage = c.replace-stage.ensures.value ∙ ap (λ (x : OpeningState). x.stage) c.self.view_is in
    stops_taken c.args.self.now c.in-Err.fault (take n c.args.bytes.now) (drop n c.args.bytes.now) c.args.bytes.now _ _ (take-append-drop n c.args.bytes.now)
    (λ taken written x.
    subst (λ (k : List SegmentCipher). Halts (opening_any k) c.in-Err.fault taken written false (g.K.Sink.state c.args.sink.now) (g.K.Sink.state c.settle.new.sink)) (ciphers_are g s)
    (c.in-Err.ensures.fault taken written
    (subst (λ (k : List SegmentCipher). StandsAt k c.replace-stage.result taken (take (c.self.inside.held + n) c.hold.new.buffer.bytes.items) written) (sym (ciphers_are g s))
    (subst (λ (k : Stage). StandsAt cs k taken (take (c.self.inside.held + n) c.hold.new.buffer.bytes.items) written) (sym stage)
    (subst (λ (l : List ℕ). StandsAt cs c.args.self.now.stage taken l written) (sym (held_are g s)) x)))))
