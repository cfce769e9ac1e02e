use Rattle.std.proofs.Common.{◌≡◌, ◌∙◌, List, ℕ, ap, subst, sym, take, true}
use Rattle.segment_stream.specs.Arriving.{OpeningState, StandsAt}
use Rattle.segment_stream.specs.Cipher.{SegmentCipher}
use Rattle.segment_stream.specs.Halting.{Halts, IsOpened}
use Rattle.segment_stream.specs.Pumping.{opening_any}
use Rattle.segment_stream.specs.Segments.{ciphers_of}
use Rattle.segment_stream.specs.declared.key.StreamKey.{StreamKey}
use Rattle.segment_stream.specs.declared.settling.Stage.{Stage}
use Rattle.segment_stream.proofs.ArrivingEnds.{ends_halted, ends_opened}
use Rattle.segment_stream.proofs.Followed.{err_more, on_ok_more}
use Rattle.segment_stream.proofs.arriving.OpeningStream.finish.Goals as goal
use Rattle.segment_stream.proofs.arriving.OpeningStream.finish.Goals.{After-finish}

-- the ciphers, as the stream's contracts see them
ciphers_are : (g : Rattle.segment_stream.proofs.arriving.OpeningStream.finish.Given.Over) (c : After-finish g)
    → ciphers_of c.as_slice.result.now c.keys-keys.result.now ≡ ciphers_of c.args.self.ad c.args.self.keys.keys
ciphers_are g c =
    ap (λ (l : List ℕ). ciphers_of l c.keys-keys.result.now) c.as_slice.ensures
    ∙ ap (λ (l : List StreamKey). ciphers_of c.self.inside.ad l) c.keys-keys.ensures.keys
    ∙ ap (λ (s : OpeningState). ciphers_of s.ad s.keys.keys) c.self.view_is

-- what is known of the stream, in the words of the call
stands_so : (g : Rattle.segment_stream.proofs.arriving.OpeningStream.finish.Given.Over) (c : After-finish g) (taken written : List ℕ)
    → StandsAt (ciphers_of c.args.self.ad c.args.self.keys.keys) c.args.self.stage taken c.args.self.held written
    → StandsAt (ciphers_of c.as_slice.result.now c.keys-keys.result.now) c.self.inside.stage taken (take c.self.inside.held c.self.inside.buffer.bytes.items) written
stands_so g c taken written x =
    subst (λ (k : List SegmentCipher). StandsAt k c.self.inside.stage taken (take c.self.inside.held c.self.inside.buffer.bytes.items) written) (sym (ciphers_are g c))
    (subst (λ (k : Stage). StandsAt (ciphers_of c.args.self.ad c.args.self.keys.keys) k taken (take c.self.inside.held c.self.inside.buffer.bytes.items) written) (sym (ap (λ (s : OpeningState). s.stage) c.self.view_is))
    (subst (λ (l : List ℕ). StandsAt (ciphers_of c.args.self.ad c.args.self.keys.keys) c.args.self.stage taken l written) (sym (ap (λ (s : OpeningState). s.held) c.self.view_is)) x))

pub returns-clause-opened : goal.returns-clause-opened
returns-clause-opened g c =
    let s = (goal.at.returns-clause-opened g c).After-finish in
    on_ok_more c.finish.result _ _
    (λ said. ends_opened c.args.self _ _ (λ taken written x.
    subst (λ (k : List SegmentCipher). IsOpened (opening_any k) taken written (g.K.Sink.state c.args.sink.now) (g.K.Sink.state c.finish.new.sink)) (ciphers_are g s)
    (said taken written (stands_so g s taken written x))))
    c.finish.ensures.opened

pub returns-clause-fault : goal.returns-clause-fault
returns-clause-fault g c =
    let s = (goal.at.returns-clause-fault g c).After-finish in
    err_more c.finish.result _ _
    (λ fault said. ends_halted c.args.self fault _ _ (λ taken written x.
    subst (λ (k : List SegmentCipher). Halts (opening_any k) fault taken written true (g.K.Sink.state c.args.sink.now) (g.K.Sink.state c.finish.new.sink)) (ciphers_are g s)
    (said taken written (stands_so g s taken written x))))
    c.finish.ensures.fault
