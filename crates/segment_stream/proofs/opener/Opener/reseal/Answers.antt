use Rattle.std.proofs.Common.{◌≡◌, ◌+◌, ◌≤◌, List, ℕ, [], ◌∷◌, ap, arith, subst, ◌∙◌}
use Rattle.std.specs.Prelude.{false, Ok, Err}
use Rattle.std.specs.List.{AllByRecursion}
use Rattle.segment_stream.specs.Cipher.{SegmentCipher}
use Rattle.segment_stream.specs.PumpModels.{OpenerState}
use Rattle.segment_stream.specs.Pumping.{Pumps, resealing}
use Rattle.segment_stream.specs.Segments.{ciphers_of}
use Rattle.segment_stream.specs.declared.fault.OpenPumpFault.TheVariants as fault
use Rattle.segment_stream.specs.declared.key.StreamKey.{StreamKey}
use Rattle.segment_stream.proofs.PassingLemmas.{begin_unwritten, passes_done, passes_fault, passes_unended}
use Rattle.segment_stream.proofs.opener.Opener.reseal.Goals as goal
use Rattle.segment_stream.proofs.opener.Opener.reseal.Goals.{After-pass_any}

-- the keys, as the opener's contracts see them
keys_are : (g : Rattle.segment_stream.proofs.opener.Opener.reseal.Given.Over) (c : After-pass_any g)
    → ciphers_of c.self.inside.ad.now c.keys.result.now ≡ ciphers_of c.args.self.ad c.args.self.keys.keys
keys_are g c =
    ap (λ (l : List StreamKey). ciphers_of c.self.inside.ad.now l) c.keys.ensures.keys
    ∙ ap (λ (o : OpenerState). ciphers_of o.ad o.keys.keys) c.self.view_is

fit_all : (most capacity : ℕ) (keys : List StreamKey) → capacity ≡ most + 1 → AllByRecursion (λ (key : StreamKey). key.segment ≤ most) keys → AllByRecursion (λ (key : StreamKey). key.segment + 1 ≤ capacity) keys
fit_all most capacity [] size all = all
fit_all most capacity (key ∷ keys) size all = (omega (arith, all.0, size), fit_all most capacity keys size all.1)

pub pass_any-requires-clause-fits : goal.pass_any-requires-clause-fits
pass_any-requires-clause-fits g c = fit_all _ _ c.keys.result.now c.self.invariant c.keys.ensures.within

pub returns-in-Err-clause-pumps : goal.returns-in-Err-clause-pumps
returns-in-Err-clause-pumps g c = λ cipher u.
    begin_unwritten _ cipher c.args.sealer.header _ _ _ u.is c.in-Err.ensures.failed c.in-Err.ensures.front

pub returns-in-Err-pass_any-clause-pumps : goal.returns-in-Err-pass_any-clause-pumps
returns-in-Err-pass_any-clause-pumps g c = λ cipher u.
    subst (λ (k : List SegmentCipher). Pumps (resealing k cipher c.args.sealer.header) [] [] false (Err c.in-Err-pass_any.fault) (g.S.Source.state c.args.source.now) (g.S.Source.state c.pass_any.new.source) (g.K.Sink.state c.args.sink.now) (g.K.Sink.state c.pass_any.new.sink)) (keys_are g (goal.at.returns-in-Err-pass_any-clause-pumps g c).After-pass_any)
    (passes_fault _ cipher c.args.sealer.header c.in-Err-pass_any.fault _ _ c.in-Ok.sealing c.pass_any.new.sealing _ (g.K.Sink.state c.begin.new.sink) _ u.is (c.in-Ok.ensures.begun cipher u) c.in-Ok.ensures.header c.in-Err-pass_any.ensures.passes)

pub returns-in-Ok-finish-clause-pumps : goal.returns-in-Ok-finish-clause-pumps
returns-in-Ok-finish-clause-pumps g c = λ cipher u.
    subst (λ (k : List SegmentCipher). Pumps (resealing k cipher c.args.sealer.header) [] [] false (Ok tt) (g.S.Source.state c.args.source.now) (g.S.Source.state c.pass_any.new.source) (g.K.Sink.state c.args.sink.now) (g.K.Sink.state c.finish.new.sink)) (keys_are g (goal.at.returns-in-Ok-finish-clause-pumps g c).After-pass_any)
    (passes_done _ cipher c.args.sealer.header _ _ c.in-Ok.sealing c.pass_any.new.sealing _ (g.K.Sink.state c.begin.new.sink) (g.K.Sink.state c.pass_any.new.sink) _ (c.in-Ok.ensures.begun cipher u) c.in-Ok.ensures.header c.in-Ok-pass_any.ensures.passes c.in-Ok-finish.ensures.sealed)

pub returns-clause-pumps : goal.returns-clause-pumps
returns-clause-pumps g c = λ cipher u.
    subst (λ (k : List SegmentCipher). Pumps (resealing k cipher c.args.sealer.header) [] [] false (Err fault.WriteFault) (g.S.Source.state c.args.source.now) (g.S.Source.state c.pass_any.new.source) (g.K.Sink.state c.args.sink.now) (g.K.Sink.state c.finish.new.sink)) (keys_are g (goal.at.returns-clause-pumps g c).After-pass_any)
    (passes_unended _ cipher c.args.sealer.header _ _ c.in-Ok.sealing c.pass_any.new.sealing _ (g.K.Sink.state c.begin.new.sink) (g.K.Sink.state c.pass_any.new.sink) _ (c.in-Ok.ensures.begun cipher u) c.in-Ok.ensures.header c.in-Ok-pass_any.ensures.passes c.in-Err-finish.ensures.failed c.in-Err-finish.ensures.front)
