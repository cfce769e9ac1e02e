use Rattle.std.proofs.Common.{◌≡◌, List, ℕ, [], take, ap, subst, sym, ◌∙◌}
use Rattle.std.specs.Prelude.{false}
use Rattle.tink_spec.specs.Outside.{Took, TookPrefix}
use Rattle.segment_stream.specs.PumpModels.{SealerState, pump_result}
use Rattle.segment_stream.specs.Pumping.{Pumps, sealing}
use Rattle.segment_stream.specs.Streams.{IsUnder, StreamState}
use Rattle.segment_stream.proofs.SealPass.{header_unwritten}
use Rattle.segment_stream.proofs.sealer.Sealer.pump.Goals as goal

pub returns-in-Ok-clause-pumps : goal.returns-in-Ok-clause-pumps
returns-in-Ok-clause-pumps g c = λ cipher u.
    let header : take c.self.inside.header c.self.inside.buffer.bytes.items ≡ c.args.self.header
    = ap (λ (s : SealerState). s.header) c.self.view_is in
    subst (λ (l : List ℕ). Pumps (sealing cipher l) [] [] false (pump_result c.seal_behind.result) (g.S.Source.state c.args.source.now) (g.S.Source.state c.seal_behind.new.source) (g.K.Sink.state c.args.sink.now) (g.K.Sink.state c.seal_behind.new.sink)) header
    (c.seal_behind.ensures.pumps cipher (g.K.Sink.state c.args.sink.now)
    (subst (λ (l : List ℕ). IsUnder c.self.inside.stream cipher l) (sym header)
    (subst (λ (s : StreamState). IsUnder s cipher c.args.self.header) (sym (ap (λ (s : SealerState). s.stream) c.self.view_is)) u))
    (subst (λ (l : List ℕ). Took (g.K.Sink.state c.args.sink.now) (g.K.Sink.state c.write_all.new.sink) (take c.self.inside.header l)) c.as_slice.ensures.value c.in-Ok.ensures.all))

pub returns-clause-pumps : goal.returns-clause-pumps
returns-clause-pumps g c = λ cipher u.
    let header : take c.self.inside.header c.as_slice.result.now ≡ c.args.self.header
    = ap (take c.self.inside.header) c.as_slice.ensures.value ∙ ap (λ (s : SealerState). s.header) c.self.view_is in
    header_unwritten cipher c.args.self.header _ _ _ c.in-Err.ensures.failed
    (subst (λ (l : List ℕ). TookPrefix (g.K.Sink.state c.args.sink.now) (g.K.Sink.state c.write_all.new.sink) l) header c.in-Err.ensures.prefix)
