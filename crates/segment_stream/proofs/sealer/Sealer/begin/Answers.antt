use Rattle.std.proofs.Common.{◌≡◌, ap, subst, sym, refl, ◌∙◌, take, length, arith}
use Rattle.std.proofs.lemmas.List.{length-take-le}
use Rattle.segment_stream.specs.PumpModels.{SealerState}
use Rattle.segment_stream.specs.Streams.{IsUnder, StreamState}
use Rattle.segment_stream.proofs.PushLemmas.{begins_sealed}
use Rattle.segment_stream.proofs.sealer.Sealer.begin.Goals as goal

pub returns-in-Ok-clause-begun : goal.returns-in-Ok-clause-begun
returns-in-Ok-clause-begun g c = λ cipher u.
    let header : take c.self.inside.header c.self.inside.buffer.bytes.items ≡ c.args.self.header
    = ap (λ (s : SealerState). s.header) c.self.view_is in
    let size : c.self.inside.header ≡ cipher.header
    = sym (length-take-le c.self.inside.header c.self.inside.buffer.bytes.items (omega (arith, c.self.invariant.1, c.self.inside.buffer.bytes.ok.0))) ∙ ap length header ∙ u.whole in
    begins_sealed _ cipher c.args.self.header
    (subst (λ (s : StreamState). IsUnder s cipher c.args.self.header) (sym (ap (λ (s : SealerState). s.stream) c.self.view_is)) u)
    size refl header
