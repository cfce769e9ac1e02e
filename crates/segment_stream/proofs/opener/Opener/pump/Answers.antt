use Rattle.std.proofs.Common.{◌≡◌, List, [], ap, subst, ◌∙◌}
use Rattle.std.specs.Prelude.{false}
use Rattle.segment_stream.specs.PumpModels.{OpenerState}
use Rattle.segment_stream.specs.Pumping.{Part, Pumps, opening_any}
use Rattle.segment_stream.specs.Segments.{ciphers_of}
use Rattle.segment_stream.specs.declared.key.StreamKey.{StreamKey}
use Rattle.segment_stream.proofs.opener.Opener.pump.Goals as goal

pub returns-clause-pumps : goal.returns-clause-pumps
returns-clause-pumps g c =
    let part : opening_any (ciphers_of c.self.inside.ad.now c.keys.result.now)
    ≡ opening_any (ciphers_of c.args.self.ad c.args.self.keys.keys)
    = ap (λ (l : List StreamKey). opening_any (ciphers_of c.self.inside.ad.now l)) c.keys.ensures.keys
    ∙ ap (λ (o : OpenerState). opening_any (ciphers_of o.ad o.keys.keys)) c.self.view_is in
    subst (λ (p : Part). Pumps p [] [] false c.open_any.result (g.S.Source.state c.args.source.now)
    (g.S.Source.state c.open_any.new.source) (g.K.Sink.state c.args.sink.now)
    (g.K.Sink.state c.open_any.new.sink)) part c.open_any.ensures.pumps
