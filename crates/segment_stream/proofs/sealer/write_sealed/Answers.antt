use Rattle.std.proofs.Common.{◌≡◌, ◌+◌, ◌-◌, ◌++◌, ◌∙◌, List, ℕ, ap, arith, drop, subst, take}
use Rattle.std.proofs.lemmas.List.{length-take-le}
use Rattle.tink_spec.specs.Outside.{Took, TookPrefix}
use Rattle.segment_stream.specs.Segments.{seals_under}
use Rattle.segment_stream.proofs.Buffers.{tag_behind}
use Rattle.segment_stream.proofs.sealer.write_sealed.Goals as goal
use Rattle.segment_stream.proofs.sealer.write_sealed.Goals.{After-write_all}

-- what is written is the sealed segment
written : (g : Rattle.segment_stream.proofs.sealer.write_sealed.Given.Over) (c : After-write_all g)
    → take (c.args.plain + c.tag_size.result) (c.seal.new.segment ++ (c.seal.new.tag ++ drop ((c.args.plain + c.tag_size.result) - c.args.plain) c.split_at_mut-segment.result.1.now))
    ≡ seals_under c.args.stream.now.keys c.args.stream.now.prefix c.args.number c.args.last (take c.args.plain c.args.bytes.now)
written g c =
    let split = c.split_at_mut-segment.ensures in
    let size = (c.args.plain + c.tag_size.result) - c.args.plain in
    tag_behind c.args.plain c.tag_size.result c.seal.new.segment c.seal.new.tag _
    (c.seal.auto.segment ∙ split.front_len)
    (omega (
      arith,
      c.seal.auto.tag ∙ length-take-le size c.split_at_mut-segment.result.1.now
          (omega (arith, split.back_len, c.requires.room, c.tag_size.ensures.size)),
    ))
    ∙ c.seal.ensures.sealed
    ∙ ap (λ (l : List ℕ). seals_under c.args.stream.now.keys c.args.stream.now.prefix c.args.number c.args.last l) split.front

pub returns-in-Ok-clause-all : goal.returns-in-Ok-clause-all
returns-in-Ok-clause-all g c =
    subst (λ (l : List ℕ). Took (g.K.Sink.state c.args.sink.now) (g.K.Sink.state c.write_all.new.sink) l) (written g (goal.at.returns-in-Ok-clause-all g c).After-write_all) c.in-Ok.ensures.all

pub returns-in-Err-clause-prefix : goal.returns-in-Err-clause-prefix
returns-in-Err-clause-prefix g c =
    subst (λ (l : List ℕ). TookPrefix (g.K.Sink.state c.args.sink.now) (g.K.Sink.state c.write_all.new.sink) l) (written g (goal.at.returns-in-Err-clause-prefix g c).After-write_all) c.in-Err.ensures.prefix
