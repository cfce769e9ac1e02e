use Rattle.std.proofs.Common.{◌≡◌, ◌-◌, List, ℕ, ap, arith, drop, length, subst, take, ◌∙◌}
use Rattle.std.specs.Vec.{vec_len}
use Rattle.tink_spec.specs.Outside.{Took, TookPrefix}
use Rattle.segment_stream.specs.Segments.{seals_under}
use Rattle.segment_stream.proofs.PushLemmas.{held_behind}
use Rattle.segment_stream.proofs.sealing.seal_held.Goals as goal
use Rattle.segment_stream.proofs.sealing.seal_held.Goals.{After-write_sealed}

-- what is sealed is what the buffer held
held_is : (g : Rattle.segment_stream.proofs.sealing.seal_held.Given.Over) (c : After-write_sealed g)
    → take (c.args.held - c.args.from) (take (length c.as_mut_slice-bytes.result.now - c.args.from) (drop c.args.from c.as_mut_slice-bytes.result.now))
    ≡ drop c.args.from (take c.args.held c.args.buffer.now.bytes.items)
held_is g c =
    held_behind c.args.from c.args.held (vec_len c.args.buffer.now.bytes) c.as_mut_slice-bytes.result.now c.args.buffer.now.bytes.items c.requires.front c.requires.within
    (omega (arith, c.requires.within, c.lengthen_to.ensures.longer, c.as_mut_slice-bytes.ensures.len))
    (ap (take (vec_len c.args.buffer.now.bytes)) c.as_mut_slice-bytes.ensures.value ∙ c.lengthen_to.ensures.kept)

pub returns-in-Ok-clause-all : goal.returns-in-Ok-clause-all
returns-in-Ok-clause-all g c =
    subst (λ (l : List ℕ). Took (g.K.Sink.state c.args.sink.now) (g.K.Sink.state c.write_sealed.new.sink) (seals_under c.args.stream.now.keys c.args.stream.now.prefix c.args.number c.args.last l)) (held_is g (goal.at.returns-in-Ok-clause-all g c).After-write_sealed) c.in-Ok.ensures.all

pub returns-in-Err-clause-prefix : goal.returns-in-Err-clause-prefix
returns-in-Err-clause-prefix g c =
    subst (λ (l : List ℕ). TookPrefix (g.K.Sink.state c.args.sink.now) (g.K.Sink.state c.write_sealed.new.sink) (seals_under c.args.stream.now.keys c.args.stream.now.prefix c.args.number c.args.last l)) (held_is g (goal.at.returns-in-Err-clause-prefix g c).After-write_sealed) c.in-Err.ensures.prefix
