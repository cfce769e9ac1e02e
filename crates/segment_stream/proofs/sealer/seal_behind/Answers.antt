use Rattle.std.proofs.Common.{◌≡◌, ◌-◌, ◌++◌, List, ℕ, [], take, sym, ◌∙◌, ap, subst, arith}
use Rattle.std.specs.Prelude.{false}
use Rattle.std.proofs.lemmas.List.{length-take-le}
use Rattle.tink_spec.specs.Outside.{Took}
use Rattle.segment_stream.specs.PumpModels.{pump_result}
use Rattle.segment_stream.specs.Pumping.{Pumps, sealing}
use Rattle.segment_stream.specs.Streams.{IsUnder}
use Rattle.segment_stream.proofs.Buffers.{kept_front, still_front}
use Rattle.segment_stream.proofs.SealPass.{plain_under, header_unread}
use Rattle.segment_stream.proofs.sealer.seal_behind.Goals as goal

pub returns-in-Ok-clause-pumps : goal.returns-in-Ok-clause-pumps
returns-in-Ok-clause-pumps g c = λ cipher old u took.
    let r = c.in-Ok.ensures.reads in
    let read = c.fill_until.new.buffer.bytes in
    let longer = c.lengthen_to.new.buffer.bytes.items in
    let there : take c.in-Ok.len longer ≡ take c.in-Ok.len read.items
    = kept_front c.in-Ok.len read.len longer read.items c.in-Ok.ensures.holds c.lengthen_to.ensures.kept in
    let front : take c.args.header c.as_mut_slice-bytes.result.now ≡ take c.args.header c.args.buffer.now.bytes.items
    = ap (take c.args.header) c.as_mut_slice-bytes.ensures.value
    ∙ still_front c.args.header c.in-Ok.len c.args.buffer.now.bytes.items longer r.piece
    (omega (arith, c.requires.within, c.args.buffer.now.bytes.ok.0))
    (omega (arith, c.in-Ok.ensures.holds, c.lengthen_to.ensures.longer, c.lengthen_to.new.buffer.bytes.ok.0)) (there ∙ r.is) in
    subst (λ (l : List ℕ). Pumps (sealing cipher l) [] [] false (pump_result c.seal_rest.result) (g.S.Source.state c.args.source.now) (g.S.Source.state c.seal_rest.new.source) old (g.K.Sink.state c.seal_rest.new.sink)) front
    (c.seal_rest.ensures.pumps cipher (g.S.Source.state c.args.source.now) old
    (subst (λ (l : List ℕ). IsUnder c.args.stream.now cipher l) (sym front) u)
    (subst (λ (l : List ℕ). Took old (g.K.Sink.state c.args.sink.now) l) (sym front) took)
    (record {
      piece = r.piece;
      gave = r.gave;
      is = ap (take c.in-Ok.len) c.as_mut_slice-bytes.ensures.value ∙ there ∙ r.is ∙ ap (λ (l : List ℕ). l ++ r.piece) (sym front);
    }))

pub returns-in-Err-clause-pumps : goal.returns-in-Err-clause-pumps
returns-in-Err-clause-pumps g c = λ cipher old u took.
    let header = take c.args.header c.args.buffer.now.bytes.items in
    let size = ap (λ n. n - c.tag_size-tag.result) c.size.ensures.size ∙ ap (λ n. c.args.stream.now.size - n) c.tag_size-tag.ensures.size in
    let e = plain_under c.args.stream.now cipher header (c.size.result - c.tag_size-tag.result) u size in
    let r = c.in-Err.ensures.gave in
    header_unread cipher header r.piece _ _ old _ u.is
    (omega (
      arith,
      r.below,
      e,
      length-take-le c.args.header c.args.buffer.now.bytes.items (omega (arith, c.requires.within, c.args.buffer.now.bytes.ok.0)),
    )) c.in-Err.ensures.failed r.gave took
