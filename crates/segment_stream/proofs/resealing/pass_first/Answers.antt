use Rattle.std.proofs.Common.{◌∙◌, sym, refl, take}
use Rattle.segment_stream.specs.Segments.{cipher_of}
use Rattle.segment_stream.proofs.First.{AtFirst, first_opens, first_rest, first_under}
use Rattle.segment_stream.proofs.SegmentLemmas.{still_under}
use Rattle.segment_stream.proofs.Trials.{no_piece}
use Rattle.segment_stream.proofs.resealing.pass_first.Goals as goal

pub returns-then-not-begins-clause-ends : goal.returns-then-not-begins-clause-ends
returns-then-not-begins-clause-ends g c = (
  no_piece (cipher_of c.args.ad.now c.args.key.now) (take c.args.len c.args.buffer.now) 0 _
      (sym c.begins.ensures ∙ c.if-not-begins.true),
  refl,
  refl,
)

pub returns-in-Sealed-clause-ends : goal.returns-in-Sealed-clause-ends
returns-in-Sealed-clause-ends g c =
    let h = c.in-Sealed.ensures.ends in
    let key = cipher_of c.args.ad.now c.args.key.now in
    let a : AtFirst c.new-stream.result key c.args.buffer.now c.args.len c.header_size-from.result c.size-size.result c.min-end.result = record {
      under = c.new-stream.ensures;
      header = c.header_size-from.ensures;
      long = c.size-size.ensures.size;
      fits = c.requires.within;
      has = sym c.begins.ensures ∙ c.if-not-begins.false;
      ends = c.min-end.ensures;
    } in (
      h.0,
      first_opens _ key c.args.buffer.now _ _ _ _ a ∙ h.1,
      h.2,
      h.3,
      still_under _ _ key (take key.header (take c.args.len c.args.buffer.now)) c.pass_segment.ensures.stream (first_under _ key c.args.buffer.now _ _ _ _ a),
    )

pub returns-in-Sealed-clause-rest : goal.returns-in-Sealed-clause-rest
returns-in-Sealed-clause-rest g c =
    let key = cipher_of c.args.ad.now c.args.key.now in
    let a : AtFirst c.new-stream.result key c.args.buffer.now c.args.len c.header_size-from.result c.size-size.result c.min-end.result = record {
      under = c.new-stream.ensures;
      header = c.header_size-from.ensures;
      long = c.size-size.ensures.size;
      fits = c.requires.within;
      has = sym c.begins.ensures ∙ c.if-not-begins.false;
      ends = c.min-end.ensures;
    } in
    first_rest _ key c.args.buffer.now c.pass_segment.new.segment _ _ _ _ a c.pass_segment.auto.segment

pub returns-in-Unsealed-clause-ends : goal.returns-in-Unsealed-clause-ends
returns-in-Unsealed-clause-ends g c =
    let h = c.in-Unsealed.ensures.ends in
    let key = cipher_of c.args.ad.now c.args.key.now in
    let a : AtFirst c.new-stream.result key c.args.buffer.now c.args.len c.header_size-from.result c.size-size.result c.min-end.result = record {
      under = c.new-stream.ensures;
      header = c.header_size-from.ensures;
      long = c.size-size.ensures.size;
      fits = c.requires.within;
      has = sym c.begins.ensures ∙ c.if-not-begins.false;
      ends = c.min-end.ensures;
    } in
    (h.0, first_opens _ key c.args.buffer.now _ _ _ _ a ∙ h.1, h.2)

pub returns-in-Unsealed-clause-rest : goal.returns-in-Unsealed-clause-rest
returns-in-Unsealed-clause-rest g c =
    let key = cipher_of c.args.ad.now c.args.key.now in
    let a : AtFirst c.new-stream.result key c.args.buffer.now c.args.len c.header_size-from.result c.size-size.result c.min-end.result = record {
      under = c.new-stream.ensures;
      header = c.header_size-from.ensures;
      long = c.size-size.ensures.size;
      fits = c.requires.within;
      has = sym c.begins.ensures ∙ c.if-not-begins.false;
      ends = c.min-end.ensures;
    } in
    first_rest _ key c.args.buffer.now c.pass_segment.new.segment _ _ _ _ a c.pass_segment.auto.segment

pub returns-in-Refused-clause-ends : goal.returns-in-Refused-clause-ends
returns-in-Refused-clause-ends g c =
    let h = c.in-Refused.ensures.ends in
    let key = cipher_of c.args.ad.now c.args.key.now in
    let a : AtFirst c.new-stream.result key c.args.buffer.now c.args.len c.header_size-from.result c.size-size.result c.min-end.result = record {
      under = c.new-stream.ensures;
      header = c.header_size-from.ensures;
      long = c.size-size.ensures.size;
      fits = c.requires.within;
      has = sym c.begins.ensures ∙ c.if-not-begins.false;
      ends = c.min-end.ensures;
    } in
    (first_opens _ key c.args.buffer.now _ _ _ _ a ∙ h.0, h.1, h.2)
