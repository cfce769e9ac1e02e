use Rattle.std.proofs.Common.{◌∙◌, ap, sym, take}
use Rattle.std.specs.Option.{is_some}
use Rattle.segment_stream.specs.Segments.{cipher_of}
use Rattle.segment_stream.proofs.First.{AtFirst, first_opens}
use Rattle.segment_stream.proofs.Trials.{no_piece}
use Rattle.segment_stream.proofs.choosing.fits.Goals as goal

pub returns-then-not-begins-clause-fits : goal.returns-then-not-begins-clause-fits
returns-then-not-begins-clause-fits c =
    sym (ap is_some (no_piece (cipher_of c.args.ad.now c.args.key.now) (take c.args.len c.args.buffer.now) 0 _
    (sym c.begins.ensures ∙ c.if-not-begins.true)))

pub returns-in-Some-clause-fits : goal.returns-in-Some-clause-fits
returns-in-Some-clause-fits c =
    let key = cipher_of c.args.ad.now c.args.key.now in
    let a : AtFirst c.new-stream.result key c.args.buffer.now c.args.len c.header_size-from.result c.size-size.result c.min-end.result = record {
      under = c.new-stream.ensures;
      header = c.header_size-from.ensures;
      long = c.size-size.ensures.size;
      fits = c.requires.within;
      has = sym c.begins.ensures ∙ c.if-not-begins.false;
      ends = c.min-end.ensures;
    } in
    sym (ap is_some (first_opens _ key c.args.buffer.now _ _ _ _ a ∙ c.in-Some.ensures.opened.1))

pub returns-in-None-clause-fits : goal.returns-in-None-clause-fits
returns-in-None-clause-fits c =
    let key = cipher_of c.args.ad.now c.args.key.now in
    let a : AtFirst c.new-stream.result key c.args.buffer.now c.args.len c.header_size-from.result c.size-size.result c.min-end.result = record {
      under = c.new-stream.ensures;
      header = c.header_size-from.ensures;
      long = c.size-size.ensures.size;
      fits = c.requires.within;
      has = sym c.begins.ensures ∙ c.if-not-begins.false;
      ends = c.min-end.ensures;
    } in
    sym (ap is_some (first_opens _ key c.args.buffer.now _ _ _ _ a ∙ c.in-None.ensures.opened.0))
