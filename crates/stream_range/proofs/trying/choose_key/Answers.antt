use Rattle.std.proofs.Common.{List, ℕ, sym, ◌∙◌, subst}
use Rattle.segment_stream.specs.Segments.{cipher_of}
use Rattle.segment_stream.proofs.First.{drop_cipher}
use Rattle.stream_range.specs.Reading.{Fit, Unfit}
use Rattle.stream_range.proofs.TryLemmas.{passes, chooses}
use Rattle.stream_range.proofs.trying.choose_key.Goals as goal

pub returns-in-Some : goal.returns-in-Some
returns-in-Some c =
    let here = drop_cipher (cipher_of c.args.ad.now) c.args.keys.now c.loop-key.key-index c.key-item.result c.loop-key-test.true c.key-item.is in
    let fit = subst (λ (l : List ℕ). Fit c.key-item.result c.args.ad.now l c.args.size c.in-Some.begun) c.loop-key.invariant.front c.in-Some.ensures.tried in
    record {
      key = c.key-item.result;
      among = (c.loop-key.key-index, c.loop-key-test.true, sym c.key-item.is);
      sizes = fit.sizes;
      header = fit.header;
      begins = fit.begins;
      is = λ bytes s. chooses c.args.keys.now c.args.ad.now c.args.front.now bytes c.args.size c.loop-key.key-index c.key-item.result c.loop-key.invariant.passed here s (fit.fits bytes s);
    }

pub loop-key-preserved : goal.loop-key-preserved
loop-key-preserved c =
    let here = drop_cipher (cipher_of c.args.ad.now) c.args.keys.now c.loop-key.key-index c.key-item.result c.loop-key-test.true c.key-item.is in
    let unfit = subst (λ (l : List ℕ). Unfit c.key-item.result c.args.ad.now l c.args.size) c.loop-key.invariant.front c.in-None.ensures.tried in
    record {
      front = c.in-None.ensures.kept ∙ c.loop-key.invariant.front;
      passed = passes c.args.keys.now c.args.ad.now c.args.front.now c.args.size c.loop-key.key-index c.key-item.result c.loop-key.invariant.passed here unfit;
    }
