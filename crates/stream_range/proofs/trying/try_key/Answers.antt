use Rattle.std.proofs.Common.{◌≡◌, ◌-◌, subst, sym, arith, take, drop}
use Rattle.std.specs.Prelude.{nat_le, None, Some}
use Rattle.segment_stream.specs.Segments.{opens_under}
use Rattle.segment_stream.specs.Streams.{StreamState}
use Rattle.stream_range.specs.Reading.{Fit}
use Rattle.stream_range.proofs.TryLemmas.{headless, closed, fits_front}
use Rattle.stream_range.proofs.trying.try_key.Goals as goal

pub returns-in-None-clause-tried : goal.returns-in-None-clause-tried
returns-in-None-clause-tried c =
    headless c.args.key.now c.args.ad.now c.args.front.now c.args.size c.min-end.result (record {
      sound = c.requires.sound;
      fits = c.requires.front;
      within = c.requires.within;
      ends = omega (arith, c.min-end.ensures, c.segment_size-segment.ensures);
    }) c.in-None.ensures

pub returns-in-None-open-clause-tried : goal.returns-in-None-open-clause-tried
returns-in-None-open-clause-tried c =
    let b = c.in-Some.begun in
    closed c.args.key.now c.args.ad.now c.args.front.now c.args.size c.min-end.result b (record {
      sound = c.requires.sound;
      fits = c.requires.front;
      within = c.requires.within;
      ends = omega (arith, c.min-end.ensures, c.segment_size-segment.ensures);
    }) c.in-Some.ensures
    (subst (λ n. opens_under b.stream.keys b.stream.prefix 0 (nat_le c.args.size n) (take (c.min-end.result - b.sizes.header) (drop b.sizes.header c.args.front.now)) ≡ None) c.segment_size-segment.ensures c.in-None-open.ensures.opened.0)

pub returns-in-Some-open-clause-tried : goal.returns-in-Some-open-clause-tried
returns-in-Some-open-clause-tried c =
    let b = c.in-Some.begun in
    subst (λ (s : StreamState). Fit c.args.key.now c.args.ad.now c.args.front.now c.args.size (record { stream = s; sizes = b.sizes })) (sym c.in-Some-open.ensures.stream)
    (fits_front c.args.key.now c.args.ad.now c.args.front.now (take c.in-Some-open.field-0 c.open.new.segment) c.args.size c.min-end.result b (record {
      sound = c.requires.sound;
      fits = c.requires.front;
      within = c.requires.within;
      ends = omega (arith, c.min-end.ensures, c.segment_size-segment.ensures);
    }) c.in-Some.ensures
    (subst (λ n. opens_under b.stream.keys b.stream.prefix 0 (nat_le c.args.size n) (take (c.min-end.result - b.sizes.header) (drop b.sizes.header c.args.front.now)) ≡ Some (take c.in-Some-open.field-0 c.open.new.segment)) c.segment_size-segment.ensures c.in-Some-open.ensures.opened.1))
