use Rattle.std.proofs.Common.{◌+◌, ◌*◌, ◌≤◌, List, ℕ, length, refl, sym, ◌∙◌, subst, arith, inr}
use Rattle.std.specs.Prelude.{Result, true}
use Rattle.std.specs.List.{AllByRecursion}
use Rattle.segment_stream.specs.Opening.{Choice, choose}
use Rattle.segment_stream.specs.Range.{RangeRefusal, range_of, covering}
use Rattle.segment_stream.specs.Segments.{cipher_of, ciphers_of}
use Rattle.segment_stream.specs.StreamKeys.{largest_of}
use Rattle.segment_stream.specs.declared.key.StreamKey.{StreamKey}
use Rattle.stream_range.specs.Answers.{IsAnswer, covering_by}
use Rattle.stream_range.specs.Reading.{StartsWith, Chosen}
use Rattle.stream_range.proofs.RangeLemmas.{given_all, holds_of, contains_map, if_told, range_chosen}
use Rattle.stream_range.proofs.range.open_into.Goals as goal

pub returns-in-Some-clause-range : goal.returns-in-Some-clause-range
returns-in-Some-clause-range g c =
    let keys = c.args.keys.now.keys in
    let ad = c.args.ad.now in
    let chose : Chosen keys ad c.read_all.new.out c.size-size.result c.in-Some.begun = subst (λ (l : List StreamKey). Chosen l ad c.read_all.new.out c.size-size.result c.in-Some.begun) c.keys.ensures.keys c.in-Some.ensures in
    let key = cipher_of ad chose.key in
    if_told (g.V.Device.state c.args.device.now).bytes (λ bytes. IsAnswer c.open_begun.result c.open_begun.new.plain.items (range_of (ciphers_of ad keys) bytes c.args.from c.args.to)) (λ bytes told.
    let starts : StartsWith bytes c.read_all.new.out c.size-size.result = record {
      long = rw told at c.size-size.ensures.told ∙ sym c.size-size.ensures.size;
      begins = rw told at c.in-Ok.ensures.reads;
    } in
    subst (λ (r : Result (List ℕ) RangeRefusal). IsAnswer c.open_begun.result c.open_begun.new.plain.items r)
    (sym (range_chosen (ciphers_of ad keys) bytes c.args.from c.args.to key (chose.is bytes starts)))
    (c.open_begun.ensures.range key bytes (c.in-Ok.ensures.kept.bytes ∙ told) (chose.begins bytes starts)))

pub returns-in-Some-clause-given : goal.returns-in-Some-clause-given
returns-in-Some-clause-given g c =
    let keys = c.args.keys.now.keys in
    let ad = c.args.ad.now in
    let chose : Chosen keys ad c.read_all.new.out c.size-size.result c.in-Some.begun = subst (λ (l : List StreamKey). Chosen l ad c.read_all.new.out c.size-size.result c.in-Some.begun) c.keys.ensures.keys c.in-Some.ensures in
    let key = cipher_of ad chose.key in
    let all : AllByRecursion (λ (k : StreamKey). k.segment ≤ largest_of keys) keys = subst (λ (l : List StreamKey). AllByRecursion (λ (k : StreamKey). k.segment ≤ largest_of keys) l) c.keys.ensures.keys c.keys.ensures.within in
    let within = holds_of {X = StreamKey} (λ (k : StreamKey). k.segment ≤ largest_of keys) keys chose.key all chose.among in
    let bound = given_all (g.V.Device.state c.args.device.now).given (g.V.Device.state c.read_all.new.device).given (g.V.Device.state c.open_begun.new.device).given (length c.args.buffer.now) chose.key.segment (largest_of keys) (covering key c.args.from c.args.to)
    c.in-Ok.ensures.given (omega (arith, c.requires.fits)) (c.open_begun.ensures.given key chose.sizes) within in
    if_told (g.V.Device.state c.args.device.now).bytes (λ bytes. (g.V.Device.state c.open_begun.new.device).given ≤ (g.V.Device.state c.args.device.now).given + (covering_by (choose (ciphers_of ad keys) bytes true) c.args.from c.args.to + 2) * largest_of keys) (λ bytes told.
    let starts : StartsWith bytes c.read_all.new.out c.size-size.result = record {
      long = rw told at c.size-size.ensures.told ∙ sym c.size-size.ensures.size;
      begins = rw told at c.in-Ok.ensures.reads;
    } in
    subst (λ (x : Choice). (g.V.Device.state c.open_begun.new.device).given ≤ (g.V.Device.state c.args.device.now).given + (covering_by x c.args.from c.args.to + 2) * largest_of keys)
    (sym (chose.is bytes starts)) bound)

pub returns-in-Some-clause-given_untold : goal.returns-in-Some-clause-given_untold
returns-in-Some-clause-given_untold g c =
    let keys = c.args.keys.now.keys in
    let ad = c.args.ad.now in
    let chose : Chosen keys ad c.read_all.new.out c.size-size.result c.in-Some.begun = subst (λ (l : List StreamKey). Chosen l ad c.read_all.new.out c.size-size.result c.in-Some.begun) c.keys.ensures.keys c.in-Some.ensures in
    let key = cipher_of ad chose.key in
    let all : AllByRecursion (λ (k : StreamKey). k.segment ≤ largest_of keys) keys = subst (λ (l : List StreamKey). AllByRecursion (λ (k : StreamKey). k.segment ≤ largest_of keys) l) c.keys.ensures.keys c.keys.ensures.within in
    let within = holds_of {X = StreamKey} (λ (k : StreamKey). k.segment ≤ largest_of keys) keys chose.key all chose.among in (
      covering key c.args.from c.args.to,
      inr (key, contains_map (cipher_of ad) keys chose.key chose.among, refl),
      given_all (g.V.Device.state c.args.device.now).given (g.V.Device.state c.read_all.new.device).given (g.V.Device.state c.open_begun.new.device).given (length c.args.buffer.now) chose.key.segment (largest_of keys) (covering key c.args.from c.args.to)
          c.in-Ok.ensures.given (omega (arith, c.requires.fits)) (c.open_begun.ensures.given key chose.sizes) within,
    )
