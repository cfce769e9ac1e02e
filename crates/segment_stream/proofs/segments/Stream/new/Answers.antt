use Rattle.std.proofs.Common.{◌≡◌, ◌+◌, ◌-◌, ◌∙◌, ap, arith, drop, take}
use Rattle.std.proofs.lemmas.List.{length-drop, take_all}
use Rattle.segment_stream.specs.Segments.{keys_under}
use Rattle.segment_stream.proofs.SegmentLemmas.{derived_under}
use Rattle.segment_stream.proofs.segments.Stream.new.Goals as goal

pub returns : goal.returns
returns c =
    let key = c.args.key.now in
    let header = c.args.header.now in
    let salt : (key.derived + 1) - 1 ≡ key.derived = omega arith in
    derived_under key c.args.ad.now header c.copy_from_slice.new.self c.keys_under-keys.result
    c.requires.sound c.requires.whole
    (c.keys_under-keys.ensures.keys
    ∙ ap (λ n. keys_under key.scheme key c.args.ad.now (take n (drop 1 header))) salt)
    (c.copy_from_slice.ensures.after
    ∙ take_all _ _ (omega (arith, length-drop (key.derived + 1) header)))
