use Rattle.std.proofs.Common.{◌+◌, ◌∙◌, arith}
use Rattle.std.proofs.lemmas.List.{length-drop, length-take-le, take_all}
use Rattle.segment_stream.proofs.SegmentLemmas.{at_most, ctr_hmac_under}
use Rattle.segment_stream.proofs.derived.ctr_hmac_keys.Goals as goal

pub returns : goal.returns
returns c =
    ctr_hmac_under c.args.key.now c.args.hash c.args.tag_size c.args.ad.now c.args.salt.now
    c.derive.new.out c.expanded.result c.copy_from_slice.new.self _ c.expanded.ensures
    (c.copy_from_slice.ensures.after
    ∙ take_all _ _ (omega (arith, length-drop c.args.key.now.derived c.derive.new.out)))
    c.derive.ensures
    (length-take-le (c.args.key.now.derived + 32) _
    (omega (arith, at_most c.args.key.now.derived c.requires)))
