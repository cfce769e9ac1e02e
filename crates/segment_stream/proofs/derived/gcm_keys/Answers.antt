use Rattle.std.proofs.lemmas.List.{length-take-le}
use Rattle.segment_stream.proofs.SegmentLemmas.{at_most, gcm_under}
use Rattle.segment_stream.proofs.derived.gcm_keys.Goals as goal

pub returns : goal.returns
returns c =
    gcm_under c.args.key.now c.args.ad.now c.args.salt.now c.derive.new.out c.in-Ok.gcm _
    c.in-Ok.ensures.key c.derive.ensures
    (length-take-le c.args.key.now.derived _ (at_most c.args.key.now.derived c.requires))
