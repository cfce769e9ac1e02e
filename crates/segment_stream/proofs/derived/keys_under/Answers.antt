use Rattle.std.proofs.Common.{subst}
use Rattle.segment_stream.specs.Segments.{HasTag}
use Rattle.segment_stream.specs.declared.key.SegmentScheme.{SegmentScheme}
use Rattle.segment_stream.specs.declared.key.SegmentScheme.TheVariants as schemes
use Rattle.segment_stream.proofs.SegmentLemmas.{fits_under}
use Rattle.segment_stream.proofs.derived.keys_under.Goals as goal

pub returns-in-Gcm-clause-fits : goal.returns-in-Gcm-clause-fits
returns-in-Gcm-clause-fits c =
    fits_under schemes.Gcm c.args.key.now c.args.ad.now c.args.salt.now c.gcm_keys.result tt
    c.gcm_keys.ensures

pub returns-in-CtrHmac-clause-fits : goal.returns-in-CtrHmac-clause-fits
returns-in-CtrHmac-clause-fits c =
    let k = c.in-CtrHmac in
    fits_under (schemes.CtrHmac k.hash k.tag_size) c.args.key.now c.args.ad.now c.args.salt.now
    c.ctr_hmac_keys.result (subst (λ (s : SegmentScheme). HasTag s) k.is c.requires.tag)
    c.ctr_hmac_keys.ensures
