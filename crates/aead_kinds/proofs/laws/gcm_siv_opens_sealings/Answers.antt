use Rattle.aead_kinds.proofs.GcmSivLemmas.{opened-sealed, sealed_under_first}
use Rattle.aead_kinds.proofs.laws.gcm_siv_opens_sealings.Goals as goal

pub returns : goal.returns
returns c = λ key bytes plain ad.
    (opened-sealed key bytes plain ad, sealed_under_first key bytes plain ad)
