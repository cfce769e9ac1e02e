use Rattle.aead_kinds.proofs.CtrHmacLemmas.{ctr_hmac-opened, ctr_hmac-opens}
use Rattle.aead_kinds.proofs.laws.ctr_hmac_opens_sealings.Goals as goal

pub returns : goal.returns
returns c =
    λ aes v hash mac t bytes plain ad some within. (
      ctr_hmac-opened aes v hash mac t bytes plain ad some within,
      ctr_hmac-opens aes v hash mac t bytes plain ad some within,
    )
