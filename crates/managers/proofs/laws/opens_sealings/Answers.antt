use Rattle.managers.proofs.SizeLemmas.{seal_facts}
use Rattle.managers.proofs.laws.opens_sealings.Goals as goal

pub returns : goal.returns
returns c = λ key.
    (seal_facts key).opens (record {
      gcm = c.gcm_opens_sealings.ensures;
      eax = c.eax_opens_sealings.ensures;
      ctr_hmac = c.ctr_hmac_opens_sealings.ensures;
      gcm_siv = c.gcm_siv_opens_sealings.ensures;
    })
