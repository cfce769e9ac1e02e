use Rattle.seal_wrap.proofs.SealedBytes.{sealings_are_bytes}
use Rattle.seal_wrap.proofs.laws.sealings_are_bytes.Goals as goal

pub returns : goal.returns
returns c = sealings_are_bytes (record {
  gcm = c.gcm_seals_bytes.ensures;
  eax = c.eax_seals_bytes.ensures;
  ctr_hmac = c.ctr_hmac_seals_bytes.ensures;
  gcm_siv = c.gcm_siv_seals_bytes.ensures;
})
