use Rattle.aead_kinds.proofs.GcmSivLemmas.{bytes-gcm_siv_seal, length-gcm_siv_seal}
use Rattle.aead_kinds.proofs.laws.gcm_siv_seals_bytes.Goals as goal

pub returns : goal.returns
returns c = λ key iv plain ad k i p.
    (length-gcm_siv_seal key iv plain ad, bytes-gcm_siv_seal key iv plain ad k i p)
