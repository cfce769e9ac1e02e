use Rattle.aead_kinds.proofs.GcmLemmas.{bytes-gcm_seal, length-gcm_seal}
use Rattle.aead_kinds.proofs.laws.gcm_seals_bytes.Goals as goal

pub returns : goal.returns
returns c =
    λ key iv plain ad k i p. (length-gcm_seal key iv plain ad, bytes-gcm_seal key iv plain ad k i p)
