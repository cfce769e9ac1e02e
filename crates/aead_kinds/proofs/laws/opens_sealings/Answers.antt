use Rattle.std.proofs.Common.{◌≡◌, ◌↔◌, Some, List, ℕ, take}
use Rattle.aead_kinds.specs.Aead.{iv_size_of, open_key, seal_of}
use Rattle.aead_kinds.specs.Laws.{HasTag}
use Rattle.tink_base.specs.declared.hash.Hash.{Hash}
use Rattle.aead_kinds.specs.declared.aead.AeadKey.{AeadKey}
use Rattle.aead_kinds.specs.declared.aead.AeadKey.TheVariants.{CtrHmac, Eax, Gcm}
use Rattle.aead_kinds.proofs.CtrHmacLemmas.{ctr_hmac-opened, ctr_hmac-opens}
use Rattle.aead_kinds.proofs.EaxLemmas.{eax-opened, eax-opens}
use Rattle.aead_kinds.proofs.GcmLemmas.{opened-sealed, sealed_under_first}
use Rattle.aead_kinds.proofs.laws.opens_sealings.Goals as goal

under_each : (key : AeadKey) (hash : Hash) (mac bytes plain ad : List ℕ) → HasTag key hash
    → open_key key hash mac bytes ad ≡ Some plain
    ↔ bytes ≡ seal_of key hash mac (take (iv_size_of key) bytes) plain ad
under_each (Gcm key) hash mac bytes plain ad h =
    (opened-sealed key.now bytes plain ad, sealed_under_first key.now bytes plain ad)
under_each (Eax key v) hash mac bytes plain ad h =
    (eax-opened key.now v bytes plain ad, eax-opens key.now v bytes plain ad)
under_each (CtrHmac aes v keyed t) hash mac bytes plain ad h = (
  ctr_hmac-opened aes.now v hash mac t bytes plain ad h.0 h.1,
  ctr_hmac-opens aes.now v hash mac t bytes plain ad h.0 h.1,
)

pub returns : goal.returns
returns c = under_each
