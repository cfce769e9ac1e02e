-- What a key of each kind of AEAD gives, by one case for each kind. What stands in a case is that
-- kind's own definition, of the file that is named after it.
--
--   IsFit         the key's sizes are those of its kind
--   IsUnder       its HMAC is under this hash function and key, before any message
--   iv_size_of    the bytes of an IV
--   tag_size_of   the bytes of a tag
--   seal_of       IV, ciphertext and tag, joined, of IV, plaintext and associated data
--   open_key      the plaintext of those bytes, or none where they aren't authentic
use Rattle.std.specs.Prelude.{⊤, ◌≡◌, ◌⊎◌, ◌≤◌, ℕ, Option, List, []}
use Rattle.mac_prf.specs.HmacState.{hash_of, Holds}
use Rattle.tink_base.specs.Hash.{hash_size}
use Rattle.tink_base.specs.declared.hash.Hash.{Hash}
use Rattle.aead_kinds.specs.CtrHmac.{ctr_hmac_open, ctr_hmac_seal}
use Rattle.aead_kinds.specs.Eax.{eax_open, eax_seal}
use Rattle.aead_kinds.specs.Gcm.{gcm_open, gcm_seal}
use Rattle.aead_kinds.specs.declared.aead.AeadKey.{AeadKey}
use Rattle.aead_kinds.specs.declared.aead.AeadKey.TheVariants.{CtrHmac, Eax, Gcm}

-- An expanded AES key is one of 128 or 256 bits. An IV of EAX has 12 or 16 bytes; one of AES-CTR-HMAC
-- 12 to 16, and its tag from 10 up to a digest's.
abbrev pub IsFit : AeadKey → Type 0
IsFit (Gcm key) = ⊤
IsFit (Eax key iv_size) = (iv_size ≡ 12) ⊎ (iv_size ≡ 16)
IsFit (CtrHmac aes iv_size keyed tag_size) =
    (12 ≤ iv_size) × (iv_size ≤ 16) × (10 ≤ tag_size) × (tag_size ≤ hash_size (hash_of keyed.now))

-- the HMAC of AES-CTR-HMAC is under this hash function and key, and has no message yet; of the other
-- kinds, which have none, nothing is said
abbrev pub IsUnder : AeadKey → Hash → List ℕ → Type 0
IsUnder (Gcm key) hash mac = ⊤
IsUnder (Eax key iv_size) hash mac = ⊤
IsUnder (CtrHmac aes iv_size keyed tag_size) hash mac = Holds keyed.now hash mac []

-- bytes of an IV: 12 for GCM, as the key says for the others
abbrev pub iv_size_of : AeadKey → ℕ
iv_size_of (Gcm key) = 12
iv_size_of (Eax key iv_size) = iv_size
iv_size_of (CtrHmac aes iv_size keyed tag_size) = iv_size

-- bytes of a tag: 16, but for AES-CTR-HMAC, as the key says
abbrev pub tag_size_of : AeadKey → ℕ
tag_size_of (Gcm key) = 16
tag_size_of (Eax key iv_size) = 16
tag_size_of (CtrHmac aes iv_size keyed tag_size) = tag_size

-- IV, ciphertext and tag of a plaintext and associated data, by the kind of the key; that of
-- AES-CTR-HMAC is under this hash function and key of HMAC
abbrev pub seal_of : AeadKey → Hash → List ℕ → List ℕ → List ℕ → List ℕ → List ℕ
seal_of (Gcm key) hash mac iv plain ad = gcm_seal key.now iv plain ad
seal_of (Eax key iv_size) hash mac iv plain ad = eax_seal key.now iv plain ad
seal_of (CtrHmac aes iv_size keyed tag_size) hash mac iv plain ad =
    ctr_hmac_seal aes.now hash mac tag_size iv plain ad

-- the plaintext of what `seal_of` gives, by the kind of the key; none where the tag isn't right
abbrev pub open_key : AeadKey → Hash → List ℕ → List ℕ → List ℕ → Option (List ℕ)
open_key (Gcm key) hash mac bytes ad = gcm_open key.now bytes ad
open_key (Eax key iv_size) hash mac bytes ad = eax_open key.now iv_size bytes ad
open_key (CtrHmac aes iv_size keyed tag_size) hash mac bytes ad =
    ctr_hmac_open aes.now iv_size hash mac tag_size bytes ad
