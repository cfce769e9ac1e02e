-- The laws of sealing and opening, over the definitions alone.
use Rattle.std.specs.Prelude.{⊤, ◌≡◌, ◌↔◌, ℕ, ◌+◌, ◌≤◌, Some, List, length, take}
use Rattle.aes_core.specs.Bytes.{IsBytes}
use Rattle.aead_kinds.specs.Aead.{iv_size_of, open_key, seal_of}
use Rattle.tink_base.specs.Hash.{hash_size}
use Rattle.tink_base.specs.declared.hash.Hash.{Hash}
use Rattle.aead_kinds.specs.CtrHmac.{ctr_hmac_open, ctr_hmac_seal}
use Rattle.aead_kinds.specs.Eax.{eax_open, eax_seal}
use Rattle.aead_kinds.specs.Gcm.{gcm_open, gcm_seal}
use Rattle.aead_kinds.specs.declared.aead.AeadKey.{AeadKey}
use Rattle.aead_kinds.specs.declared.aead.AeadKey.TheVariants.{CtrHmac, Eax, Gcm}

-- the tag has at least a byte, and is no longer than what it is cut from under this hash function
abbrev pub HasTag : AeadKey → Hash → Type 0
HasTag (Gcm key) hash = ⊤
HasTag (Eax key iv_size) hash = ⊤
HasTag (CtrHmac aes iv_size keyed tag_size) hash = (1 ≤ tag_size) × (tag_size ≤ hash_size hash)

-- under a key of any kind, and any hash function and key of HMAC, bytes open to a plaintext exactly
-- where they are its sealing under the IV at their own front
abbrev pub OpensSealings : Type 0
OpensSealings = (key : AeadKey) (hash : Hash) (mac bytes plain ad : List ℕ) → HasTag key hash
    → open_key key hash mac bytes ad ≡ Some plain
    ↔ bytes ≡ seal_of key hash mac (take (iv_size_of key) bytes) plain ad

-- the same of AES-GCM, whose IV has 12 bytes
abbrev pub GcmOpensSealings : Type 0
GcmOpensSealings = (key bytes plain ad : List ℕ)
    → gcm_open key bytes ad ≡ Some plain ↔ bytes ≡ gcm_seal key (take 12 bytes) plain ad

-- sealed bytes are bytes, and 16 more than IV and plaintext have
abbrev pub GcmSealsBytes : Type 0
GcmSealsBytes = (key iv plain ad : List ℕ) → IsBytes key → IsBytes iv → IsBytes plain
    → (length (gcm_seal key iv plain ad) ≡ length iv + length plain + 16)
    × IsBytes (gcm_seal key iv plain ad)

-- the same two of EAX, whose IV has the size that the key gives, in bytes
abbrev pub EaxOpensSealings : Type 0
EaxOpensSealings = (key : List ℕ) (iv_size : ℕ) (bytes plain ad : List ℕ)
    → eax_open key iv_size bytes ad ≡ Some plain
    ↔ bytes ≡ eax_seal key (take iv_size bytes) plain ad

-- A sealing of EAX has the lengths of IV and plaintext and 16 bytes of tag, and is made of bytes.
abbrev pub EaxSealsBytes : Type 0
EaxSealsBytes = (key iv plain ad : List ℕ) → IsBytes key → IsBytes iv → IsBytes plain
    → (length (eax_seal key iv plain ad) ≡ length iv + length plain + 16)
    × IsBytes (eax_seal key iv plain ad)

-- the same two of AES-CTR-HMAC, whose tag has at least a byte and at most a digest's
abbrev pub CtrHmacOpensSealings : Type 0
CtrHmacOpensSealings = (aes : List ℕ) (iv_size : ℕ) (hash : Hash) (mac : List ℕ) (tag_size : ℕ)
    (bytes plain ad : List ℕ) → 1 ≤ tag_size → tag_size ≤ hash_size hash
    → ctr_hmac_open aes iv_size hash mac tag_size bytes ad ≡ Some plain
    ↔ bytes ≡ ctr_hmac_seal aes hash mac tag_size (take iv_size bytes) plain ad

-- A sealing of AES-CTR-HMAC has the lengths of IV, plaintext and tag, and is made of bytes.
abbrev pub CtrHmacSealsBytes : Type 0
CtrHmacSealsBytes = (aes : List ℕ) (hash : Hash) (mac : List ℕ) (tag_size : ℕ)
    (iv plain ad : List ℕ) → 1 ≤ tag_size → tag_size ≤ hash_size hash
    → IsBytes aes → IsBytes iv → IsBytes plain
    → (length (ctr_hmac_seal aes hash mac tag_size iv plain ad) ≡ length iv + length plain + tag_size)
    × IsBytes (ctr_hmac_seal aes hash mac tag_size iv plain ad)
