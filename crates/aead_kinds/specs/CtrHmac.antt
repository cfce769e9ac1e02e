-- AES-CTR-HMAC by Tink's wire format, on lists of bytes: counter mode over AES (SP 800-38A), and HMAC
-- (RFC 2104) under a key of its own.
--
--   first_counter    the counter at which counter mode begins
--   ctr_hmac_text    the ciphertext of a plaintext, and the plaintext of a ciphertext
--   ctr_hmac_tag     the tag of IV, associated data and ciphertext
--   ctr_hmac_seal    IV, ciphertext and tag, joined
--   ctr_hmac_open    the plaintext of those bytes, or none
use Rattle.std.specs.Prelude.{ℕ, ◌-◌, ◌*◌, Option, List, ◌++◌, length, take, replicate}
use Rattle.std.specs.Int.{w64, to_be_bytes}
use Rattle.aes_core.specs.Counter.{ctr}
use Rattle.aes_core.specs.declared.counter.CtrKind.TheVariants.{All128}
use Rattle.mac_prf.specs.Hmac.{hmac}
use Rattle.tink_base.specs.declared.hash.Hash.{Hash}
use Rattle.aead_kinds.specs.EncryptThenTag.{opened_by, sealed_by}

-- the IV, with zeros after it up to a block
abbrev pub first_counter : List ℕ → List ℕ
first_counter iv = iv ++ replicate (16 - length iv) 0

-- counter mode from there, where all 128 bits count
unfoldable pub ctr_hmac_text : List ℕ → List ℕ → List ℕ → List ℕ
ctr_hmac_text aes iv text = ctr aes (first_counter iv) All128 text

-- what is authenticated: associated data, IV, ciphertext, and the length of the associated data, in
-- bits and in 64 of them
abbrev pub authenticated : List ℕ → List ℕ → List ℕ → List ℕ
authenticated iv ad text = ad ++ iv ++ text ++ to_be_bytes w64 (8 * length ad)

-- the first bytes of HMAC, as many as the tag has
unfoldable pub ctr_hmac_tag : Hash → List ℕ → ℕ → List ℕ → List ℕ → List ℕ → List ℕ
ctr_hmac_tag hash mac tag_size iv ad text = take tag_size (hmac hash mac (authenticated iv ad text))

-- the IV, the ciphertext of the plaintext, and the tag, joined
unfoldable pub ctr_hmac_seal : List ℕ → Hash → List ℕ → ℕ → List ℕ → List ℕ → List ℕ → List ℕ
ctr_hmac_seal aes hash mac tag_size iv plain ad =
    sealed_by (ctr_hmac_text aes) (ctr_hmac_tag hash mac tag_size) iv plain ad

-- the plaintext of such bytes, which have an IV of that size at their front; none where the tag isn't
-- the right one
unfoldable pub ctr_hmac_open : List ℕ → ℕ → Hash → List ℕ → ℕ → List ℕ → List ℕ → Option (List ℕ)
ctr_hmac_open aes iv_size hash mac tag_size bytes ad =
    opened_by (ctr_hmac_text aes) (ctr_hmac_tag hash mac tag_size) iv_size tag_size bytes ad
