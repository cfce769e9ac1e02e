-- What the keys of each kind give, by one case for each kind, which is that standard's own
-- definition. All are total: a key that isn't for that use gives the empty list, none or 0.
--
--   iv_size        the bytes of an IV
--   sealed_size    the bytes of IV, ciphertext and tag
--   seal_of        IV, ciphertext and tag, joined
--   open_key       the plaintext of those bytes, or none where they aren't authentic
--   dseal_of       the same two, deterministic: without an IV
--   dopen_key
--   tag_size_of    the bytes of a tag
--   tag_of         the tag of a message
--   tagged         the message of a body, which a byte 0 may follow
--   prf_of         as many bytes of the pseudo-random function as are asked for
--   greatest       how many there are
use Rattle.std.specs.Prelude.{ℕ, ◌+◌, ◌*◌, Option, None, Bool, true, false, List, [], ◌∷◌, ◌++◌, take}
use Rattle.aead_kinds.specs.CtrHmac.{ctr_hmac_open, ctr_hmac_seal}
use Rattle.aead_kinds.specs.Eax.{eax_open, eax_seal}
use Rattle.aead_kinds.specs.Gcm.{gcm_open, gcm_seal}
use Rattle.aead_kinds.specs.GcmSiv.{gcm_siv_open, gcm_siv_seal}
use Rattle.key_msgs.specs.declared.key.KeyKind.{KeyKind}
use Rattle.key_msgs.specs.declared.key.KeyKind.TheVariants as kinds
use Rattle.mac_prf.specs.Cmac.{cmac}
use Rattle.mac_prf.specs.Hkdf.{hkdf}
use Rattle.mac_prf.specs.Hmac.{hmac}
use Rattle.siv_daead.specs.Siv.{siv_open, siv_seal}
use Rattle.tink_base.specs.Hash.{hash_size}

-- 12 bytes under AES-GCM and AES-GCM-SIV, and else as many as the key says
abbrev pub iv_size : KeyKind → ℕ
iv_size (kinds.AesGcm key) = 12
iv_size (kinds.AesEax key size) = size
iv_size (kinds.AesCtrHmac aes size hash mac tag_size) = size
iv_size (kinds.AesGcmSiv key) = 12
iv_size _ = 0

-- those of an IV, of a plaintext of that many bytes, and of a tag; none under a key of another primitive
abbrev pub sealed_size : KeyKind → ℕ → ℕ
sealed_size (kinds.AesGcm key) n = 12 + n + 16
sealed_size (kinds.AesEax key size) n = size + n + 16
sealed_size (kinds.AesCtrHmac aes size hash mac tag_size) n = size + n + tag_size
sealed_size (kinds.AesGcmSiv key) n = 12 + n + 16
sealed_size _ n = 0

-- AES-GCM (SP 800-38D), EAX, AES-CTR-HMAC by Tink's wire format, and AES-GCM-SIV (RFC 8452), of IV,
-- plaintext and associated data
abbrev pub seal_of : KeyKind → List ℕ → List ℕ → List ℕ → List ℕ
seal_of (kinds.AesGcm key) iv plain ad = gcm_seal key iv plain ad
seal_of (kinds.AesEax key size) iv plain ad = eax_seal key iv plain ad
seal_of (kinds.AesCtrHmac aes size hash mac tag_size) iv plain ad =
    ctr_hmac_seal aes hash mac tag_size iv plain ad
seal_of (kinds.AesGcmSiv key) iv plain ad = gcm_siv_seal key iv plain ad
seal_of _ iv plain ad = []

-- what an AEAD key opens bytes to; none under a key of another primitive
abbrev pub open_key : KeyKind → List ℕ → List ℕ → Option (List ℕ)
open_key (kinds.AesGcm key) bytes ad = gcm_open key bytes ad
open_key (kinds.AesEax key size) bytes ad = eax_open key size bytes ad
open_key (kinds.AesCtrHmac aes size hash mac tag_size) bytes ad =
    ctr_hmac_open aes size hash mac tag_size bytes ad
open_key (kinds.AesGcmSiv key) bytes ad = gcm_siv_open key bytes ad
open_key _ bytes ad = None

-- AES-SIV (RFC 5297) with one associated datum
abbrev pub dseal_of : KeyKind → List ℕ → List ℕ → List ℕ
dseal_of (kinds.AesSiv key) plain ad = siv_seal key plain ad
dseal_of _ plain ad = []

-- what an AES-SIV key opens bytes to; none under any other key
abbrev pub dopen_key : KeyKind → List ℕ → List ℕ → Option (List ℕ)
dopen_key (kinds.AesSiv key) bytes ad = siv_open key bytes ad
dopen_key _ bytes ad = None

-- as many bytes as the key says
abbrev pub tag_size_of : KeyKind → ℕ
tag_size_of (kinds.Hmac key hash tag_size) = tag_size
tag_size_of (kinds.AesCmac key tag_size) = tag_size
tag_size_of _ = 0

-- the first bytes of HMAC (RFC 2104), and of CMAC (SP 800-38B), as many as the key says
abbrev pub tag_of : KeyKind → List ℕ → List ℕ
tag_of (kinds.Hmac key hash tag_size) m = take tag_size (hmac hash key m)
tag_of (kinds.AesCmac key tag_size) m = take tag_size (cmac key m)
tag_of _ m = []

-- the body, and one byte 0 behind it where that is asked for, as keys of prefix type LEGACY have it
abbrev pub tagged : Bool → List ℕ → List ℕ
tagged true body = body ++ 0 ∷ []
tagged false body = body

-- HKDF (RFC 5869) with the input as its info; the first bytes of HMAC; the first bytes of CMAC
abbrev pub prf_of : KeyKind → List ℕ → ℕ → List ℕ
prf_of (kinds.HkdfPrf key hash salt) input n = hkdf hash key salt input n
prf_of (kinds.HmacPrf key hash) input n = take n (hmac hash key input)
prf_of (kinds.CmacPrf key) input n = take n (cmac key input)
prf_of _ input n = []

-- 255 digests (RFC 5869, 2.3), one digest, and one block
abbrev pub greatest : KeyKind → ℕ
greatest (kinds.HkdfPrf key hash salt) = 255 * hash_size hash
greatest (kinds.HmacPrf key hash) = hash_size hash
greatest (kinds.CmacPrf key) = 16
greatest _ = 0
