-- What has to unfold so that a value of literals computes.
use Rattle.std.specs.Prelude.{⊤}
use Rattle.ghash.specs.Field.{shifted_factor, partial_product, prod}
use Rattle.ghash.specs.Ghash.{power, ghash, running_value, padded_block, padded_blocks}
use Rattle.aes_core.specs.Counter.{ctr_on_literals}
use Rattle.aead_kinds.specs.CtrHmac.{ctr_hmac_open, ctr_hmac_seal, ctr_hmac_tag, ctr_hmac_text}
use Rattle.aead_kinds.specs.Eax.{eax_open, eax_seal, eax_tag, eax_text, omac}
use Rattle.aead_kinds.specs.EncryptThenTag.{opened_by, sealed_by}
use Rattle.aead_kinds.specs.Gcm.{hash_subkey, hashed, gcm_text, gcm_tag, gcm_seal, gcm_open}
use Rattle.aes_core.specs.Chain.{whole_blocks}
use Rattle.aead_kinds.specs.GcmSiv.{authentication_key, derived_half, encryption_key, gcm_siv_open, gcm_siv_seal, gcm_siv_tag, gcm_siv_text}
use Rattle.aead_kinds.specs.GcmSiv as gcm_siv
use Rattle.aead_kinds.specs.Polyval as polyval
use Rattle.siv_daead.specs.Siv.{datum_block, mac_text, s2v, siv_text, siv_seal, siv_open}
use Rattle.sha1.specs.Sha1 as sha1
use Rattle.sha2.specs.Sha256 as sha256
use Rattle.sha2.specs.Sha512 as sha512
use Rattle.mac_prf.specs.Hmac.{hmac}
use Rattle.aes_core.specs.Aes.{aes_on_literals}
use Rattle.aes_core.specs.Bytes.{xor_bytes}
use Rattle.mac_prf.specs.Cmac.{chain, cmac}
use Rattle.mac_prf.specs.Hkdf.{block, blocks, expand}

-- a product or a GHASH
unfoldable pub ghash_on_literals : ⊤
unfolding shifted_factor partial_product prod power ghash running_value padded_block padded_blocks
ghash_on_literals = tt

-- a tag of CMAC
unfoldable pub cmac_on_literals : ⊤
unfolding aes_on_literals xor_bytes chain cmac
cmac_on_literals = tt

-- a tag of HMAC
unfoldable pub hmac_on_literals : ⊤
unfolding hmac
    sha1.first_words sha1.schedule sha1.rounds sha1.compress sha1.hash_after sha1.digest_bytes
    sha256.first_words sha256.schedule sha256.rounds sha256.compress sha256.hash_after
    sha256.digest_bytes
    sha512.first_words sha512.schedule sha512.rounds sha512.compress sha512.hash_after
    sha512.digest_bytes
    sha1.sha1 sha256.sha224 sha256.sha256 sha512.sha384 sha512.sha512
hmac_on_literals = tt

-- bytes of HKDF
unfoldable pub hkdf_on_literals : ⊤
unfolding hmac_on_literals block blocks expand
hkdf_on_literals = tt

-- AES-GCM
unfoldable pub gcm_on_literals : ⊤
unfolding
    ctr_on_literals ghash_on_literals hash_subkey hashed gcm_text gcm_tag gcm_seal gcm_open
gcm_on_literals = tt

-- EAX
unfoldable pub eax_on_literals : ⊤
unfolding
    ctr_on_literals cmac_on_literals sealed_by opened_by omac eax_text eax_tag eax_seal eax_open
eax_on_literals = tt

-- AES-CTR-HMAC
unfoldable pub ctr_hmac_on_literals : ⊤
unfolding
    ctr_on_literals hmac_on_literals sealed_by opened_by ctr_hmac_text ctr_hmac_tag ctr_hmac_seal
    ctr_hmac_open
ctr_hmac_on_literals = tt

-- AES-SIV
unfoldable pub siv_on_literals : ⊤
unfolding
    ctr_on_literals cmac_on_literals datum_block mac_text s2v siv_text siv_seal siv_open
siv_on_literals = tt

-- POLYVAL in both forms
unfoldable pub polyval_on_literals : ⊤
unfolding
    ghash_on_literals polyval.polyval polyval.shifted polyval.partial_product polyval.product
    polyval.dot polyval.accumulated polyval.polyval_by_dot
polyval_on_literals = tt

-- AES-GCM-SIV
unfoldable pub gcm_siv_on_literals : ⊤
unfolding
    ctr_on_literals whole_blocks polyval_on_literals derived_half authentication_key encryption_key
    gcm_siv.hashed gcm_siv_tag gcm_siv_text gcm_siv_seal gcm_siv_open
gcm_siv_on_literals = tt
