-- What the kinds of AEAD that encrypt first, and make a tag over what they encrypted, do under a key.
--
--   IsSound         a tag isn't longer than what it is cut from
--   IsUnder         the HMAC is under this hash function and key, before any message
--   tag_size_of     the bytes of a tag
--   start_under     the block from which counter mode begins
--   crypt_under     the ciphertext of IV and plaintext, and the plaintext of IV and ciphertext
--   tag_under       the tag of IV, associated data and ciphertext
use Rattle.std.specs.Prelude.{⊤, ◌≤◌, ℕ, List, []}
use Rattle.mac_prf.specs.HmacState.{hash_of, Holds}
use Rattle.tink_base.specs.declared.hash.Hash.{Hash}
use Rattle.tink_base.specs.Hash.{hash_size}
use Rattle.aead_kinds.specs.CtrHmac.{ctr_hmac_tag, ctr_hmac_text, first_counter}
use Rattle.aead_kinds.specs.Eax.{eax_tag, eax_text, omac}
use Rattle.aead_kinds.specs.declared.scheme.Scheme.{Scheme}
use Rattle.aead_kinds.specs.declared.scheme.Scheme.TheVariants.{CtrHmac, Eax}

-- a tag of HMAC is no longer than a digest
abbrev pub IsSound : Scheme → Type 0
IsSound (Eax key) = ⊤
IsSound (CtrHmac aes keyed tag_size) = tag_size ≤ hash_size (hash_of keyed.now)

-- the HMAC of AES-CTR-HMAC is under this hash function and key, and has no message yet; of EAX, which
-- has none, nothing is said
abbrev pub IsUnder : Scheme → Hash → List ℕ → Type 0
IsUnder (Eax key) hash mac = ⊤
IsUnder (CtrHmac aes keyed tag_size) hash mac = Holds keyed.now hash mac []

-- bytes of a tag
abbrev pub tag_size_of : Scheme → ℕ
tag_size_of (Eax key) = 16
tag_size_of (CtrHmac aes keyed tag_size) = tag_size

-- the first counter block under this IV
abbrev pub start_under : Scheme → List ℕ → List ℕ
start_under (Eax key) iv = omac 0 key.now iv
start_under (CtrHmac aes keyed tag_size) iv = first_counter iv

-- a text enciphered, or deciphered, under this IV
abbrev pub crypt_under : Scheme → List ℕ → List ℕ → List ℕ
crypt_under (Eax key) iv text = eax_text key.now iv text
crypt_under (CtrHmac aes keyed tag_size) iv text = ctr_hmac_text aes.now iv text

-- the tag of IV, associated data and ciphertext; that of AES-CTR-HMAC is under this hash function and
-- key of HMAC
abbrev pub tag_under : Scheme → Hash → List ℕ → List ℕ → List ℕ → List ℕ → List ℕ
tag_under (Eax key) hash mac iv ad text = eax_tag key.now iv ad text
tag_under (CtrHmac aes keyed tag_size) hash mac iv ad text = ctr_hmac_tag hash mac tag_size iv ad text
