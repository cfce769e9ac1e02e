-- What is made of a key once, and kept beside it.
--
--   IsKeyed            an HMAC is under a key, before any message
--   IsHmac, IsCtrHmac  what was made is such an HMAC, alone or beside an expansion
--   IsMadeOf           it is what is made of a key of each kind
--   UsesGcm, gcm_in    the kind that has a hash subkey, and the bytes of its key
--   UsesAes, aes_in    another kind whose AES key is expanded, and the bytes of that key
--   UsesSiv, siv_in    the same of AES-SIV
--   UsesHmac           a kind whose work HMAC does
--   IsHmacOf           that HMAC is under the key of its kind
use Rattle.std.specs.Prelude.{◌≡◌, ℕ, List, []}
use Rattle.key_msgs.specs.declared.key.KeyKind.{KeyKind}
use Rattle.key_msgs.specs.declared.key.KeyKind.TheVariants as kinds
use Rattle.mac_prf.specs.Hkdf.{extract}
use Rattle.mac_prf.specs.HmacState.{hash_of, Holds}
use Rattle.mac_prf.specs.declared.hmac.Hmac.{Hmac}
use Rattle.tink_base.specs.declared.hash.Hash.{Hash}
use Rattle.managers.specs.declared.prepared.Made.{Made}
use Rattle.managers.specs.declared.prepared.Made.TheVariants as made

-- the HMAC is of this hash function, under this key, and has no message yet
abbrev pub IsKeyed : Hmac → Hash → List ℕ → Type 0
IsKeyed state hash key = Holds state hash key [] × (hash_of state ≡ hash)

-- what was made is such an HMAC alone
abbrev pub IsHmac : Hash → List ℕ → Made → Type 0
IsHmac hash key (made.Hmac state) = IsKeyed state hash key
IsHmac hash key _ = ⊥

-- what was made is the expansion of this AES key, and such an HMAC
abbrev pub IsCtrHmac : List ℕ → Hash → List ℕ → Made → Type 0
IsCtrHmac aes hash mac (made.CtrHmac expanded state) = (expanded ≡ aes) × IsKeyed state hash mac
IsCtrHmac aes hash mac _ = ⊥

-- The expansion of the AES key, for AES-GCM with the hash subkey, or of both halves of an AES-SIV key; HMAC under the key, under the key
-- of HMAC beside the expansion, or under HKDF's pseudorandom key (RFC 5869, 2.2); of other keys nothing.
abbrev pub IsMadeOf : KeyKind → Made → Type 0
IsMadeOf (kinds.AesGcm key) m = m ≡ made.Gcm key
IsMadeOf (kinds.AesEax key size) m = m ≡ made.Aes key
IsMadeOf (kinds.AesCtrHmac aes size hash mac tag_size) m = IsCtrHmac aes hash mac m
IsMadeOf (kinds.AesGcmSiv key) m = m ≡ made.Aes key
IsMadeOf (kinds.AesCmac key tag_size) m = m ≡ made.Aes key
IsMadeOf (kinds.CmacPrf key) m = m ≡ made.Aes key
IsMadeOf (kinds.AesSiv key) m = m ≡ made.Siv key
IsMadeOf (kinds.Hmac key hash tag_size) m = IsHmac hash key m
IsMadeOf (kinds.HmacPrf key hash) m = IsHmac hash key m
IsMadeOf (kinds.HkdfPrf key hash salt) m = IsHmac hash (extract hash salt key) m
IsMadeOf _ m = m ≡ made.Nothing

-- the kind is AES-GCM, whose hash subkey is made
abbrev pub UsesGcm : KeyKind → Type 0
UsesGcm (kinds.AesGcm key) = Unit {0}
UsesGcm _ = ⊥

-- the bytes of that key
abbrev pub gcm_in : KeyKind → List ℕ
gcm_in (kinds.AesGcm key) = key
gcm_in _ = []

-- an AES key of the kind is expanded, and has no hash subkey
abbrev pub UsesAes : KeyKind → Type 0
UsesAes (kinds.AesEax key size) = Unit {0}
UsesAes (kinds.AesCtrHmac aes size hash mac tag_size) = Unit {0}
UsesAes (kinds.AesGcmSiv key) = Unit {0}
UsesAes (kinds.AesCmac key tag_size) = Unit {0}
UsesAes (kinds.CmacPrf key) = Unit {0}
UsesAes _ = ⊥

-- the bytes of that key
abbrev pub aes_in : KeyKind → List ℕ
aes_in (kinds.AesEax key size) = key
aes_in (kinds.AesCtrHmac aes size hash mac tag_size) = aes
aes_in (kinds.AesGcmSiv key) = key
aes_in (kinds.AesCmac key tag_size) = key
aes_in (kinds.CmacPrf key) = key
aes_in _ = []

-- an AES-SIV key is expanded
abbrev pub UsesSiv : KeyKind → Type 0
UsesSiv (kinds.AesSiv key) = Unit {0}
UsesSiv _ = ⊥

-- the bytes of that key
abbrev pub siv_in : KeyKind → List ℕ
siv_in (kinds.AesSiv key) = key
siv_in _ = []

-- HMAC does the work of the kind, or a part of it
abbrev pub UsesHmac : KeyKind → Type 0
UsesHmac (kinds.AesCtrHmac aes size hash mac tag_size) = Unit {0}
UsesHmac (kinds.Hmac key hash tag_size) = Unit {0}
UsesHmac (kinds.HmacPrf key hash) = Unit {0}
UsesHmac (kinds.HkdfPrf key hash salt) = Unit {0}
UsesHmac _ = ⊥

-- the HMAC is under the key of HMAC, or the pseudorandom key of HKDF, and has no message yet
abbrev pub IsHmacOf : KeyKind → Hmac → Type 0
IsHmacOf (kinds.AesCtrHmac aes size hash mac tag_size) state = IsKeyed state hash mac
IsHmacOf (kinds.Hmac key hash tag_size) state = IsKeyed state hash key
IsHmacOf (kinds.HmacPrf key hash) state = IsKeyed state hash key
IsHmacOf (kinds.HkdfPrf key hash salt) state = IsKeyed state hash (extract hash salt key)
IsHmacOf _ state = ⊥
