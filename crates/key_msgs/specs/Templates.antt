-- The templates, in the order in which they are listed, and the keys that they make.
--
--   templates        the table: name, output prefix type, and what is made
--   made             the key of a template and its random bytes
--   MadeKeysAreValid   it keeps every rule
--   is_asymmetric    a name of Tink's templates for asymmetric keys
use Rattle.std.specs.Prelude.{◌≡◌, Result, Ok, Err, ℕ, ◌+◌, List, [], ◌∷◌, length, take, drop, Bool, true, false, ◌||◌, Option, Some, None, find, get_or, codes}
use Rattle.std.specs.List.{AllByRecursion}
use Rattle.std.specs.Str.{bytes_eq}
use Rattle.tink_base.specs.declared.hash.Hash.TheVariants.{Sha256, Sha512}
use Rattle.key_msgs.specs.declared.key.KeyKind.{KeyKind}
use Rattle.key_msgs.specs.declared.key.KeyKind.TheVariants as kinds
use Rattle.key_msgs.specs.declared.key_type.KeyType.{KeyType}
use Rattle.key_msgs.specs.declared.template.Recipe.{Recipe}
use Rattle.key_msgs.specs.declared.template.Recipe.TheVariants.{Gcm, Eax, CtrHmac, Siv, Hmac, Cmac, HkdfPrf, HmacPrf, CmacPrf, GcmStream, CtrStream, GcmSiv}
use Rattle.key_msgs.specs.declared.template.Template.{Template}
use Rattle.key_msgs.specs.declared.template.TemplateRow.{TemplateRow}
use Rattle.key_msgs.specs.declared.template.TemplateFault.{TemplateFault}
use Rattle.key_msgs.specs.declared.template.TemplateFault.TheVariants as faults
use Rattle.key_msgs.specs.Keys.{type_of, IsValid}

-- a template: its name, the output prefix type of its keys, and what is made
pub record Row : Type 0 where
  pub name : List ℕ
  -- TINK is 1 and RAW 3
  pub prefix : ℕ
  pub recipe : Recipe

-- a template whose keys have a prefix of TINK's kind
abbrev pub tink : List ℕ → Recipe → Row
tink name recipe = record { name = name; prefix = 1; recipe = recipe }

-- a template whose keys have no prefix
abbrev pub raw : List ℕ → Recipe → Row
raw name recipe = record { name = name; prefix = 3; recipe = recipe }

-- the thirty-six templates, in the order in which they are listed
abbrev pub templates : List Row
templates =
    tink (codes "AES128_GCM") (Gcm 16)
    ∷ raw (codes "AES128_GCM_RAW") (Gcm 16)
    ∷ tink (codes "AES256_GCM") (Gcm 32)
    ∷ raw (codes "AES256_GCM_RAW") (Gcm 32)
    ∷ tink (codes "AES128_EAX") (Eax 16)
    ∷ raw (codes "AES128_EAX_RAW") (Eax 16)
    ∷ tink (codes "AES256_EAX") (Eax 32)
    ∷ raw (codes "AES256_EAX_RAW") (Eax 32)
    ∷ tink (codes "AES128_CTR_HMAC_SHA256") (CtrHmac 16 16)
    ∷ raw (codes "AES128_CTR_HMAC_SHA256_RAW") (CtrHmac 16 16)
    ∷ tink (codes "AES256_CTR_HMAC_SHA256") (CtrHmac 32 32)
    ∷ raw (codes "AES256_CTR_HMAC_SHA256_RAW") (CtrHmac 32 32)
    ∷ tink (codes "AES256_SIV") Siv
    ∷ raw (codes "AES256_SIV_RAW") Siv
    ∷ tink (codes "HMAC_SHA256_128BITTAG") (Hmac 32 Sha256 16)
    ∷ tink (codes "HMAC_SHA256_256BITTAG") (Hmac 32 Sha256 32)
    ∷ tink (codes "HMAC_SHA512_128BITTAG") (Hmac 64 Sha512 16)
    ∷ tink (codes "HMAC_SHA512_256BITTAG") (Hmac 64 Sha512 32)
    ∷ tink (codes "HMAC_SHA512_512BITTAG") (Hmac 64 Sha512 64)
    ∷ tink (codes "AES256_CMAC") Cmac
    ∷ raw (codes "HKDF_SHA256") HkdfPrf
    ∷ raw (codes "HMAC_SHA256_PRF") (HmacPrf 32 Sha256)
    ∷ raw (codes "HMAC_SHA512_PRF") (HmacPrf 64 Sha512)
    ∷ raw (codes "AES_CMAC_PRF") CmacPrf
    ∷ raw (codes "AES128_GCM_HKDF_4KB") (GcmStream 16 4096)
    ∷ raw (codes "AES128_GCM_HKDF_1MB") (GcmStream 16 1048576)
    ∷ raw (codes "AES256_GCM_HKDF_4KB") (GcmStream 32 4096)
    ∷ raw (codes "AES256_GCM_HKDF_1MB") (GcmStream 32 1048576)
    ∷ raw (codes "AES128_CTR_HMAC_SHA256_4KB") (CtrStream 16 4096)
    ∷ raw (codes "AES128_CTR_HMAC_SHA256_1MB") (CtrStream 16 1048576)
    ∷ raw (codes "AES256_CTR_HMAC_SHA256_4KB") (CtrStream 32 4096)
    ∷ raw (codes "AES256_CTR_HMAC_SHA256_1MB") (CtrStream 32 1048576)
    ∷ tink (codes "AES128_GCM_SIV") (GcmSiv 16)
    ∷ raw (codes "AES128_GCM_SIV_RAW") (GcmSiv 16)
    ∷ tink (codes "AES256_GCM_SIV") (GcmSiv 32)
    ∷ raw (codes "AES256_GCM_SIV_RAW") (GcmSiv 32)
    ∷ []

-- the row of the table that a template is, by its place
abbrev pub seen : Template → Row
seen template = get_or templates template (tink [] Siv)

-- what the code's row stands for
abbrev pub seen_row : TemplateRow → Row
seen_row row = record { name = row.name.now; prefix = row.prefix; recipe = row.recipe }

-- the key of these random bytes; an AES-CTR key comes before its HMAC key
abbrev pub made_by : Recipe → List ℕ → KeyKind
made_by (Gcm size) random = kinds.AesGcm random
made_by (Eax size) random = kinds.AesEax random 16
made_by (CtrHmac size tag) random = kinds.AesCtrHmac (take size random) 16 Sha256 (drop size random) tag
made_by Siv random = kinds.AesSiv random
made_by (Hmac size hash tag) random = kinds.Hmac random hash tag
made_by Cmac random = kinds.AesCmac random 16
made_by HkdfPrf random = kinds.HkdfPrf random Sha256 []
made_by (HmacPrf size hash) random = kinds.HmacPrf random hash
made_by CmacPrf random = kinds.CmacPrf random
made_by (GcmStream size segment) random = kinds.GcmStream random segment size Sha256
made_by (CtrStream size segment) random = kinds.CtrStream random segment size Sha256 Sha256 32
made_by (GcmSiv size) random = kinds.AesGcmSiv random

-- the key of a template and its random bytes
abbrev pub made : Row → List ℕ → KeyKind
made row random = made_by row.recipe random

-- the type of the keys that a template makes
abbrev pub type_made : Row → KeyType
type_made row = type_of (made row [])

-- how many random bytes a key takes
abbrev pub random_by : Recipe → ℕ
random_by (Gcm size) = size
random_by (Eax size) = size
random_by (CtrHmac size tag) = size + 32
random_by Siv = 64
random_by (Hmac size hash tag) = size
random_by Cmac = 32
random_by HkdfPrf = 32
random_by (HmacPrf size hash) = size
random_by CmacPrf = 32
random_by (GcmStream size segment) = size
random_by (CtrStream size segment) = size
random_by (GcmSiv size) = size

-- how many random bytes a template's key takes
abbrev pub random_of : Row → ℕ
random_of row = random_by row.recipe

-- a name of Tink's templates for asymmetric keys
abbrev pub is_asymmetric : List ℕ → Bool
is_asymmetric name =
    bytes_eq name (codes "ECDSA_P256")
    || (bytes_eq name (codes "ECDSA_P384")
    || (bytes_eq name (codes "ECDSA_P521")
    || (bytes_eq name (codes "ED25519")
    || (bytes_eq name (codes "ECIES_P256_HKDF_HMAC_SHA256_AES128_GCM")
    || (bytes_eq name (codes "ECIES_P256_HKDF_HMAC_SHA256_AES128_CTR_HMAC_SHA256")
    || (bytes_eq name (codes "RSA_SSA_PKCS1_3072_SHA256_F4")
    || (bytes_eq name (codes "RSA_SSA_PKCS1_4096_SHA512_F4")
    || (bytes_eq name (codes "RSA_SSA_PSS_3072_SHA256_SHA256_32_F4")
    || bytes_eq name (codes "RSA_SSA_PSS_4096_SHA512_SHA512_64_F4")))))))))

-- the row of a name
unfoldable pub row_named : List ℕ → Option Row
row_named name = find (λ row. bytes_eq row.name name) templates

-- the template of the name, or why there is none
abbrev pub FindsTemplate : List ℕ → Result Template TemplateFault → Type 0
FindsTemplate name (Ok template) = row_named name ≡ Some (seen template)
FindsTemplate name (Err faults.Asymmetric) = (row_named name ≡ None) × (is_asymmetric name ≡ true)
FindsTemplate name (Err faults.Unknown) = (row_named name ≡ None) × (is_asymmetric name ≡ false)

-- Each template of the table, with as many random bytes as it takes, makes a key that keeps every rule.
abbrev pub MadeKeysAreValid : Type 0
MadeKeysAreValid = AllByRecursion (λ row.
    (random : List ℕ) → length random ≡ random_of row → IsValid (made row random)) templates
