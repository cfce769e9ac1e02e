-- Keys and the contents of their messages.
--
--   contents_of    what the message of a key holds
--   key_from       the key of a type with these contents
--   IsValid        the key breaks no rule
use Rattle.std.specs.Prelude.{◌≡◌, ℕ, Option, Some, None, Result, Ok, Err}
use Rattle.tink_base.specs.Hash.{hash_of_number}
use Rattle.tink_base.specs.declared.hash.Hash.{Hash}
use Rattle.tink_base.specs.declared.hash.Hash.TheVariants.{Sha1, Sha224, Sha256, Sha384, Sha512}
use Rattle.key_msgs.specs.declared.key.KeyKind.{KeyKind}
use Rattle.key_msgs.specs.declared.key.KeyKind.TheVariants as kinds
use Rattle.key_msgs.specs.declared.key_type.KeyType.{KeyType}
use Rattle.key_msgs.specs.declared.key_type.KeyType.TheVariants as types
use Rattle.key_msgs.specs.declared.rule.Rule.{Rule}
use Rattle.key_msgs.specs.declared.rule.Rule.TheVariants as broken
use Rattle.key_msgs.specs.Contents.{Contents, nothing}
use Rattle.key_msgs.specs.Rules.{first_broken}

-- the number of a hash function (Tink's common.proto, HashType)
abbrev pub hash_number : Hash → ℕ
hash_number Sha1 = 1
hash_number Sha384 = 2
hash_number Sha256 = 3
hash_number Sha512 = 4
hash_number Sha224 = 5

-- the type of a key
abbrev pub type_of : KeyKind → KeyType
type_of (kinds.AesGcm key) = types.AesGcm
type_of (kinds.AesEax key iv_size) = types.AesEax
type_of (kinds.AesCtrHmac aes iv_size hash mac tag_size) = types.AesCtrHmac
type_of (kinds.AesSiv key) = types.AesSiv
type_of (kinds.Hmac key hash tag_size) = types.Hmac
type_of (kinds.AesCmac key tag_size) = types.AesCmac
type_of (kinds.HkdfPrf key hash salt) = types.HkdfPrf
type_of (kinds.HmacPrf key hash) = types.HmacPrf
type_of (kinds.CmacPrf key) = types.CmacPrf
type_of (kinds.GcmStream key segment derived hash) = types.GcmStream
type_of (kinds.CtrStream key segment derived hash mac_hash tag_size) = types.CtrStream
type_of (kinds.AesGcmSiv key) = types.AesGcmSiv

-- what the message of a key holds; its version is 0
abbrev pub contents_of : KeyKind → Contents
contents_of (kinds.AesGcm key) = record nothing { key = key }
contents_of (kinds.AesEax key iv_size) = record nothing { key = key; iv_size = iv_size }
contents_of (kinds.AesCtrHmac aes iv_size hash mac tag_size) =
    record nothing { key = aes; iv_size = iv_size; mac_hash = hash_number hash; mac = mac; mac_tag_size = tag_size }
contents_of (kinds.AesSiv key) = record nothing { key = key }
contents_of (kinds.Hmac key hash tag_size) = record nothing { key = key; hash = hash_number hash; tag_size = tag_size }
contents_of (kinds.AesCmac key tag_size) = record nothing { key = key; tag_size = tag_size }
contents_of (kinds.HkdfPrf key hash salt) = record nothing { key = key; hash = hash_number hash; salt = salt }
contents_of (kinds.HmacPrf key hash) = record nothing { key = key; hash = hash_number hash }
contents_of (kinds.CmacPrf key) = record nothing { key = key }
contents_of (kinds.GcmStream key segment derived hash) =
    record nothing { key = key; segment = segment; derived = derived; hash = hash_number hash }
contents_of (kinds.CtrStream key segment derived hash mac_hash tag_size) =
    record nothing {
      key = key;
      segment = segment;
      derived = derived;
      hash = hash_number hash;
      mac_hash = hash_number mac_hash;
      mac_tag_size = tag_size;
    }
contents_of (kinds.AesGcmSiv key) = record nothing { key = key }

-- a hash function that has one of Tink's numbers
abbrev pub known_hash : Option Hash → Result Hash Rule
known_hash None = Err broken.Hash
known_hash (Some hash) = Ok hash

-- the key of that hash function
abbrev pub with_hash : Option Hash → (Hash → Result KeyKind Rule) → Result KeyKind Rule
with_hash None next = Err broken.Hash
with_hash (Some hash) next = next hash

-- the key of a type with these contents; a hash function without a number of Tink's breaks a rule
abbrev pub key_from : KeyType → Contents → Result KeyKind Rule
key_from types.AesGcm m = Ok (kinds.AesGcm m.key)
key_from types.AesEax m = Ok (kinds.AesEax m.key m.iv_size)
key_from types.AesCtrHmac m = with_hash (hash_of_number m.mac_hash) (λ hash.
    Ok (kinds.AesCtrHmac m.key m.iv_size hash m.mac m.mac_tag_size))
key_from types.AesSiv m = Ok (kinds.AesSiv m.key)
key_from types.Hmac m = with_hash (hash_of_number m.hash) (λ hash. Ok (kinds.Hmac m.key hash m.tag_size))
key_from types.AesCmac m = Ok (kinds.AesCmac m.key m.tag_size)
key_from types.HkdfPrf m = with_hash (hash_of_number m.hash) (λ hash. Ok (kinds.HkdfPrf m.key hash m.salt))
key_from types.HmacPrf m = with_hash (hash_of_number m.hash) (λ hash. Ok (kinds.HmacPrf m.key hash))
key_from types.CmacPrf m = Ok (kinds.CmacPrf m.key)
key_from types.GcmStream m = with_hash (hash_of_number m.hash) (λ hash.
    Ok (kinds.GcmStream m.key m.segment m.derived hash))
key_from types.CtrStream m = with_hash (hash_of_number m.hash) (λ hash. with_hash (hash_of_number m.mac_hash) (λ mac_hash.
    Ok (kinds.CtrStream m.key m.segment m.derived hash mac_hash m.mac_tag_size)))
key_from types.AesGcmSiv m = Ok (kinds.AesGcmSiv m.key)

-- a key of sizes that its type takes
abbrev pub IsValid : KeyKind → Type 0
IsValid key = first_broken (type_of key) (contents_of key) ≡ None
