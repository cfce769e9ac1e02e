-- Which contents of a key message are valid (Tink's proto files say which fields there are; the
-- sizes are those that this program takes).
--
--   hash_fits .. segment_fits   what each rule asks of the contents, by key type
--   keeps          the contents keep the rule
--   first_broken   the first of the rules that the contents break, in the order of the rules
use Rattle.std.specs.Prelude.{ℕ, ◌+◌, ◌^◌, List, [], ◌∷◌, length, Bool, true, not, ◌==◌, ◌&&◌, ◌||◌, nat_lt, nat_le, Option, Some, None, is_some, find}
use Rattle.tink_base.specs.Hash.{hash_of_number, hash_size}
use Rattle.tink_base.specs.declared.hash.Hash.{Hash}
use Rattle.key_msgs.specs.declared.key_type.KeyType.{KeyType}
use Rattle.key_msgs.specs.declared.key_type.KeyType.TheVariants as types
use Rattle.key_msgs.specs.declared.rule.Rule.{Rule}
use Rattle.key_msgs.specs.declared.rule.Rule.TheVariants as rules_of
use Rattle.key_msgs.specs.Contents.{Contents}

-- one of two numbers
abbrev pub is_either : ℕ → ℕ → ℕ → Bool
is_either a b n = n == a || n == b

-- a number from the least to the most, both included
abbrev pub is_within : ℕ → ℕ → ℕ → Bool
is_within least most n = nat_le least n && nat_le n most

-- one of the five hash functions
abbrev pub is_hash : ℕ → Bool
is_hash n = is_some (hash_of_number n)

-- SHA-256 or SHA-512, by their numbers
abbrev pub is_sha2_hash : ℕ → Bool
is_sha2_hash n = is_either 3 4 n

-- SHA-1, SHA-256 or SHA-512
abbrev pub is_hkdf_hash : ℕ → Bool
is_hkdf_hash n = n == 1 || is_sha2_hash n

-- at least ten bytes, and no more than the digest has
abbrev pub is_tag_of : Option Hash → ℕ → Bool
is_tag_of None n = true
is_tag_of (Some hash) n = is_within 10 (hash_size hash) n

-- the hash functions that the key type takes
abbrev pub hash_fits : KeyType → Contents → Bool
hash_fits types.AesGcm m = true
hash_fits types.AesEax m = true
hash_fits types.AesCtrHmac m = is_hash m.mac_hash
hash_fits types.AesSiv m = true
hash_fits types.Hmac m = is_hash m.hash
hash_fits types.AesCmac m = true
hash_fits types.HkdfPrf m = is_sha2_hash m.hash
hash_fits types.HmacPrf m = is_hash m.hash
hash_fits types.CmacPrf m = true
hash_fits types.GcmStream m = is_hkdf_hash m.hash
hash_fits types.CtrStream m = is_hkdf_hash m.hash && is_hash m.mac_hash
hash_fits types.AesGcmSiv m = true

-- the sizes of keys that the key type takes; a stream's is no less than that of its derived key
abbrev pub key_fits : KeyType → Contents → Bool
key_fits types.AesGcm m = is_either 16 32 (length m.key)
key_fits types.AesEax m = is_either 16 32 (length m.key)
key_fits types.AesCtrHmac m = is_either 16 32 (length m.key) && nat_le 16 (length m.mac)
key_fits types.AesSiv m = length m.key == 64
key_fits types.Hmac m = nat_le 16 (length m.key)
key_fits types.AesCmac m = length m.key == 32
key_fits types.HkdfPrf m = nat_le 32 (length m.key)
key_fits types.HmacPrf m = nat_le 16 (length m.key)
key_fits types.CmacPrf m = length m.key == 32
key_fits types.GcmStream m = nat_le m.derived (length m.key)
key_fits types.CtrStream m = nat_le m.derived (length m.key)
key_fits types.AesGcmSiv m = is_either 16 32 (length m.key)

-- the sizes of IVs that the key type takes
abbrev pub iv_fits : KeyType → Contents → Bool
iv_fits types.AesEax m = is_either 12 16 m.iv_size
iv_fits types.AesCtrHmac m = is_within 12 16 m.iv_size
iv_fits _ m = true

-- the sizes of tags that the key type takes
abbrev pub tag_fits : KeyType → Contents → Bool
tag_fits types.AesCtrHmac m = is_tag_of (hash_of_number m.mac_hash) m.mac_tag_size
tag_fits types.Hmac m = is_tag_of (hash_of_number m.hash) m.tag_size
tag_fits types.AesCmac m = is_within 10 16 m.tag_size
tag_fits types.CtrStream m = is_tag_of (hash_of_number m.mac_hash) m.mac_tag_size
tag_fits _ m = true

-- the sizes of derived keys: those of AES-128 and AES-256
abbrev pub derived_fits : KeyType → Contents → Bool
derived_fits types.GcmStream m = is_either 16 32 m.derived
derived_fits types.CtrStream m = is_either 16 32 m.derived
derived_fits _ m = true

-- a segment has room for the header's rest and a tag, which is 16 bytes of GCM
abbrev pub segment_fits : KeyType → Contents → Bool
segment_fits types.GcmStream m = nat_lt (m.derived + 24) m.segment && nat_lt m.segment (2 ^ 31)
segment_fits types.CtrStream m = nat_lt (m.derived + 8 + m.mac_tag_size) m.segment && nat_lt m.segment (2 ^ 31)
segment_fits _ m = true

-- the contents keep the rule; that they could be read is Form
abbrev pub keeps : KeyType → Contents → Rule → Bool
keeps type m rules_of.Form = true
keeps type m rules_of.Version = m.version == 0
keeps type m rules_of.Hash = hash_fits type m
keeps type m rules_of.KeySize = key_fits type m
keeps type m rules_of.IvSize = iv_fits type m
keeps type m rules_of.TagSize = tag_fits type m
keeps type m rules_of.DerivedSize = derived_fits type m
keeps type m rules_of.Segment = segment_fits type m

-- the rules, in the order in which they are tried
abbrev pub all_rules : List Rule
all_rules = rules_of.Form ∷ rules_of.Version ∷ rules_of.Hash ∷ rules_of.KeySize ∷ rules_of.IvSize
    ∷ rules_of.TagSize ∷ rules_of.DerivedSize ∷ rules_of.Segment ∷ []

-- the first of the rules that the contents break, or none
abbrev pub first_broken : KeyType → Contents → Option Rule
first_broken type m = find (λ rule. not (keeps type m rule)) all_rules
