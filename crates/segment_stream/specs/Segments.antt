-- The two ciphers of segments of Tink's streaming AEAD, AES-GCM-HKDF and AES-CTR-HMAC. A stream
-- begins with its header: a byte with the header's length, the salt, and the nonce prefix of 7 bytes.
--
--   material        what HKDF derives from the key value, under the salt and for the associated data
--   keys_of         the keys of the stream with that header
--   nonce           nonce prefix, number and last, which each segment has its own of
--   seals_under     a segment under the keys of its stream
--   opens_under     its plaintext, or none where it doesn't authenticate
--   cipher_of       the cipher of segments of a key and associated data
--   IsSound         the key's sizes are those that Tink allows
use Rattle.std.specs.Prelude.{◌≡◌, ◌⊎◌, ℕ, ◌+◌, ◌^◌, ◌<◌, ◌≤◌, Bool, Option, List, [], ◌∷◌, ◌++◌, map, take, drop, replicate, if◌then◌else◌}
use Rattle.std.specs.Int.{w32, to_be_bytes}
use Rattle.tink_base.specs.Hash.{hash_size}
use Rattle.mac_prf.specs.Hkdf.{hkdf}
use Rattle.aead_kinds.specs.Gcm.{gcm_tag, gcm_text}
use Rattle.aead_kinds.specs.Segment.{opened_with, sealed_with, segment_open, segment_seal}
use Rattle.segment_stream.specs.Cipher.{SegmentCipher}
use Rattle.segment_stream.specs.declared.key.StreamKey.{StreamKey}
use Rattle.segment_stream.specs.declared.key.SegmentScheme.{SegmentScheme}
use Rattle.segment_stream.specs.declared.key.SegmentScheme.TheVariants as schemes
use Rattle.segment_stream.specs.declared.segments.SegmentKeys.{SegmentKeys}
use Rattle.segment_stream.specs.declared.segments.SegmentKeys.TheVariants as keys_for

-- the bytes of the header: its length byte, the salt, which is as long as a derived AES key, and the
-- nonce prefix
abbrev pub header_size : StreamKey → ℕ
header_size key = key.derived + 8

-- bytes of a segment's tag
abbrev pub tag_size_of : SegmentScheme → ℕ
tag_size_of schemes.Gcm = 16
tag_size_of (schemes.CtrHmac hash tag_size) = tag_size

-- the salt in a header
abbrev pub salt_of : StreamKey → List ℕ → List ℕ
salt_of key header = take key.derived (drop 1 header)

-- the seven bytes behind the salt
abbrev pub nonce_prefix : StreamKey → List ℕ → List ℕ
nonce_prefix key header = drop (key.derived + 1) header

-- so many bytes of HKDF of the key value under a salt, with the associated data as info
abbrev pub material : StreamKey → (ad salt : List ℕ) → ℕ → List ℕ
material key ad salt size = hkdf key.hash key.value salt ad size

-- the AES key; for AES-CTR-HMAC it is followed by a key of HMAC of 32 bytes
unfoldable pub keys_under : SegmentScheme → StreamKey → (ad salt : List ℕ) → SegmentKeys
keys_under schemes.Gcm key ad salt = keys_for.Gcm (material key ad salt key.derived)
keys_under (schemes.CtrHmac hash tag_size) key ad salt =
    keys_for.CtrHmac (record {
      aes = take key.derived (material key ad salt (key.derived + 32));
      hash = hash;
      mac = drop key.derived (material key ad salt (key.derived + 32));
      tag_size = tag_size;
    })

-- the keys of a stream's segments, by its header
abbrev pub keys_of : StreamKey → (ad header : List ℕ) → SegmentKeys
keys_of key ad header = keys_under key.scheme key ad (salt_of key header)

-- the nonce prefix, the number in four bytes, and a byte that is 1 for the last segment
abbrev pub nonce : List ℕ → ℕ → Bool → List ℕ
nonce prefix number last =
    prefix ++ (to_be_bytes w32 number ++ ((if last then 1 else 0) ∷ []))

-- the counter block at which AES-CTR-HMAC begins: the nonce, and four bytes of zeros
abbrev pub start_of : List ℕ → ℕ → Bool → List ℕ
start_of prefix number last = nonce prefix number last ++ replicate 4 0

-- ciphertext and tag, without the nonce; of AES-GCM with no associated data
unfoldable pub seals_under : SegmentKeys → (prefix : List ℕ) → ℕ → Bool → List ℕ → List ℕ
seals_under (keys_for.Gcm key) prefix number last plain =
    sealed_with (gcm_text key (nonce prefix number last))
    (gcm_tag key (nonce prefix number last) []) plain
seals_under (keys_for.CtrHmac keys) prefix number last plain =
    segment_seal keys.aes keys.hash keys.mac keys.tag_size (start_of prefix number last) plain

-- the plaintext of a segment, or none where it has fewer bytes than a tag or another tag
unfoldable pub opens_under : SegmentKeys → (prefix : List ℕ) → ℕ → Bool → List ℕ → Option (List ℕ)
opens_under (keys_for.Gcm key) prefix number last segment =
    opened_with (gcm_text key (nonce prefix number last))
    (gcm_tag key (nonce prefix number last) []) 16 segment
opens_under (keys_for.CtrHmac keys) prefix number last segment =
    segment_open keys.aes keys.hash keys.mac keys.tag_size (start_of prefix number last) segment

-- the bytes of a tag under these keys; for AES-CTR-HMAC no more than a digest has
abbrev pub tag_size_under : SegmentKeys → ℕ
tag_size_under (keys_for.Gcm key) = 16
tag_size_under (keys_for.CtrHmac keys) = keys.tag_size

-- a tag is no longer than the digest it is cut from
abbrev pub FitsHash : SegmentKeys → Type 0
FitsHash (keys_for.Gcm key) = Unit {0}
FitsHash (keys_for.CtrHmac keys) = keys.tag_size ≤ hash_size keys.hash

-- the cipher of segments of a key, with associated data
abbrev pub cipher_of : (ad : List ℕ) → StreamKey → SegmentCipher
cipher_of ad key = record {
  size = key.segment;
  header = header_size key;
  tag = tag_size_of key.scheme;
  seals = λ header. seals_under (keys_of key ad header) (nonce_prefix key header);
  opens = λ header. opens_under (keys_of key ad header) (nonce_prefix key header);
}

-- keys of streams, each with these associated data
abbrev pub ciphers_of : (ad : List ℕ) → List StreamKey → List SegmentCipher
ciphers_of ad keys = map (cipher_of ad) keys

-- a tag of HMAC has at least ten bytes, and no more than a digest
abbrev pub HasTag : SegmentScheme → Type 0
HasTag schemes.Gcm = Unit {0}
HasTag (schemes.CtrHmac hash tag_size) = (10 ≤ tag_size) × (tag_size ≤ hash_size hash)

-- derived AES keys have 16 or 32 bytes, and a segment has room for more than header and tag
pub record IsSound (key : StreamKey) : Type 0 where
  pub derived : (key.derived ≡ 16) ⊎ (key.derived ≡ 32)
  pub tag : HasTag key.scheme
  pub room : header_size key + tag_size_of key.scheme < key.segment
  pub most : key.segment < 2 ^ 31
