-- AES-GCM-SIV (RFC 8452 of 2019) on lists of bytes. Numbers in parentheses are the RFC's sections, and
-- its lengths count bits. AES is `cipher`, and POLYVAL is `polyval`.
--
--   derived_half             8 bytes of a derived key
--   authentication_key       message_authentication_key
--   encryption_key           message_encryption_key
--   right_padded             right_pad_to_multiple_of_16_bytes
--   length_block             length_block
--   hashed                   S_s, as POLYVAL gives it
--   masked                   S_s, as it is enciphered
--   gcm_siv_tag              tag
--   first_counter            counter_block, the first one
--   gcm_siv_text             the ciphertext of a plaintext, and the plaintext of a ciphertext
--   gcm_siv_seal             nonce, ciphertext and tag joined, of key, nonce, plaintext and additional data
--   gcm_siv_open             the plaintext of those, or none, which stands for fail
use Rattle.std.specs.Prelude.{ℕ, ◌-◌, ◌*◌, ◌%◌, Bool, nat_lt, ◌==◌, if◌then◌else◌, Option, Some, None, List, ◌++◌, length, take, drop, replicate, bit_and, bit_or, slice_index, slice_set}
use Rattle.std.specs.Int.{w32, w64, to_le_bytes}
use Rattle.std.specs.Str.{bytes_eq}
use Rattle.aes_core.specs.Aes.{cipher}
use Rattle.aes_core.specs.Bytes.{xor_bytes}
use Rattle.aes_core.specs.Chain.{whole_blocks}
use Rattle.aes_core.specs.Counter.{ctr}
use Rattle.aes_core.specs.declared.counter.CtrKind.TheVariants.{First32}
use Rattle.aead_kinds.specs.Polyval.{polyval}

-- ---- derive_keys (4)

-- AES of the block of this number, low byte first, and of the nonce: the first 8 bytes
unfoldable pub derived_half : List ℕ → List ℕ → ℕ → List ℕ
derived_half key iv n = take 8 (cipher key (to_le_bytes w32 n ++ iv))

-- message_authentication_key
unfoldable pub authentication_key : List ℕ → List ℕ → List ℕ
authentication_key key iv = derived_half key iv 0 ++ derived_half key iv 1

-- message_encryption_key, which has as many bytes as the key
unfoldable pub encryption_key : List ℕ → List ℕ → List ℕ
encryption_key key iv =
    if length key == 32 then
    derived_half key iv 2 ++ derived_half key iv 3
    ++ (derived_half key iv 4 ++ derived_half key iv 5)
    else derived_half key iv 2 ++ derived_half key iv 3

-- ---- encrypt (4)

-- right_pad_to_multiple_of_16_bytes: with zeros behind it
abbrev pub right_padded : List ℕ → List ℕ
right_padded bytes = bytes ++ replicate ((16 - length bytes % 16) % 16) 0

-- length_block: the lengths of additional data and plaintext in bits, each in 64 bits, low byte first
abbrev pub length_block : List ℕ → List ℕ → List ℕ
length_block ad plain = to_le_bytes w64 (8 * length ad) ++ to_le_bytes w64 (8 * length plain)

-- S_s: POLYVAL of padded_ad, padded_plaintext and length_block
unfoldable pub hashed : List ℕ → List ℕ → List ℕ → List ℕ → List ℕ
hashed key iv ad plain =
    polyval (authentication_key key iv)
    (whole_blocks (right_padded ad ++ right_padded plain ++ length_block ad plain))

-- S_s with the nonce XORed to its first 12 bytes
abbrev pub with_nonce : List ℕ → List ℕ → List ℕ
with_nonce s iv = xor_bytes s (iv ++ replicate 4 0)

-- S_s[15] &= 0x7f
abbrev pub masked : List ℕ → List ℕ
masked s = slice_set s 15 (bit_and (slice_index s 15) 0x7F)

-- tag: AES of that block under message_encryption_key
unfoldable pub gcm_siv_tag : List ℕ → List ℕ → List ℕ → List ℕ → List ℕ
gcm_siv_tag key iv ad plain =
    cipher (encryption_key key iv) (masked (with_nonce (hashed key iv ad plain) iv))

-- counter_block = tag, and counter_block[15] |= 0x80
abbrev pub first_counter : List ℕ → List ℕ
first_counter tag = slice_set tag 15 (bit_or (slice_index tag 15) 0x80)

-- AES_CTR: counter mode from there, whose first 32 bits count, low byte first, modulo 2^32
unfoldable pub gcm_siv_text : List ℕ → List ℕ → List ℕ → List ℕ → List ℕ
gcm_siv_text key iv tag text = ctr (encryption_key key iv) (first_counter tag) First32 text

-- encrypt: what it gives, behind the nonce
unfoldable pub gcm_siv_seal : List ℕ → List ℕ → List ℕ → List ℕ → List ℕ
gcm_siv_seal key iv plain ad =
    let tag = gcm_siv_tag key iv ad plain in iv ++ gcm_siv_text key iv tag plain ++ tag

-- ---- nonce, ciphertext and tag of the bytes that are opened

-- the 12 bytes of nonce in front
abbrev pub iv_of : List ℕ → List ℕ
iv_of bytes = take 12 bytes

-- the ciphertext between nonce and tag
abbrev pub text_of : List ℕ → List ℕ
text_of bytes = take (length bytes - 28) (drop 12 bytes)

-- the 16 bytes of tag at the end
abbrev pub tag_of : List ℕ → List ℕ
tag_of bytes = drop (length bytes - 16) bytes

-- ---- decrypt (5)

-- plaintext, whether or not it is given out
abbrev pub plain_of : List ℕ → List ℕ → List ℕ
plain_of key bytes = gcm_siv_text key (iv_of bytes) (tag_of bytes) (text_of bytes)

-- whether the tag is expected_tag, which is computed anew from the plaintext
abbrev pub is_authentic : List ℕ → List ℕ → List ℕ → Bool
is_authentic key bytes ad =
    bytes_eq (tag_of bytes) (gcm_siv_tag key (iv_of bytes) ad (plain_of key bytes))

-- decrypt: fail where there are fewer bytes than a nonce and a tag have, and where the tag isn't the
-- one computed anew
unfoldable pub gcm_siv_open : List ℕ → List ℕ → List ℕ → Option (List ℕ)
gcm_siv_open key bytes ad =
    if nat_lt (length bytes) 28 then None
    else if is_authentic key bytes ad then Some (plain_of key bytes)
    else None
