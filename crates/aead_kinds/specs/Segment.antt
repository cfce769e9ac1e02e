-- A segment of AES-CTR-HMAC in Tink's streaming AEAD, on lists of bytes: counter mode over AES (SP
-- 800-38A), and HMAC (RFC 2104) under a key of its own. The start is the segment's own block of 16
-- bytes, and it stands in no segment.
--
--   segment_text    the ciphertext of a plaintext, and the plaintext of a ciphertext
--   segment_tag     the tag of start and ciphertext
--   segment_seal    ciphertext and tag, joined
--   segment_open    the plaintext of those bytes, or none
use Rattle.std.specs.Prelude.{ℕ, ◌-◌, nat_lt, if◌then◌else◌, Option, Some, None, List, ◌++◌, length, take, drop}
use Rattle.std.specs.Str.{bytes_eq}
use Rattle.aes_core.specs.Counter.{ctr}
use Rattle.aes_core.specs.declared.counter.CtrKind.TheVariants.{All128}
use Rattle.mac_prf.specs.Hmac.{hmac}
use Rattle.tink_base.specs.declared.hash.Hash.{Hash}

-- counter mode from the start, where all 128 bits count
unfoldable pub segment_text : List ℕ → List ℕ → List ℕ → List ℕ
segment_text aes start text = ctr aes start All128 text

-- the first bytes of HMAC over start and ciphertext, as many as the tag has
unfoldable pub segment_tag : Hash → List ℕ → ℕ → List ℕ → List ℕ → List ℕ
segment_tag hash mac tag_size start text = take tag_size (hmac hash mac (start ++ text))

-- ---- ciphertext and tag, joined, whatever the cipher and the tag

-- the ciphertext, and the tag of the ciphertext
unfoldable pub sealed_with : (crypt tag : List ℕ → List ℕ) → List ℕ → List ℕ
sealed_with crypt tag plain = crypt plain ++ tag (crypt plain)

-- all bytes before the tag, and the tag
abbrev pub body_of : ℕ → List ℕ → List ℕ
body_of tag_size segment = take (length segment - tag_size) segment

-- the tag at the end of a segment
abbrev pub tag_of : ℕ → List ℕ → List ℕ
tag_of tag_size segment = drop (length segment - tag_size) segment

-- the plaintext; none where there are fewer bytes than a tag has, and where the tag isn't the one
-- computed anew
unfoldable pub opened_with : (crypt tag : List ℕ → List ℕ) → ℕ → List ℕ → Option (List ℕ)
opened_with crypt tag tag_size segment =
    if nat_lt (length segment) tag_size then None
    else if bytes_eq (tag_of tag_size segment) (tag (body_of tag_size segment))
    then Some (crypt (body_of tag_size segment))
    else None

-- ---- a segment

-- the ciphertext of the plaintext from this start, and the tag of both, joined
unfoldable pub segment_seal : List ℕ → Hash → List ℕ → ℕ → List ℕ → List ℕ → List ℕ
segment_seal aes hash mac tag_size start plain =
    sealed_with (segment_text aes start) (segment_tag hash mac tag_size start) plain

-- the plaintext of such a segment; none where the tag isn't the right one
unfoldable pub segment_open : List ℕ → Hash → List ℕ → ℕ → List ℕ → List ℕ → Option (List ℕ)
segment_open aes hash mac tag_size start segment =
    opened_with (segment_text aes start) (segment_tag hash mac tag_size start) tag_size segment
