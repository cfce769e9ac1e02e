-- A stream sealed under a key, over the random bytes of its header, the bytes taken and whether the
-- end was seen. The header and the plaintext are cut together, into pieces that are a tag shorter
-- than a segment: so the header counts into the first one, and the last one is empty only where the
-- whole plaintext is.
use Rattle.std.specs.Prelude.{ℕ, ◌-◌, List, ◌∷◌, ◌++◌, Bool, ◌==◌, nat_lt, nat_le, Option, Some, None, if◌then◌else◌}
use Rattle.std.specs.List.{concat}
use Rattle.segment_stream.specs.Pieces.{piece, followed, settled, leading}
use Rattle.segment_stream.specs.Cipher.{SegmentCipher, most_segments, behind_header}
use Rattle.segment_stream.specs.Opening.{StreamRefusal, too_many}

-- the header's length, and the salt and nonce prefix
abbrev pub header_of : SegmentCipher → List ℕ → List ℕ
header_of key random = key.header ∷ random

-- bytes of header and plaintext in a full segment
abbrev pub plain_size : SegmentCipher → ℕ
plain_size key = key.size - key.tag

-- segment i in its place, without the header; none from number 2^32 on
unfoldable pub seals_at : SegmentCipher → (header whole : List ℕ) → ℕ → Option (List ℕ)
seals_at key header whole i =
    if nat_lt i most_segments
    then Some (key.seals header i (i == followed (plain_size key) whole)
    (behind_header key.header i (piece (plain_size key) whole i)))
    else None

-- the segments of the pieces that are settled
abbrev pub sealed_segments : SegmentCipher → (header taken : List ℕ) → Bool → List (List ℕ)
sealed_segments key header taken ended =
    leading (seals_at key header (header ++ taken)) 0
    (settled (plain_size key) (header ++ taken) ended)

-- the header, then each segment whose piece is settled
abbrev pub sealed_behind : SegmentCipher → (header taken : List ℕ) → Bool → List ℕ
sealed_behind key header taken ended = header ++ concat (sealed_segments key header taken ended)

-- the stream of a plaintext as far as it was taken, with the end seen or not
abbrev pub sealed : SegmentCipher → (random taken : List ℕ) → Bool → List ℕ
sealed key random taken ended = sealed_behind key (header_of key random) taken ended

-- 2^32 full plaintext segments and one more byte were taken
abbrev pub many_plain : SegmentCipher → (header taken : List ℕ) → Option StreamRefusal
many_plain key header taken = if nat_le most_segments (followed (plain_size key) (header ++ taken))
    then Some too_many else None

-- sealing is refused where the plaintext has too many segments
abbrev pub seal_decides : SegmentCipher → (random taken : List ℕ) → Option StreamRefusal
seal_decides key random taken = many_plain key (header_of key random) taken
