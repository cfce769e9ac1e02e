-- A stream that is opened, and sealed again as it comes: what is released of it is sealed under another
-- cipher, behind a header of its own.
--
--   is_whole        the whole plaintext is known
--   resealed        what is written
--   reseal_decides  the refusal that is decided
--   reseal_answer   the answer for a whole stream
--   unfinished      a stream whose segments are sealed as such that others follow
use Rattle.std.specs.Prelude.{ℕ, List, ◌++◌, Bool, true, false, ◌&&◌, nat_lt, Option, Some, None, if◌then◌else◌}
use Rattle.std.specs.List.{concat}
use Rattle.std.specs.Option.{is_none, option_or}
use Rattle.segment_stream.specs.Pieces.{piece, followed, leading}
use Rattle.segment_stream.specs.Cipher.{SegmentCipher, most_segments, behind_header}
use Rattle.segment_stream.specs.Opening.{StreamRefusal, decides, released}
use Rattle.segment_stream.specs.Sealing.{many_plain, plain_size, sealed_behind}

-- the whole plaintext is known where the end of the stream was seen, and nothing of it is refused
abbrev pub is_whole : List SegmentCipher → (taken : List ℕ) → Bool → Bool
is_whole keys taken ended = ended && is_none (decides keys taken ended)

-- what is released, sealed: a segment is sealed as the last one only where the whole plaintext is known
abbrev pub resealed : List SegmentCipher → SegmentCipher → (header taken : List ℕ) → Bool → List ℕ
resealed keys cipher header taken ended =
    sealed_behind cipher header (released keys taken ended) (is_whole keys taken ended)

-- The plaintext that is released has too many segments for the cipher that seals, or the stream is refused.
-- What is released comes before what doesn't open, so the first of the two comes first.
abbrev pub reseal_decides : List SegmentCipher → SegmentCipher → (header taken : List ℕ) → Bool
    → Option StreamRefusal
reseal_decides keys cipher header taken ended =
    option_or (many_plain cipher header (released keys taken ended)) (decides keys taken ended)

-- output and refusal; none is Done
abbrev pub reseal_answer : List SegmentCipher → SegmentCipher → (header bytes : List ℕ)
    → List ℕ × Option StreamRefusal
reseal_answer keys cipher header bytes =
    (resealed keys cipher header bytes true, reseal_decides keys cipher header bytes true)

-- a segment that isn't the last, of header and plaintext; none from number 2^32 on
abbrev pub follows_at : SegmentCipher → (header whole : List ℕ) → ℕ → Option (List ℕ)
follows_at key header whole i =
    if nat_lt i most_segments
    then Some (key.seals header i false (behind_header key.header i (piece (plain_size key) whole i)))
    else None

-- the header, and each piece that a byte follows, sealed as one that isn't the last
abbrev pub unfinished : SegmentCipher → (header plain : List ℕ) → List ℕ
unfinished key header plain =
    header ++ concat (leading (follows_at key header (header ++ plain)) 0
    (followed (plain_size key) (header ++ plain)))
