-- A stream opened under one of several keys, over the bytes taken and whether the end was seen.
--
--   piece_opens    the plaintext of a piece in its place
--   choose         the stream's key
--   released       what is released
--   decides        the refusal that is decided
--   stream_answer  the answer for a whole stream
use Rattle.std.specs.Prelude.{ℕ, ◌+◌, List, [], ◌∷◌, length, take, slice_index, Bool, true, ◌&&◌, ◌||◌, ◌==◌, nat_lt, nat_le, Option, Some, None, if◌then◌else◌}
use Rattle.std.specs.List.{concat}
use Rattle.std.specs.Option.{is_some}
use Rattle.segment_stream.specs.Pieces.{piece, followed, settled, leading}
use Rattle.segment_stream.specs.Cipher.{SegmentCipher, most_segments, behind_header}

-- the header is whole, and its first byte is its length
abbrev pub has_header : SegmentCipher → List ℕ → Bool
has_header key bytes = nat_le key.header (length bytes) && slice_index bytes 0 == key.header

-- the plaintext of piece i, as the last one or not, under the keys of the header
unfoldable pub piece_opens : SegmentCipher → List ℕ → ℕ → Bool → Option (List ℕ)
piece_opens key bytes i last =
    if has_header key bytes && nat_lt i most_segments
    then key.opens (take key.header bytes) i last
    (behind_header key.header i (piece key.size bytes i))
    else None

-- the plaintext of piece i in its place: only the final one is last
abbrev pub opens_at : SegmentCipher → List ℕ → ℕ → Option (List ℕ)
opens_at key bytes i = piece_opens key bytes i (i == followed key.size bytes)

-- the plaintexts of the longest run of leading pieces that are settled and open in their place
abbrev pub opened : SegmentCipher → List ℕ → Bool → List (List ℕ)
opened key taken ended = leading (opens_at key taken) 0 (settled key.size taken ended)

-- whether the first piece opens is decided where a byte follows it, or the end was seen
abbrev pub is_decided : SegmentCipher → List ℕ → Bool → Bool
is_decided key taken ended = ended || nat_lt key.size (length taken)

-- the first segment opens in its place
abbrev pub fits : SegmentCipher → List ℕ → Bool
fits key taken = is_some (opens_at key taken 0)

-- which key opens a stream, as far as the bytes taken decide it
pub data Choice : Type 0 where
  -- a key before all that fit isn't decided
  undecided : Choice
  no_key : Choice
  chosen : (key : SegmentCipher) → Choice

-- the first key that fits, provided that each earlier one is decided
abbrev pub choose : List SegmentCipher → List ℕ → Bool → Choice
choose [] taken ended = no_key
choose (key ∷ keys) taken ended =
    if is_decided key taken ended then
    (if fits key taken then chosen key else choose keys taken ended)
    else undecided

-- the plaintexts of the leading segments that open under the key chosen
abbrev pub released_by : Choice → List ℕ → Bool → List ℕ
released_by undecided taken ended = []
released_by no_key taken ended = []
released_by (chosen key) taken ended = concat (opened key taken ended)

-- what may be given out of the bytes taken, with the end seen or not
abbrev pub released : List SegmentCipher → List ℕ → Bool → List ℕ
released keys taken ended = released_by (choose keys taken ended) taken ended

-- why a stream is refused
pub data StreamRefusal : Type 0 where
  too_many : StreamRefusal
  -- the first segment that doesn't authenticate in its place
  failed : (number : ℕ) → StreamRefusal

-- so many pieces are followed, so many settled, and so many opened
abbrev pub refusal_of : (followed settled opened : ℕ) → Option StreamRefusal
refusal_of followed settled opened =
    if nat_le most_segments followed && nat_le most_segments (opened + 1) then Some too_many
    else (if nat_lt opened settled then Some (failed opened) else None)

-- the refusal that the bytes taken decide, by the key chosen
abbrev pub decides_by : Choice → List ℕ → Bool → Option StreamRefusal
decides_by undecided taken ended = None
decides_by no_key taken ended = Some (failed 0)
decides_by (chosen key) taken ended =
    refusal_of (followed key.size taken) (settled key.size taken ended)
    (length (opened key taken ended))

-- what the bytes taken decide
abbrev pub decides : List SegmentCipher → List ℕ → Bool → Option StreamRefusal
decides keys taken ended = decides_by (choose keys taken ended) taken ended

-- output and refusal; none is Done
abbrev pub stream_answer : List SegmentCipher → List ℕ → List ℕ × Option StreamRefusal
stream_answer keys bytes = (released keys bytes true, decides keys bytes true)
