-- A range of the plaintext of a whole stream. Places and lengths of plaintext follow from the sizes
-- alone; only the final piece and the pieces that cover the range are opened.
use Rattle.std.specs.Prelude.{ℕ, ◌+◌, ◌-◌, ◌*◌, ◌/◌, ◌==◌, List, length, take, drop, true, Result, Ok, Err, nat_lt, if◌then◌else◌}
use Rattle.std.specs.List.{concat}
use Rattle.std.specs.Option.{is_some}
use Rattle.segment_stream.specs.Pieces.{followed, leading}
use Rattle.segment_stream.specs.Cipher.{SegmentCipher}
use Rattle.segment_stream.specs.Opening.{Choice, undecided, no_key, chosen, choose, opens_at}
use Rattle.segment_stream.specs.Sealing.{plain_size}

-- why a range is refused
pub data RangeRefusal : Type 0 where
  stream_failed : (number : ℕ) → RangeRefusal
  past_end : RangeRefusal

-- all bytes but the header and the tags
abbrev pub plain_length : SegmentCipher → List ℕ → ℕ
plain_length key bytes = length bytes - key.header - (followed key.size bytes + 1) * key.tag

-- the place of a piece's first plaintext byte, and the piece of a plaintext byte
abbrev pub plain_start : SegmentCipher → ℕ → ℕ
plain_start key i = i * plain_size key - key.header

-- the number of the piece that holds the plaintext's byte at this offset
abbrev pub piece_of : SegmentCipher → ℕ → ℕ
piece_of key at = (at + key.header) / plain_size key

-- how many pieces cover the range; an empty one has none
abbrev pub covering : SegmentCipher → (from to : ℕ) → ℕ
covering key from to = if from == to then 0 else piece_of key (to - 1) + 1 - piece_of key from

-- the range in the plaintexts of these pieces, where all of them have opened
abbrev pub cut_range : SegmentCipher → (from to : ℕ) → List (List ℕ) → Result (List ℕ) RangeRefusal
cut_range key from to run =
    if nat_lt (length run) (covering key from to) then Err
    (stream_failed (piece_of key from + length run))
    else Ok (take (to - from) (drop (from - plain_start key (piece_of key from)) (concat run)))

-- the range under a key: the final piece has to open as the last, and each piece that covers the
-- range in its place
abbrev pub range_under : SegmentCipher → (bytes : List ℕ) (from to : ℕ)
    → Result (List ℕ) RangeRefusal
range_under key bytes from to =
    if is_some (opens_at key bytes (followed key.size bytes))
    then (if nat_lt (plain_length key bytes) to then Err past_end
    else cut_range key from to (leading (opens_at key bytes) (piece_of key from)
    (covering key from to)))
    else Err (stream_failed (followed key.size bytes))

-- the range under the key chosen
abbrev pub range_by : Choice → (bytes : List ℕ) (from to : ℕ) → Result (List ℕ) RangeRefusal
range_by undecided bytes from to = Err (stream_failed 0)
range_by no_key bytes from to = Err (stream_failed 0)
range_by (chosen key) bytes from to = range_under key bytes from to

-- the plaintext's bytes `from` to `to`, or why there are none
abbrev pub range_of : List SegmentCipher → (bytes : List ℕ) (from to : ℕ)
    → Result (List ℕ) RangeRefusal
range_of keys bytes from to = range_by (choose keys bytes true) bytes from to
