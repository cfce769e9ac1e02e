-- Where a pass over a stream stands, under its key.
use Rattle.std.specs.Prelude.{◌≡◌, ℕ, ◌*◌, ◌≤◌, List, length, take, drop, true, ◌++◌}
use Rattle.std.specs.List.{concat}
use Rattle.segment_stream.specs.Pieces.{followed, leading}
use Rattle.segment_stream.specs.Cipher.{SegmentCipher}
use Rattle.segment_stream.specs.Opening.{has_header, opens_at}
use Rattle.segment_stream.specs.Sealing.{plain_size, seals_at}

-- of the bytes taken the first i pieces are followed and have opened, their plaintexts, joined,
-- were
-- written, and the bytes behind them are held
pub record Standing (key : SegmentCipher) (header taken : List ℕ) (i : ℕ) (held written : List ℕ) :
    Type 0 where
  pub within : i ≤ followed key.size taken
  pub count : length (leading (opens_at key taken) 0 i) ≡ i
  pub joined : concat (leading (opens_at key taken) 0 i) ≡ written
  pub rest : held ≡ drop (i * key.size) taken
  pub has : has_header key taken ≡ true
  pub front : take key.header taken ≡ header

-- the same of a stream that is sealed: the header and the bytes taken are cut together, and the
-- header and the segments of the first i pieces were written
pub record SealStanding (key : SegmentCipher) (header taken : List ℕ) (i : ℕ)
    (held written : List ℕ) : Type 0 where
  pub within : i ≤ followed (plain_size key) (header ++ taken)
  pub count : length (leading (seals_at key header (header ++ taken)) 0 i) ≡ i
  pub joined : header ++ concat (leading (seals_at key header (header ++ taken)) 0 i) ≡ written
  pub rest : held ≡ drop (i * plain_size key) (header ++ taken)
