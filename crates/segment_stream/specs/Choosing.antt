-- Which of several keys opens a stream, as the bytes in front of it tell.
use Rattle.std.specs.Prelude.{◌≡◌, ℕ, ◌<◌, ◌≤◌, List, length, Option}
use Rattle.std.specs.List.{position_from}
use Rattle.tink_spec.specs.Outside.{SourceState, Gave, IsAtEnd}
use Rattle.segment_stream.specs.Cipher.{SegmentCipher}
use Rattle.segment_stream.specs.Opening.{fits}

-- the place of the first of the keys whose first segment opens, counted from 0
abbrev pub place_of : List SegmentCipher → (taken : List ℕ) → Option ℕ
place_of keys taken = position_from (λ key. fits key taken) 0 keys

-- so many bytes were read, or all of them where there are fewer, and this is the place of the first key whose
-- first segment opens, of these bytes
pub record Chooses (keys : List SegmentCipher) (size : ℕ) (old new : SourceState) (place : Option ℕ) :
    Type 0 where
  pub front : List ℕ
  pub gave : Gave old new front
  pub within : length front ≤ size
  pub end : length front < size → IsAtEnd new
  pub is : place ≡ place_of keys front
