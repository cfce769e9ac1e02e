-- A range of a stream in a file: what is asked of it, what it is, and how many bytes are read for it.
use Rattle.std.specs.Prelude.{◌≡◌, ℕ, ◌+◌, ◌*◌, ◌≤◌, List, Option, Some, IfSome, Result, Err, true}
use Rattle.std.specs.FinMap as map
use Rattle.segment_stream.specs.Cipher.{SegmentCipher}
use Rattle.segment_stream.specs.Opening.{choose}
use Rattle.segment_stream.specs.Range.{RangeRefusal, past_end, range_of}
use Rattle.stream_range.specs.Answers.{CoversUnder, covering_by}
use Rattle.stream_range.specs.Stored.{bytes_in}
use Rattle.tink_spec.specs.Files.{Files, StoreState}

-- the file of the stream, the keys that may open it, how many bytes their largest segment has, and the
-- offsets in the plaintext
pub record FileRange : Type 0 where
  pub name : List ℕ
  pub keys : List SegmentCipher
  pub largest : ℕ
  pub from : ℕ
  pub to : ℕ

-- a range opened, or why not
abbrev pub Opened : Type 0
Opened = Result (List ℕ) RangeRefusal

-- what it is, of a stream of these bytes
abbrev pub range_in : FileRange → List ℕ → Opened
range_in x bytes = range_of x.keys bytes x.from x.to

-- the file is there, and this is the range of it
abbrev pub HoldsRange : StoreState → FileRange → Opened → Type 0
HoldsRange store x opened = IfSome store.files (λ files.
    (bytes : List ℕ) × (map.get files x.name ≡ Some bytes) × (range_in x bytes ≡ opened))

-- So many bytes of the file are given at the most: two segments of the largest size, and as many as cover
-- the range under the key chosen. Where the files aren't told, it is under one of the keys or none.
pub record GivesAtMost (files : Option Files) (x : FileRange) (most : ℕ) : Type 0 where
  pub told : IfSome (bytes_in files x.name)
      (λ bytes. most ≤ (covering_by (choose x.keys bytes true) x.from x.to + 2) * x.largest)
  pub covered : (count : ℕ) × CoversUnder x.keys x.from x.to count × (most ≤ (count + 2) * x.largest)

-- of one that ends behind the plaintext, two segments alone
abbrev pub IsShortPast : FileRange → Opened → (most : ℕ) → Type 0
IsShortPast x opened most = opened ≡ Err past_end → most ≤ 2 * x.largest
