-- What a pass reads into its buffer.
use Rattle.std.specs.Prelude.{◌≡◌, ℕ, ◌+◌, ◌<◌, ◌≤◌, List, ◌++◌, length, Bool, true, false, ◌||◌, nat_lt}
use Rattle.tink_spec.specs.Outside.{SourceState, Rose, RoseOnce, Gave, GoesOn, IsAtEnd, StopsAtEnd}
use Rattle.std.specs.Vec.{vec_capacity, vec_ptr}
use Rattle.std.specs.Global.{Vec}
use Rattle.segment_stream.specs.Pumping.{Follows}

-- the block of a buffer is the one that it had, and as large: for what was added no memory was taken
pub record IsInPlace (old new : Vec ℕ) : Type 0 where
  pub block : vec_ptr new ≡ vec_ptr old
  pub capacity : vec_capacity new ≡ vec_capacity old

-- so many bytes were read, and lie behind those that were there
pub record ReadBehind (old new : SourceState) (before after : List ℕ) (n : ℕ) : Type 0 where
  pub piece : List ℕ
  pub size : length piece ≡ n
  pub gave : Gave old new piece
  pub is : after ≡ before ++ piece

-- bytes were read, and lie behind those that were there
pub record ReadOn (old new : SourceState) (before after : List ℕ) : Type 0 where
  pub piece : List ℕ
  pub gave : Gave old new piece
  pub is : after ≡ before ++ piece

-- bytes were read, too few
pub record GaveBelow (old new : SourceState) (held end : ℕ) : Type 0 where
  pub piece : List ℕ
  pub below : held + length piece < end
  pub gave : Gave old new piece

-- whether the end was seen or not, nothing was read after it
pub record ReadsOn (seen : Bool) (old new : SourceState) : Type 0 where
  pub goes_on : seen ≡ false → GoesOn old new
  pub stops : StopsAtEnd old new

-- bytes were read, unless the end was seen before, until a byte follows a segment of this size, or
-- the end was seen
pub record Decided (old new : SourceState) (before after : List ℕ) (whole ended : Bool) (size : ℕ) :
    Type 0 where
  pub piece : List ℕ
  pub gave : Gave old new piece
  pub is : after ≡ before ++ piece
  pub follows : Follows whole piece ended
  pub end : ended ≡ true → IsAtEnd new
  pub decided : (ended || nat_lt size (length after)) ≡ true

-- a read failed before
pub record Undecided (old new : SourceState) (before : List ℕ) (whole : Bool) (size : ℕ) : Type 0
  where
    pub piece : List ℕ
    pub gave : Gave old new piece
    pub rose : Rose old.faults new.faults
    pub open_end : whole ≡ false
    pub below : length before + length piece ≤ size
    pub once : RoseOnce old.faults new.faults
