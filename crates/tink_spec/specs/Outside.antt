-- What the outside objects hold, how often they have failed, and what one call moves.
--
--   told      an object tells its bytes: what it holds is `Some` of them. A real device tells none.
--   faults    how often a call of the object has failed. The count never falls, and stands still
--             at 2 ^ 64 - 1.
--   Rose, Stood   what a count of faults does in a call that failed, and in every other call
--   RoseOnce  what it does where what failed wasn't tried again
--   ended     a source has answered an end
--   late      how often a source was asked after it had answered an end
--   StopsAtEnd   nothing was read after the end was answered
--   Gave, Took, Drew   what went out of a source, into a sink, or out of an entropy, between two
--             moments
--   DrewLosing   what went out of an entropy that failed at last: some bytes were drawn, and then some
--             may be lost. A device may have given bytes before it failed, and none is given again. An
--             entropy that is steady, which fails only for want of bytes, loses none.
--   RanShort  why an entropy fails, and what is lost then
use Rattle.std.specs.Prelude.{◌≡◌, ◌⊎◌, ℕ, ◌<◌, ◌≤◌, ◌^◌, ◌+◌, ◌-◌, min, List, [], ◌++◌, length, Option, IfSome, option_map, Bool, false, IsTrue, if◌then◌else◌}

-- a count of 64 bits, one later; it stands still at its end
abbrev pub next : ℕ → ℕ
next count = min (count + 1) (2 ^ 64 - 1)

-- a count of faults has risen, or stands at its last value
abbrev pub Rose : ℕ → ℕ → Type 0
Rose before after = (before < after) ⊎ (after ≡ 2 ^ 64 - 1)

-- a count of faults has risen by one, or stands at its last value: what failed wasn't tried again
abbrev pub RoseOnce : ℕ → ℕ → Type 0
RoseOnce before after = after ≡ next before

-- a count of faults is as it was: nothing failed
abbrev pub Stood : ℕ → ℕ → Type 0
Stood before after = after ≡ before

-- a source: the bytes that are left, where it tells, its faults, and whether it has answered an end
-- and was asked after that
pub record SourceState : Type 0 where
  pub left : Option (List ℕ)
  pub faults : ℕ
  pub ended : Bool
  pub late : ℕ

-- the count of late calls, after one call more
abbrev pub late_after : SourceState → ℕ
late_after source = if source.ended then next source.late else source.late

-- nothing was read after an end was answered, where none had been answered before
abbrev pub StopsAtEnd : SourceState → SourceState → Type 0
StopsAtEnd old new = old.ended ≡ false → new.late ≡ old.late

-- a sink: the bytes written so far, where it tells, and its faults
pub record SinkState : Type 0 where
  pub written : Option (List ℕ)
  pub faults : ℕ

-- an entropy, a source of random bytes: the bytes that are left, where it tells, and its faults
pub record EntropyState : Type 0 where
  pub left : Option (List ℕ)
  pub faults : ℕ
  -- it fails only where fewer bytes are left than it is asked for
  pub steady : Bool

-- no end was answered, where none had been answered before
abbrev pub GoesOn : SourceState → SourceState → Type 0
GoesOn old new = old.ended ≡ false → (new.ended ≡ false) × (new.late ≡ old.late)

-- the source gave exactly these bytes
pub record Gave (old new : SourceState) (piece : List ℕ) : Type 0 where
  pub left : old.left ≡ option_map (λ rest. piece ++ rest) new.left
  pub faults : old.faults ≤ new.faults

-- the source gave some bytes, at most so many
pub record GaveUpTo (old new : SourceState) (most : ℕ) : Type 0 where
  pub piece : List ℕ
  pub within : length piece ≤ most
  pub gave : Gave old new piece

-- the source gave some bytes, exactly so many
pub record GaveCount (old new : SourceState) (count : ℕ) : Type 0 where
  pub piece : List ℕ
  pub exact : length piece ≡ count
  pub gave : Gave old new piece

-- nothing is left, where the source tells
abbrev pub IsAtEnd : SourceState → Type 0
IsAtEnd source = IfSome source.left (λ rest. rest ≡ [])

-- the sink took exactly these bytes
pub record Took (old new : SinkState) (piece : List ℕ) : Type 0 where
  pub written : new.written ≡ option_map (λ before. before ++ piece) old.written
  pub faults : old.faults ≤ new.faults

-- the sink took the first of these bytes, and at least one of them not
pub record TookPrefix (old new : SinkState) (bytes : List ℕ) : Type 0 where
  pub front : List ℕ
  pub rest : List ℕ
  pub some : 0 < length rest
  pub whole : front ++ rest ≡ bytes
  pub took : Took old new front

-- the entropy gave exactly these bytes
pub record Drew (old new : EntropyState) (piece : List ℕ) : Type 0 where
  pub left : old.left ≡ option_map (λ rest. piece ++ rest) new.left
  pub faults : old.faults ≤ new.faults
  pub steady : new.steady ≡ old.steady

-- these bytes were drawn, and those behind them are lost; of a steady entropy none is
pub record DrewLosing (old new : EntropyState) (drawn : List ℕ) : Type 0 where
  pub lost : List ℕ
  pub kept : IsTrue old.steady → lost ≡ []
  pub drew : Drew old new (drawn ++ lost)

-- the entropy failed where so many bytes were asked for: its count of faults rose, and if it is
-- steady, fewer were left, where it tells. At most so many are lost.
pub record RanShort (old new : EntropyState) (asked : ℕ) : Type 0 where
  pub rose : Rose old.faults new.faults
  pub short : IsTrue old.steady → IfSome old.left (λ left. length left < asked)
  pub gone : DrewLosing old new []
  pub few : length gone.lost ≤ asked
