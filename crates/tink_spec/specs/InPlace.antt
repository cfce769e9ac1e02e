-- Bytes that are opened where they stand.
--
--   OpensTo   where the plaintext stands then, by what the bytes open to
use Rattle.std.specs.Prelude.{◌≡◌, ℕ, ◌≤◌, List, length, take, drop, slice_range, Option, Some, None, MatchOption}
use Rattle.std.specs.declared.ops.Range.{Range}

-- the plaintext stands in the range, and what stands before and behind that is as before; where the bytes
-- open to nothing, all of them are
abbrev pub OpensTo : Option (List ℕ) → (old new : List ℕ) → Option (Range ℕ) → Type 0
OpensTo plain old new found = MatchOption found ((plain ≡ None) × (new ≡ old))
    (λ range. (range.start ≤ range.end) × (range.end ≤ length new)
    × (plain ≡ Some (slice_range new range.start range.end))
    × (take range.start new ≡ take range.start old) × (drop range.end new ≡ drop range.end old))
