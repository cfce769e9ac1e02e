-- What an entropy over a lent slice tells.
use Rattle.std.specs.Prelude.{ℕ, List, Some, true}
use Rattle.tink_spec.specs.Outside.{EntropyState}

-- the bytes that are left, and how many faults there were
pub record DrawnBytes : Type 0 where
  pub left : List ℕ
  pub faults : ℕ

-- it tells its bytes, and is steady
abbrev pub told_drawn : DrawnBytes → EntropyState
told_drawn s = record { left = Some s.left; faults = s.faults; steady = true }
