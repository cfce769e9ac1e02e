-- The header in the first piece.
use Rattle.std.specs.Prelude.{ℕ, zero, suc}

-- how many bytes of a piece stand before its segment: the header, in the first one
abbrev pub skipped : (header number : ℕ) → ℕ
skipped header zero = header
skipped header (suc number) = 0
