-- The line that a self-test puts out.
use Rattle.std.specs.Prelude.{ℕ, List, ◌++◌, codes}
use Rattle.std.specs.Fmt.{decimal}
use Rattle.tinkey_selftest.specs.declared.counts.Counts.{Counts}

-- a number behind its name
abbrev pub part : (name : List ℕ) → ℕ → List ℕ
part name number = name ++ decimal number

-- the counts of so many lines
unfoldable pub counts_text : (lines : ℕ) → Counts → List ℕ
counts_text lines n =
    part (codes "lines ") lines
    ++ part (codes " seals ") n.sealed
    ++ part (codes " opened ") n.opened
    ++ part (codes " refused ") n.refused
    ++ part (codes " edits ") n.edited
    ++ part (codes " declined ") n.declined
    ++ part (codes " lost ") n.lost
    ++ codes "\n"
