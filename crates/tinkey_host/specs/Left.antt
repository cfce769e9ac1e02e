-- What is told of a file that a run couldn't remove.
use Rattle.std.specs.Prelude.{ℕ, List, ◌++◌, codes}

-- the line of its path
abbrev pub left_line : List ℕ → List ℕ
left_line path = codes "tinkey: a temporary file is left: " ++ (path ++ codes "\n")
