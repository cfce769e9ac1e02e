-- What is reported of a word that isn't text.
use Rattle.std.specs.Prelude.{ℕ, List, ◌++◌, codes}
use Rattle.std.specs.Fmt.{decimal}

-- the lines of the word of this place
abbrev pub not_text_lines : ℕ → List ℕ
not_text_lines place =
    codes "tinkey: usage: word " ++ decimal place ++ codes "\ntinkey: a word is UTF-8 text: see tinkey help\n"
