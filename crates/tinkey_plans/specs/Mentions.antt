-- What a second line takes from the words: the command that they name, and what is left of the output of a stream
-- that is refused.
--
--   command_in   the command that the first word names
--   left_by, left_of   what is left of an output, by what is asked for and by the words
--   mention_of   both
--   front_of     the front of a second line
--   left_text    what a second line says of the output
use Rattle.std.specs.Prelude.{ℕ, List, [], ◌∷◌, ◌++◌, Option, Some, None, Result, Ok, Err, codes}
use Rattle.tinkey_plans.specs.declared.mention.Left.{Left}
use Rattle.tinkey_plans.specs.declared.mention.Left.TheVariants as lefts
use Rattle.tinkey_plans.specs.declared.mention.Mention.{Mention}
use Rattle.tinkey_words.specs.Names.{row_of}
use Rattle.tinkey_words.specs.Rows.{command_of}
use Rattle.tinkey_words.specs.Words.{Asked, words_of}
use Rattle.tinkey_words.specs.Words as asked
use Rattle.tinkey_words.specs.declared.words.misuse.Misuse.{Misuse}
use Rattle.tinkey_words.specs.declared.words.names.CommandName.{CommandName}

-- the command that the first word names
abbrev pub command_in : List (List ℕ) → Option CommandName
command_in [] = None
command_in (name ∷ words) = command_of name

-- A stream that goes to the sink was written as far as it was opened. A file is made whole or not at all.
abbrev pub left_in : (out : Option (List ℕ)) → Left
left_in None = lefts.Front
left_in (Some name) = lefts.NoFile

-- A range goes to the sink whole or not at all.
abbrev pub left_of_range : (out : Option (List ℕ)) → Left
left_of_range None = lefts.Nothing
left_of_range (Some name) = lefts.NoFile

-- what is left, by what is asked for
abbrev pub left_by : Asked → Left
left_by (asked.use_stream lock keyset form work ad out) = left_in out
left_by (asked.open_range lock keyset form ad range out) = left_of_range out
left_by other = lefts.Front

-- the same of words, if they ask for something
abbrev pub left_of : Result Asked Misuse → Left
left_of (Ok asked) = left_by asked
left_of (Err misuse) = lefts.Front

-- what the words give for a second line
abbrev pub mention_of : List (List ℕ) → Mention
mention_of words = record { command = command_in words; left = left_of (words_of words) }

-- if there are no words, or none is known
abbrev pub no_mention : Mention
no_mention = record { command = None; left = lefts.Front }

-- the front of a second line: the program's name, and the command's if one is named
abbrev pub front_of : Option CommandName → List ℕ
front_of None = codes "tinkey: "
front_of (Some command) = codes "tinkey " ++ (row_of command).word ++ codes ": "

-- the second line of this text, or none if there is no text
abbrev pub line_with : Option CommandName → (text : List ℕ) → List ℕ
line_with command [] = []
line_with command (byte ∷ later) = front_of command ++ (byte ∷ later) ++ codes "\n"

-- what is left of the output
unfoldable pub left_text : Left → List ℕ
left_text lefts.Front = codes "the output isn't whole"
left_text lefts.Nothing = codes "nothing was put out"
left_text lefts.NoFile = codes "no file was made"
