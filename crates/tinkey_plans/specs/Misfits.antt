-- The second line of words that are refused: why the word is at fault, and which help tells more.
use Rattle.std.specs.Prelude.{ℕ, List, [], ◌++◌, codes}
use Rattle.tinkey_words.specs.declared.words.misuse.Misfit.{Misfit}
use Rattle.tinkey_words.specs.declared.words.misuse.Misfit.TheVariants as misfits
use Rattle.tinkey_words.specs.declared.words.names.CommandName.{CommandName}
use Rattle.tinkey_words.specs.declared.words.rows.ValueForm.{ValueForm}
use Rattle.tinkey_words.specs.declared.words.rows.ValueForm.TheVariants as forms
use Rattle.tinkey_words.specs.Names.{form_for, option_row, row_of}
use Rattle.tinkey_words.specs.Rows.{temporary}

-- what a value of this form is
unfoldable pub form_text : ValueForm → List ℕ
form_text forms.Text = codes "a name"
form_text forms.FileName = codes "the name of a file"
form_text forms.Input = codes "the name of a file, or -"
form_text forms.NewFile = codes "the name of a file"
form_text forms.Output = codes "the name of a file, or -"
form_text forms.Number = codes "a number from 0 to 4294967295"
form_text forms.LineCount = codes "a number from 1 to 100000"
form_text forms.RangeLength = codes "a number from 0 to 16777216"
form_text forms.Offset = codes "a number from 0 to 9223372036854775807"
form_text forms.Format = codes "json or binary"
form_text forms.SealedForm = codes "text, envelope or stream"
form_text forms.Command = codes "a command that uses keys"
form_text forms.Datum = codes "at most 1048576 bytes"
form_text forms.Hex = codes "at most 1048576 bytes in hexadecimal"
form_text forms.Flag = codes "no value"

-- why a dash is none, and what to name in its place
unfoldable pub dash_text : ValueForm → List ℕ
dash_text forms.NewFile = codes ": the replies are on standard output"
dash_text _ = codes " for standard input: name /dev/stdin or /dev/fd/3"

-- three pieces of text, and the command whose help tells more
abbrev pub told_of : (a b c : List ℕ) → CommandName → List ℕ
told_of a b c command = a ++ b ++ c ++ codes ": see tinkey help " ++ (row_of command).word

-- why a word is at fault
unfoldable pub misfit_text : Misfit → List ℕ
misfit_text misfits.NoCommand = codes "no such command: see tinkey help"
misfit_text misfits.NoTopic = codes "no such topic: see tinkey help"
misfit_text misfits.TooMany = codes "a word too many"
misfit_text (misfits.NoOption command) =
    told_of (codes "no option") (codes " of ") (row_of command).word command
misfit_text (misfits.Twice command name) =
    told_of (option_row name).word (codes " stands twice") [] command
misfit_text (misfits.Beside command name other) =
    told_of (option_row name).word (codes " stands beside ") (option_row other).word command
misfit_text (misfits.BadValue command name) =
    told_of (option_row name).word (codes " takes ") (form_text (form_for name command)) command
misfit_text (misfits.Temporary command name) =
    told_of (option_row name).word (codes " takes no name that begins as tinkey's own do, ") temporary command
misfit_text (misfits.Dash command name) =
    told_of (option_row name).word (codes " takes no -") (dash_text (form_for name command)) command
misfit_text (misfits.OddHex command name) =
    told_of (option_row name).word (codes " takes an even number of digits, two for each byte") [] command
misfit_text (misfits.NoValue command name) =
    told_of (option_row name).word (codes " lacks its value, ") (form_text (form_for name command)) command
misfit_text (misfits.Lacks command name) =
    told_of (row_of command).word (codes " lacks ") (option_row name).word command
misfit_text (misfits.Without command name other) =
    told_of (option_row name).word (codes " stands without ") (option_row other).word command
misfit_text (misfits.NoStream command name) =
    told_of (option_row name).word (codes " stands without ") (codes "--as stream") command
