-- What the rows of the command's words are asked, and the forms of values.
use Rattle.std.specs.Prelude.{ℕ, ◌*◌, ◌%◌, ◌^◌, List, ◌++◌, length, Bool, true, false, Option, Some, None, is_some, not, ◌==◌, ◌&&◌, nat_lt, nat_le, if◌then◌else◌, codes}
use Rattle.std.specs.Option.{option_and_then}
use Rattle.std.specs.List.{find, list_any, list_all, starts_with}
use Rattle.std.specs.Path.{path_file_name}
use Rattle.std.specs.Str.{all_ascii_digits, bytes_eq, str_eq_ignore_ascii_case}
use Rattle.std.specs.Str.Parse.{digits_value}
use Rattle.hex.specs.Hex.{is_hex_digit}
use Rattle.tink_base.specs.Decimal.{number_in}
use Rattle.tinkey_words.specs.declared.words.rows.Format.{Format}
use Rattle.tinkey_words.specs.declared.words.rows.Format.TheVariants as formats
use Rattle.tinkey_words.specs.declared.words.rows.SealedForm.{SealedForm}
use Rattle.tinkey_words.specs.declared.words.rows.SealedForm.TheVariants as sealed
use Rattle.tinkey_words.specs.declared.words.rows.ValueForm.{ValueForm}
use Rattle.tinkey_words.specs.declared.words.rows.ValueForm.TheVariants as forms
use Rattle.tinkey_words.specs.declared.words.names.CommandName.{CommandName}
use Rattle.tinkey_words.specs.declared.words.names.OptionName.{OptionName}
use Rattle.key_msgs.specs.declared.primitive.Primitive.{Primitive}
use Rattle.tinkey_words.specs.Names.{row_of, all_commands, option_row, all_options, primitive_of}

-- The names.

-- the command of this name
unfoldable pub command_of : List ℕ → Option CommandName
command_of name = find (λ command. bytes_eq (row_of command).word name) all_commands

-- the primitive of the keys that the command of this name asks for, where it asks for any
unfoldable pub primitive_named : List ℕ → Option Primitive
primitive_named name = option_and_then primitive_of (command_of name)

-- the option of this name
unfoldable pub option_of : List ℕ → Option OptionName
option_of name = find (λ option. bytes_eq (option_row option).word name) all_options

-- the two are one option
abbrev pub same : OptionName → OptionName → Bool
same a b = (option_row a).place == (option_row b).place

-- the option is one of these
abbrev pub is_one_of : OptionName → List OptionName → Bool
is_one_of name names = list_any (same name) names

-- the command has the option
abbrev pub takes : CommandName → OptionName → Bool
takes command name = is_one_of name ((row_of command).required ++ (row_of command).optional)

-- The values.

-- a flag is a word without a value
abbrev pub is_flag : ValueForm → Bool
is_flag forms.Flag = true
is_flag _ = false

-- the value names a file that is made
abbrev pub is_new_file : ValueForm → Bool
is_new_file forms.NewFile = true
is_new_file forms.Output = true
is_new_file _ = false

-- the value names a file, and a dash would stand for no file
abbrev pub is_named_file : ValueForm → Bool
is_named_file forms.FileName = true
is_named_file forms.NewFile = true
is_named_file _ = false

-- the value is hexadecimal
abbrev pub is_hex_form : ValueForm → Bool
is_hex_form forms.Hex = true
is_hex_form _ = false

-- what stands for standard input, or for standard output; a file of this name is `./-`
abbrev pub dash : List ℕ
dash = codes "-"

-- the text is a dash
abbrev pub is_dash : List ℕ → Bool
is_dash text = bytes_eq text dash

-- what a temporary name begins with, under which a new file is filled
abbrev pub temporary : List ℕ
temporary = codes ".tinkey-new-"

-- the last part of a path, where it has one, begins so
abbrev pub begins_temporary : Option (List ℕ) → Bool
begins_temporary None = false
begins_temporary (Some last) = starts_with ◌==◌ last temporary

-- the path is a temporary name
unfoldable pub is_temporary : List ℕ → Bool
is_temporary path = begins_temporary (path_file_name path)

-- a self-test of more lines isn't made
abbrev pub most_lines : ℕ
most_lines = 100000

-- a range of more bytes isn't opened
abbrev pub most_range : ℕ
most_range = 16777216

-- a number is there, and may be the length of a range
abbrev pub is_range_length : Option ℕ → Bool
is_range_length None = false
is_range_length (Some n) = nat_le n most_range

-- 1 to 19 decimal digits, and no sign, of a number below 2^63, as the size of a file is
abbrev pub is_offset : List ℕ → Bool
is_offset text =
    nat_lt 0 (length text) && nat_le (length text) 19 && all_ascii_digits text
    && nat_lt (digits_value 10 text) (2 ^ 63)

-- the offset that the text is, or none
unfoldable pub offset_in : List ℕ → Option ℕ
offset_in text = if is_offset text then Some (digits_value 10 text) else None

-- a number is there, and may be a count of lines
abbrev pub is_line_count : Option ℕ → Bool
is_line_count None = false
is_line_count (Some n) = nat_le 1 n && nat_le n most_lines

-- the form of a keyset of this name, in letters of either case
unfoldable pub format_of : List ℕ → Option Format
format_of text =
    if str_eq_ignore_ascii_case text (codes "json") then Some formats.Json
    else (if str_eq_ignore_ascii_case text (codes "binary") then Some formats.Binary
    else None)

-- the form of a sealed text or a tag, of an envelope, or of a stream, of this name, in letters of either case
unfoldable pub sealed_form_of : List ℕ → Option SealedForm
sealed_form_of text =
    if str_eq_ignore_ascii_case text (codes "text") then Some sealed.Text
    else (if str_eq_ignore_ascii_case text (codes "envelope") then Some sealed.Envelope
    else (if str_eq_ignore_ascii_case text (codes "stream") then Some sealed.Stream
    else None))

-- a datum of more bytes is too long
abbrev pub datum_limit : ℕ
datum_limit = 1048576

-- the text isn't too long for a datum
abbrev pub is_datum : List ℕ → Bool
is_datum text = nat_le (length text) datum_limit

-- hexadecimal digits of either case, two for each byte of a datum
abbrev pub is_hex : List ℕ → Bool
is_hex text =
    nat_le (length text) (2 * datum_limit) && (length text % 2 == 0) && list_all is_hex_digit text

-- such digits, one too many or too few, and not too many otherwise
abbrev pub is_odd_hex : List ℕ → Bool
is_odd_hex text =
    nat_le (length text) (2 * datum_limit) && (length text % 2 == 1) && list_all is_hex_digit text

-- the text is a value of this form: any text; the name of a file, which isn't empty, and isn't a dash but where the
-- file is read or made in place of standard input or output; that of a new one, which isn't a temporary name either; a
-- number, a count of lines, the length of a range, an offset in a file, the name of a keyset's form or of what key-of
-- is given, the word of a command that asks for keys, or a datum as it stands or in hexadecimal; a flag has none
unfoldable pub is_value : ValueForm → List ℕ → Bool
is_value forms.Text text = true
is_value forms.FileName text = nat_lt 0 (length text) && not (is_dash text)
is_value forms.Input text = nat_lt 0 (length text)
is_value forms.NewFile text = nat_lt 0 (length text) && not (is_dash text) && not (is_temporary text)
is_value forms.Output text = nat_lt 0 (length text) && not (is_temporary text)
is_value forms.Number text = is_some (number_in text)
is_value forms.LineCount text = is_line_count (number_in text)
is_value forms.RangeLength text = is_range_length (number_in text)
is_value forms.Offset text = is_some (offset_in text)
is_value forms.Format text = is_some (format_of text)
is_value forms.SealedForm text = is_some (sealed_form_of text)
is_value forms.Command text = is_some (primitive_named text)
is_value forms.Datum text = is_datum text
is_value forms.Hex text = is_hex text
is_value forms.Flag text = false
