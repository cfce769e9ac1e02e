-- The grammar of the command's words: a command, and then options in any order, each at most once,
-- as `--name value` in two words or `--name=value` in one, and a flag as `--name` alone; or a few words that
-- ask for help or for the version. Names has the rows of commands and options.
--
-- The answer is a command, or the first word at fault, by its place and by why it is so: an unknown
-- command or option, one that the command doesn't have, a repeat, the second of two that exclude each
-- other, or one that holds a value that isn't of its form, as a temporary name for a new file, a dash where it stands for
-- no file, or an odd number of hexadecimal digits; of help, a topic that isn't known, or a word too many. Where a value,
-- a required option, or one that another needs is missing at the end, or an option is there that means something for
-- a stream alone and no word says that there is one, the place is the
-- number of words; they are looked for in this order. Places count from 0.
use Rattle.std.specs.Prelude.{◌≡◌, ℕ, ◌+◌, ◌*◌, List, [], ◌∷◌, length, Bool, false, ◌&&◌, ◌||◌, Option, Some, None, is_some, option_map, not, Result, Ok, Err, ◌==◌, nat_lt, nat_le, if◌then◌else◌, slice_index_or, codes, true}
use Rattle.std.specs.List.{find, position_or_len, before_first, after_first}
use Rattle.std.specs.Borrow.{Bor}
use Rattle.std.specs.Option.{option_and_then}
use Rattle.std.specs.Str.{bytes_eq}
use Rattle.hex.specs.Hex.{decode_of}
use Rattle.hex.specs.declared.error.FromHexError.{FromHexError}
use Rattle.key_msgs.specs.declared.primitive.Primitive.{Primitive}
use Rattle.key_msgs.specs.declared.primitive.Primitive.TheVariants.{Aead, Daead, Mac, Prf}
use Rattle.tinkey_cmds.specs.Edits.{EditOf, seen_by}
use Rattle.tinkey_cmds.specs.Edits as edits
use Rattle.tinkey_cmds.specs.declared.command.KeysetEdit.{KeysetEdit}
use Rattle.tinkey_words.specs.declared.words.request.Request.{Request}
use Rattle.tinkey_words.specs.declared.words.request.Request.TheVariants as asks
use Rattle.tinkey_words.specs.declared.words.options.Options.{Options as CodeOptions}
use Rattle.tinkey_words.specs.declared.words.request.KeysetFile.{KeysetFile as CodePlace}
use Rattle.tinkey_words.specs.declared.words.range.Range.{Range as CodeRange}
use Rattle.tinkey_words.specs.declared.words.lock.Master.{Master as CodeMaster}
use Rattle.tinkey_words.specs.declared.words.lock.NewLock.{NewLock as CodeNewLock}
use Rattle.tinkey_words.specs.declared.words.lock.NewLock.TheVariants as locks
use Rattle.tinkey_words.specs.declared.words.request.Output.{Output as CodeOutput}
use Rattle.tinkey_words.specs.declared.words.request.Datum.{Datum}
use Rattle.tinkey_words.specs.declared.words.request.Datum.TheVariants as data'
use Rattle.tinkey_words.specs.declared.words.request.Work.{Work}
use Rattle.tinkey_words.specs.declared.words.request.Work.TheVariants as works
use Rattle.tinkey_words.specs.declared.words.request.StreamWork.{StreamWork}
use Rattle.tinkey_words.specs.declared.words.request.StreamWork.TheVariants as streams
use Rattle.tinkey_words.specs.declared.words.request.Envelope.{Envelope}
use Rattle.tinkey_words.specs.declared.words.request.Envelope.TheVariants as envelopes
use Rattle.tinkey_words.specs.declared.words.help.First.{First}
use Rattle.tinkey_words.specs.declared.words.help.First.TheVariants as firsts
use Rattle.tinkey_words.specs.declared.words.help.Topic.{Topic}
use Rattle.tinkey_words.specs.declared.words.help.Topic.TheVariants as topics
use Rattle.tinkey_words.specs.declared.words.misuse.Misfit.{Misfit}
use Rattle.tinkey_words.specs.declared.words.misuse.Misfit.TheVariants as misfits
use Rattle.tinkey_words.specs.declared.words.misuse.Misuse.{Misuse}
use Rattle.tinkey_words.specs.declared.words.rows.ValueForm.{ValueForm}
use Rattle.tinkey_words.specs.declared.words.rows.Format.{Format}
use Rattle.tinkey_words.specs.declared.words.rows.Format.TheVariants as formats
use Rattle.tinkey_words.specs.declared.words.rows.SealedForm.{SealedForm}
use Rattle.tinkey_words.specs.declared.words.rows.SealedForm.TheVariants as sealed
use Rattle.tinkey_words.specs.declared.words.names.CommandName.{CommandName}
use Rattle.tinkey_words.specs.declared.words.names.CommandName.TheVariants as commands
use Rattle.tinkey_words.specs.declared.words.names.OptionName.{OptionName}
use Rattle.tinkey_words.specs.declared.words.names.OptionName.TheVariants as options
use Rattle.tink_base.specs.Decimal.{number_in}
use Rattle.tinkey_words.specs.Names.{row_of, option_row, form_for, rival, needs, for_streams}
use Rattle.tinkey_words.specs.Rows.{command_of, option_of, same, takes, datum_limit, most_range, format_of, sealed_form_of, is_temporary, is_new_file, is_value, offset_in, is_flag, is_dash, is_hex_form, is_named_file, is_odd_hex, primitive_named}

-- What is asked.

-- the change of a keyset that the words ask for, by the name of a template
abbrev pub AskedEdit : Type 0
AskedEdit = EditOf (List ℕ)

-- what is done with the whole input by the keys of a keyset
pub data AskedWork : Type 0 where
  -- it is sealed, or opened, with this associated data
  to_seal : (ad : List ℕ) → AskedWork
  to_open : (ad : List ℕ) → AskedWork
  -- the same, deterministic
  to_dseal : (ad : List ℕ) → AskedWork
  to_dopen : (ad : List ℕ) → AskedWork
  -- it is opened, and the plaintext is sealed, both with this associated data; the same, deterministic
  to_reseal : (ad : List ℕ) → AskedWork
  to_dreseal : (ad : List ℕ) → AskedWork
  -- its tag is made, or this one is compared with it
  to_tag : AskedWork
  to_verify : (tag : List ℕ) → AskedWork
  -- so many bytes are derived from it
  to_derive : (size : ℕ) → AskedWork

-- the primitive of the keys that do it
abbrev pub primitive_for : AskedWork → Primitive
primitive_for (to_seal ad) = Aead
primitive_for (to_open ad) = Aead
primitive_for (to_dseal ad) = Daead
primitive_for (to_dopen ad) = Daead
primitive_for (to_reseal ad) = Aead
primitive_for (to_dreseal ad) = Daead
primitive_for to_tag = Mac
primitive_for (to_verify tag) = Mac
primitive_for (to_derive size) = Prf

-- where a keyset is taken from or put, and in which form: the file of this name, or none for standard
-- input and output
pub record KeysetFile : Type 0 where
  pub file : Option (List ℕ)
  pub form : Format

-- the master of other keysets: the keyset in the file of this name, in this form
pub record Master : Type 0 where
  pub file : List ℕ
  pub form : Format

-- the master under which a keyset lies sealed, or none, and it lies in clear
abbrev pub Lock : Type 0
Lock = Option Master

-- how a keyset is put: under the master that it was taken under, or in clear as that was; in clear; or
-- under this master
pub data NewLock : Type 0 where
  as_taken : NewLock
  in_clear : NewLock
  under : (master : Master) → NewLock

-- where the bytes that work by keys gives are put, as a place but in no form of keysets: as they are, or
-- in hexadecimal
pub record Output : Type 0 where
  pub file : Option (List ℕ)
  pub hex : Bool

-- what is done with the whole input by data keys under the keys of a keyset, with this associated data
pub data AskedEnvelope : Type 0 where
  to_eseal : (ad : List ℕ) → AskedEnvelope
  to_eopen : (ad : List ℕ) → AskedEnvelope
  -- the data key of an envelope is opened and sealed again; its payload isn't opened, so no associated data
  -- take part
  to_ereseal : AskedEnvelope

-- so many bytes of a plaintext from this offset on, of the stream in the file of this name
pub record AskedRange : Type 0 where
  pub file : List ℕ
  pub from : ℕ
  pub size : ℕ

-- what the words ask for, without where they lie in memory. Where there is a lock, it is that of the keyset
-- that is taken, and of the one that is put.
pub data Asked : Type 0 where
  -- a new keyset of one key, by the template of this name
  create_keyset : (lock : Lock) (template : List ℕ) (out : KeysetFile) → Asked
  -- a keyset, changed
  edit_keyset : (lock : Lock) (edit : AskedEdit) (in' out : KeysetFile) → Asked
  -- the listing of a keyset
  list_keyset : (lock : Lock) (in' : KeysetFile) → Asked
  -- the keys under which the input stands, of the keyset in the file of this name; a stream has these
  -- associated data
  key_of : (lock : Lock) (keyset : List ℕ) (form : Format) (kind : SealedForm) (ad : List ℕ) → Asked
  -- a keyset, in another place, and where it is asked for under another master or in clear
  convert_keyset : (lock : Lock) (new : NewLock) (in' out : KeysetFile) → Asked
  -- the names of the templates, where a primitive is given of those whose keys have it
  list_key_templates : (primitive : Option Primitive) → Asked
  -- work on the input, by the keys of the keyset in the file of this name, and where it is put
  use_keyset : (lock : Lock) (keyset : List ℕ) (form : Format) (work : AskedWork) (out : Output)
      → Asked
  -- the same by data keys, which are of the template of this name, under such keys
  use_envelope : (lock : Lock) (keyset : List ℕ) (form : Format) (template : List ℕ)
      (work : AskedEnvelope) (out : Option (List ℕ)) → Asked
  -- work on the input as a stream, by such keys, with this associated data, and the new file that its output
  -- becomes, whole or not at all
  use_stream : (lock : Lock) (keyset : List ℕ) (form : Format) (work : StreamWork) (ad : List ℕ)
      (out : Option (List ℕ)) → Asked
  -- a range of the stream in a file, opened by such a keyset, with this associated data, and the new file
  -- that it becomes
  open_range : (lock : Lock) (keyset : List ℕ) (form : Format) (ad : List ℕ) (range : AskedRange)
      (out : Option (List ℕ)) → Asked
  -- the lines of the input, answered over such a keyset, where the last keyset is put, and whether lines seal
  -- and tag only under a keyset that a file has
  session : (lock : Lock) (keyset : List ℕ) (form : Format) (out : KeysetFile) (saved_only : Bool) → Asked
  -- so many lines of a session, made from a number, and what becomes of them
  self_test : (seed lines : ℕ) → Asked
  -- what a topic has to say, and the version
  help : (topic : Topic) → Asked
  version : Asked

-- The input is sealed as a stream, opened as one, or opened and its plaintext sealed, both with this associated data.
abbrev pub seal_stream : (lock : Lock) (keyset : List ℕ) (form : Format) (ad : List ℕ)
    (out : Option (List ℕ)) → Asked
seal_stream lock keyset form ad out = use_stream lock keyset form streams.Seal ad out

abbrev pub open_stream : (lock : Lock) (keyset : List ℕ) (form : Format) (ad : List ℕ)
    (out : Option (List ℕ)) → Asked
open_stream lock keyset form ad out = use_stream lock keyset form streams.Open ad out

abbrev pub reseal_stream : (lock : Lock) (keyset : List ℕ) (form : Format) (ad : List ℕ)
    (out : Option (List ℕ)) → Asked
reseal_stream lock keyset form ad out = use_stream lock keyset form streams.Reseal ad out

-- A keyset is sealed under the master in the file of this name; and one that was so is opened.
abbrev pub wrap_keyset : (master : List ℕ) (form : Format) (in' out : KeysetFile) → Asked
wrap_keyset master form in' out =
    convert_keyset None (under (record { file = master; form = form })) in' out

abbrev pub unwrap_keyset : (master : List ℕ) (form : Format) (in' out : KeysetFile) → Asked
unwrap_keyset master form in' out =
    convert_keyset (Some (record { file = master; form = form })) in_clear in' out

-- the values that were given, by option
abbrev pub Values : Type 0
Values = OptionName → Option (List ℕ)

-- the text of an option that the command requires
abbrev pub text : Option (List ℕ) → List ℕ
text None = []
text (Some value) = value

-- the number of such an option
abbrev pub or_zero : Option ℕ → ℕ
or_zero None = 0
or_zero (Some n) = n

-- the number that an option gives, whose value is one
abbrev pub number : Option (List ℕ) → ℕ
number value = or_zero (number_in (text value))

-- the offset that an option gives, whose value is one
abbrev pub offset : Option (List ℕ) → ℕ
offset value = or_zero (offset_in (text value))

-- a datum as it stands; one that is too long is none
abbrev pub datum_as : List ℕ → List ℕ
datum_as plain = if nat_le (length plain) datum_limit then plain else []

-- what was decoded, or nothing
abbrev pub decoded : Result (List ℕ) FromHexError → List ℕ
decoded (Ok bytes) = bytes
decoded (Err error) = []

-- a datum in hexadecimal; one that is too long is none
abbrev pub datum_of_hex : List ℕ → List ℕ
datum_of_hex hex = if nat_le (length hex) (2 * datum_limit) then decoded (decode_of hex) else []

-- a datum that is given as it stands or in hexadecimal, or isn't given
abbrev pub datum : Option (List ℕ) → Option (List ℕ) → List ℕ
datum (Some plain) hex = datum_as plain
datum None hex = datum_of_hex (text hex)

-- the associated data
abbrev pub ad : Values → List ℕ
ad values = datum (values options.Ad) (values options.AdHex)

-- the id of the key that is changed
abbrev pub id : Values → ℕ
id values = number (values options.KeyId)

-- the name of the template of a new key
abbrev pub template : Values → List ℕ
template values = text (values options.KeyTemplate)

-- how many lines a self-test has, where it isn't said
abbrev pub known_lines : ℕ
known_lines = 1000

-- the number of lines that an option gives, or where it isn't given, the known one
abbrev pub lines_in : Option (List ℕ) → ℕ
lines_in None = known_lines
lines_in (Some value) = or_zero (number_in value)

-- the form of a keyset, JSON where none is given
abbrev pub known_form : Option Format → Format
known_form None = formats.Json
known_form (Some form) = form

-- the form that an option gives
abbrev pub form_in : Option (List ℕ) → Format
form_in value = known_form (format_of (text value))

-- what key-of is given, a text where it isn't said
abbrev pub known_sealed : Option SealedForm → SealedForm
known_sealed None = sealed.Text
known_sealed (Some kind) = kind

-- what an option says that it is
abbrev pub sealed_in : Option (List ℕ) → SealedForm
sealed_in value = known_sealed (sealed_form_of (text value))

-- the primitive of the keys that the command asks for that is named for templates, where one is
abbrev pub served : Values → Option Primitive
served values = option_and_then primitive_named (values options.For)

-- where a keyset is taken from
abbrev pub taken_from : Values → KeysetFile
taken_from values = record { file = values options.In; form = form_in (values options.InFormat) }

-- where a keyset is put
abbrev pub put_to : Values → KeysetFile
put_to values = record { file = values options.Out; form = form_in (values options.OutFormat) }

-- the master in the file of this name, where one is given, in the form that this value gives
abbrev pub lock_of : Option (List ℕ) → (form : Option (List ℕ)) → Lock
lock_of None form = None
lock_of (Some file) form = Some (record { file = file; form = form_in form })

-- the master of the keysets of a command
abbrev pub lock : Values → Lock
lock values = lock_of (values options.Master) (values options.MasterFormat)

-- the same, or where it isn't given, none
abbrev pub relocked : Lock → NewLock
relocked None = as_taken
relocked (Some master) = under master

-- the master of a keyset that is put elsewhere
abbrev pub new_lock : Values → NewLock
new_lock values = relocked (lock_of (values options.NewMaster) (values options.NewMasterFormat))

-- where the bytes of work by keys are put
abbrev pub output_in : Values → Output
output_in values = record { file = values options.Out; hex = is_some (values options.Hex) }

-- a session seals and tags only under a keyset that a file has
abbrev pub saved_only : Values → Bool
saved_only values = is_some (values options.Saved)

-- a keyset that is changed so
abbrev pub edited : AskedEdit → Values → Asked
edited edit values = edit_keyset (lock values) edit (taken_from values) (put_to values)

-- work by the keys of a keyset
abbrev pub worked : AskedWork → Values → Asked
worked work values =
    use_keyset (lock values) (text (values options.Keyset)) (form_in (values options.KeysetFormat))
    work (output_in values)

-- work by data keys
abbrev pub enveloped : AskedEnvelope → Values → Asked
enveloped work values =
    use_envelope (lock values) (text (values options.Keyset)) (form_in (values options.KeysetFormat))
    (text (values options.DekTemplate)) work (values options.Out)

-- work on a stream
abbrev pub streamed : StreamWork → Values → Asked
streamed work values =
    use_stream (lock values) (text (values options.Keyset)) (form_in (values options.KeysetFormat))
    work (ad values) (values options.Out)

-- a length of a range; one that is too long is none
abbrev pub range_length : ℕ → ℕ
range_length n = if nat_le n most_range then n else 0

-- the range that is asked for
abbrev pub range : Values → AskedRange
range values = record {
  file = text (values options.File);
  from = offset (values options.From);
  size = range_length (number (values options.Length));
}

-- what each command asks with these values of its options
abbrev pub asked_with : CommandName → Values → Asked
asked_with commands.CreateKeyset values =
    create_keyset (lock values) (template values) (put_to values)
asked_with commands.AddKey values = edited (edits.Add (template values)) values
asked_with commands.RotateKeyset values = edited (edits.Rotate (template values)) values
asked_with commands.PromoteKey values = edited (edits.Promote (id values)) values
asked_with commands.EnableKey values = edited (edits.Enable (id values)) values
asked_with commands.DisableKey values = edited (edits.Disable (id values)) values
asked_with commands.DestroyKey values = edited (edits.Destroy (id values)) values
asked_with commands.DeleteKey values = edited (edits.Delete (id values)) values
asked_with commands.ListKeyset values = list_keyset (lock values) (taken_from values)
asked_with commands.ConvertKeyset values =
    convert_keyset (lock values) (new_lock values) (taken_from values) (put_to values)
asked_with commands.ListKeyTemplates values = list_key_templates (served values)
asked_with commands.Seal values = worked (to_seal (ad values)) values
asked_with commands.Open values = worked (to_open (ad values)) values
asked_with commands.Dseal values = worked (to_dseal (ad values)) values
asked_with commands.Dopen values = worked (to_dopen (ad values)) values
asked_with commands.Reseal values = worked (to_reseal (ad values)) values
asked_with commands.Dreseal values = worked (to_dreseal (ad values)) values
asked_with commands.Sseal values = streamed streams.Seal values
asked_with commands.Sopen values = streamed streams.Open values
asked_with commands.Sreseal values = streamed streams.Reseal values
asked_with commands.Tag values = worked to_tag values
asked_with commands.Verify values =
    worked (to_verify (datum_of_hex (text (values options.TagHex)))) values
asked_with commands.Derive values = worked (to_derive (number (values options.Length))) values
asked_with commands.Selftest values =
    self_test (number (values options.Seed)) (lines_in (values options.Lines))
asked_with commands.Session values =
    session (lock values) (text (values options.Keyset)) (form_in (values options.KeysetFormat))
    (put_to values) (saved_only values)
asked_with commands.WrapKeyset values =
    convert_keyset None (relocked (lock values)) (taken_from values) (put_to values)
asked_with commands.UnwrapKeyset values =
    convert_keyset (lock values) in_clear (taken_from values) (put_to values)
asked_with commands.Eseal values = enveloped (to_eseal (ad values)) values
asked_with commands.Eopen values = enveloped (to_eopen (ad values)) values
asked_with commands.Ereseal values = enveloped to_ereseal values
asked_with commands.Srange values =
    open_range (lock values) (text (values options.Keyset)) (form_in (values options.KeysetFormat))
    (ad values) (range values) (values options.Out)
asked_with commands.KeyOf values =
    key_of (lock values) (text (values options.Keyset)) (form_in (values options.KeysetFormat))
    (sealed_in (values options.As)) (ad values)

-- the value is there, and is a dash
abbrev pub holds_dash : Option (List ℕ) → Bool
holds_dash None = false
holds_dash (Some value) = is_dash value

-- the values, with none for this option where its own is a dash
abbrev pub without_dash : OptionName → Values → Values
without_dash name values other =
    if same name other && holds_dash (values other) then None else values other

-- the values as they are meant: `--in -` is standard input, and `--out -` standard output, as they are where the option
-- isn't given
abbrev pub meant : Values → Values
meant values = without_dash options.Out (without_dash options.In values)

-- what a command asks where these values were given
abbrev pub asked_by : CommandName → Values → Asked
asked_by command values = asked_with command (meant values)

-- The words, one after another.

infixl 10 ◌>>=◌
-- what comes next, where no word is at fault before it
abbrev pub ◌>>=◌ : {A B : Type 0} → Result A Misuse → (A → Result B Misuse) → Result B Misuse
(Ok value) >>= next = next value
(Err misuse) >>= next = Err misuse

-- the word of this place is at fault, for this reason
abbrev pub misuse_at : ℕ → Misfit → Misuse
misuse_at place why = record { place = place; why = why }

-- the options that were given, and the one whose value is the next word
pub record Options : Type 0 where
  pub values : Values
  pub waiting : Option OptionName

-- an equals sign
abbrev pub is_equals : ℕ → Bool
is_equals b = b == 61

-- a word that has a value of its own, `--name=value`, as name and value
unfoldable pub own_value : List ℕ → Option (List ℕ × List ℕ)
own_value word =
    if nat_lt (position_or_len is_equals word) (length word)
    then Some (before_first is_equals word, after_first is_equals word) else None

-- the option was given before
abbrev pub is_given : OptionName → Options → Bool
is_given name given = is_some (given.values name)

-- the option that excludes this one was given
abbrev pub is_excluded : Option OptionName → Options → Bool
is_excluded None given = false
is_excluded (Some other) given = is_given other given

-- the option was given before, or one that excludes it
abbrev pub is_barred : OptionName → Options → Bool
is_barred name given = is_given name given || is_excluded (rival name) given

-- why an option that has this rival is barred: it was given before, or else its rival was
abbrev pub bar : CommandName → OptionName → Option OptionName → Options → Misfit
bar command name None given = misfits.Twice command name
bar command name (Some other) given =
    if is_given name given then misfits.Twice command name else misfits.Beside command name other

-- the option, where nothing bars it; its word has this place
abbrev pub unbarred : CommandName → OptionName → ℕ → Options → Result OptionName Misuse
unbarred command name place given =
    if is_barred name given then Err (misuse_at place (bar command name (rival name) given)) else Ok name

-- an option of the command that isn't given yet; its word has this place
abbrev pub new_option : CommandName → Option OptionName → ℕ → Options → Result OptionName Misuse
new_option command None place given = Err (misuse_at place (misfits.NoOption command))
new_option command (Some name) place given =
    if takes command name then unbarred command name place given
    else Err (misuse_at place (misfits.NoOption command))

-- these options and this one with its value
abbrev pub put : OptionName → List ℕ → Options → Options
put name value given = record {
  values = (λ other. if same name other then Some value else given.values other);
  waiting = None;
}

-- why a value that isn't of this form is at fault: it is a temporary name for a new file, a dash where only a file's own
-- name is one, an odd number of hexadecimal digits, or any other
abbrev pub misvalued : ValueForm → CommandName → OptionName → List ℕ → Misfit
misvalued form command name value =
    if is_new_file form && is_temporary value then misfits.Temporary command name
    else (if is_named_file form && is_dash value then misfits.Dash command name
    else (if is_hex_form form && is_odd_hex value then misfits.OddHex command name
    else misfits.BadValue command name))

-- the option with its value, which stands in the word of this place and is of its form
abbrev pub with_value : CommandName → OptionName → List ℕ → ℕ → Options → Result Options Misuse
with_value command name value place given =
    if is_value (form_for name command) value then Ok (put name value given)
    else Err (misuse_at place (misvalued (form_for name command) command name value))

-- an option whose word has no value of its own: a flag is given by it, with the empty value, and any
-- other option waits for its value
abbrev pub alone : (flag : Bool) → OptionName → Options → Options
alone true name given = put name [] given
alone false name given = record given { waiting = Some name }

-- an option's word of this place: its value is its own, or is the next word
abbrev pub option_word : CommandName → Option (List ℕ × List ℕ) → List ℕ → ℕ → Options →
    Result Options Misuse
option_word command None word place given =
    new_option command (option_of word) place given
    >>= (λ name. Ok (alone (is_flag (option_row name).form) name given))
option_word command (Some own) word place given =
    new_option command (option_of own.0) place given
    >>= (λ name. with_value command name own.1 place given)

-- one more word, of this place: the value of the option that waits, or an option's word
abbrev pub word_after : Option OptionName → CommandName → List ℕ → ℕ → Options → Result Options Misuse
word_after (Some name) command word place given = with_value command name word place given
word_after None command word place given = option_word command (own_value word) word place given

-- one more word, of this place, behind the options so far
abbrev pub next_word : CommandName → List ℕ → ℕ → Options → Result Options Misuse
next_word command word place given = word_after given.waiting command word place given

-- the options at the end; where one waits for its value, that is missing at this place
abbrev pub ended : Option OptionName → CommandName → ℕ → Options → Result Options Misuse
ended (Some name) command place given = Err (misuse_at place (misfits.NoValue command name))
ended None command place given = Ok given

-- the options of these words, the first of which has this place, behind those so far
abbrev pub options_of : CommandName → ℕ → Options → List (List ℕ) → Result Options Misuse
options_of command place given [] = ended given.waiting command place given
options_of command place given (word ∷ words) =
    next_word command word place given >>= (λ more. options_of command (place + 1) more words)

-- no option yet
abbrev pub no_options : Options
no_options = record { values = (λ name. None); waiting = None }

-- the options of the command, whose own word has the place 0
unfoldable pub given_in : CommandName → List (List ℕ) → Result Options Misuse
given_in command words = options_of command 1 no_options words

-- the first of these options that isn't given
abbrev pub lacking : List OptionName → Options → Option OptionName
lacking names given = find (λ name. not (is_given name given)) names

-- the first of these options that is given without the one that it needs, and that one
abbrev pub unmet : List (OptionName × OptionName) → Options → Option (OptionName × OptionName)
unmet pairs given = find (λ need. is_given need.0 given && not (is_given need.1 given)) pairs

-- the words say that the input is a stream
abbrev pub is_stream : SealedForm → Bool
is_stream sealed.Stream = true
is_stream _ = false

-- the first of these options that is given
abbrev pub first_given : List OptionName → Options → Option OptionName
first_given names given = find (λ name. is_given name given) names

-- the first of these options, which mean something for a stream alone, that is given where there is none
abbrev pub idle : (stream : Bool) → List OptionName → Options → Option OptionName
idle true names given = None
idle false names given = first_given names given

-- the same of the options of the command
abbrev pub idle_of : CommandName → Options → Option OptionName
idle_of command given =
    idle (is_stream (sealed_in (given.values options.As))) (for_streams command) given

-- the command with its options, where none is for a stream that isn't there; the number of words is behind them
abbrev pub idle_none : Option OptionName → CommandName → ℕ → Options → Result Asked Misuse
idle_none None command count given = Ok (asked_by command given.values)
idle_none (Some name) command count given = Err (misuse_at count (misfits.NoStream command name))

-- the same, where each option that needs another has it
abbrev pub unmet_none : Option (OptionName × OptionName) → CommandName → ℕ → Options → Result Asked Misuse
unmet_none None command count given = idle_none (idle_of command given) command count given
unmet_none (Some need) command count given = Err (misuse_at count (misfits.Without command need.0 need.1))

-- the same, where it lacks none that it requires
abbrev pub lacking_none : Option OptionName → CommandName → ℕ → Options → Result Asked Misuse
lacking_none None command count given = unmet_none (unmet needs given) command count given
lacking_none (Some name) command count given = Err (misuse_at count (misfits.Lacks command name))

-- the command with its options, among so many words
abbrev pub complete : CommandName → ℕ → Options → Result Asked Misuse
complete command count given =
    lacking_none (lacking (row_of command).required given) command count given

-- the command with its options
abbrev pub with_options : CommandName → List (List ℕ) → Result Asked Misuse
with_options command words = given_in command words >>= complete command (1 + length words)

-- Words that ask for help.

-- the word is `--help` or `-h`
abbrev pub is_help_flag : List ℕ → Bool
is_help_flag word = bytes_eq word (codes "--help") || bytes_eq word (codes "-h")

-- the word is `version` or `--version`
abbrev pub is_version_word : List ℕ → Bool
is_version_word word = bytes_eq word (codes "version") || bytes_eq word (codes "--version")

-- the topic of this name: `exit`, `help`, `version`, or a command by its word
unfoldable pub topic_of : List ℕ → Option Topic
topic_of name =
    if bytes_eq name (codes "exit") then Some topics.Exit
    else (if bytes_eq name (codes "help") then Some topics.Help
    else (if bytes_eq name (codes "version") then Some topics.Version
    else option_map topics.Command (command_of name)))

-- what the first word stands for
unfoldable pub first_of : List ℕ → Option First
first_of name =
    if bytes_eq name (codes "help") then Some firsts.Help
    else (if is_help_flag name then Some firsts.HelpFlag
    else (if is_version_word name then Some firsts.Version
    else option_map firsts.Command (command_of name)))

-- what is asked, where no word stands behind; the first of them has this place
abbrev pub by_itself : ℕ → Asked → List (List ℕ) → Result Asked Misuse
by_itself place asked [] = Ok asked
by_itself place asked (word ∷ words) = Err (misuse_at place misfits.TooMany)

-- help on a topic, where its name is known
abbrev pub topic_words : Option Topic → List (List ℕ) → Result Asked Misuse
topic_words None words = Err (misuse_at 1 misfits.NoTopic)
topic_words (Some topic) words = by_itself 2 (help topic) words

-- what the words behind `help` ask: the list of commands, or a topic
abbrev pub help_words : List (List ℕ) → Result Asked Misuse
help_words [] = Ok (help topics.Commands)
help_words (name ∷ words) = topic_words (topic_of name) words

-- what a command's word and those behind it ask: help on the command, or what it does with its options
abbrev pub command_words : CommandName → List (List ℕ) → Result Asked Misuse
command_words command [] = with_options command []
command_words command (word ∷ words) =
    if is_help_flag word then by_itself 2 (help (topics.Command command)) words
    else with_options command (word ∷ words)

-- All words.

-- what the first word, where it is known, and those behind it ask
abbrev pub asked_of : Option First → List (List ℕ) → Result Asked Misuse
asked_of None words = Err (misuse_at 0 misfits.NoCommand)
asked_of (Some firsts.Help) words = help_words words
asked_of (Some firsts.HelpFlag) words = by_itself 1 (help topics.Commands) words
asked_of (Some firsts.Version) words = by_itself 1 version words
asked_of (Some (firsts.Command command)) words = command_words command words

-- what the words ask for, or the first one at fault
unfoldable pub words_of : List (List ℕ) → Result Asked Misuse
words_of [] = Err (misuse_at 0 misfits.NoCommand)
words_of (name ∷ words) = asked_of (first_of name) words

-- What the code's commands and options stand for.

-- an edit, with the bytes of its template's name
abbrev pub seen_edit : KeysetEdit (Bor (List ℕ)) → AskedEdit
seen_edit edit = seen_by (λ name. name.now) edit

-- the name of a file
abbrev pub seen_name : Option (Bor (List ℕ)) → Option (List ℕ)
seen_name name = option_map (λ name. name.now) name

-- a place of a keyset
abbrev pub seen_place : CodePlace → KeysetFile
seen_place place = record { file = seen_name place.file; form = place.form }

-- a master
abbrev pub seen_master : CodeMaster → Master
seen_master master = record { file = master.file.now; form = master.form }

-- a lock, or none
abbrev pub seen_lock : Option CodeMaster → Lock
seen_lock lock = option_map seen_master lock

-- how a keyset is put
abbrev pub seen_new_lock : CodeNewLock → NewLock
seen_new_lock locks.AsTaken = as_taken
seen_new_lock locks.InClear = in_clear
seen_new_lock (locks.Under master) = under (seen_master master)

-- a place of bytes
abbrev pub seen_output : CodeOutput → Output
seen_output output = record { file = seen_name output.file; hex = output.hex }

-- a datum, as its bytes
abbrev pub seen_datum : Datum → List ℕ
seen_datum (data'.Plain plain) = datum_as plain.now
seen_datum (data'.Hex hex) = datum_of_hex hex.now

-- work on the input, with its data as bytes
abbrev pub seen_work : Work → AskedWork
seen_work (works.Seal ad) = to_seal (seen_datum ad)
seen_work (works.Open ad) = to_open (seen_datum ad)
seen_work (works.Dseal ad) = to_dseal (seen_datum ad)
seen_work (works.Dopen ad) = to_dopen (seen_datum ad)
seen_work (works.Reseal ad) = to_reseal (seen_datum ad)
seen_work (works.Dreseal ad) = to_dreseal (seen_datum ad)
seen_work works.Tag = to_tag
seen_work (works.Verify tag) = to_verify (seen_datum tag)
seen_work (works.Derive size) = to_derive size

-- work by data keys, with its data as bytes
abbrev pub seen_envelope : Envelope → AskedEnvelope
seen_envelope (envelopes.Seal ad) = to_eseal (seen_datum ad)
seen_envelope (envelopes.Open ad) = to_eopen (seen_datum ad)
seen_envelope envelopes.Reseal = to_ereseal

-- a range, with the name of its file as bytes
abbrev pub seen_range : CodeRange → AskedRange
seen_range r = record { file = r.file.now; from = r.from; size = r.length }

-- what a command asks, with its names and data as bytes
abbrev pub seen_command : Request → Asked
seen_command (asks.CreateKeyset lock template output) =
    create_keyset (seen_lock lock) template.now (seen_place output)
seen_command (asks.EditKeyset lock edit input output) =
    edit_keyset (seen_lock lock) (seen_edit edit) (seen_place input) (seen_place output)
seen_command (asks.ListKeyset lock input) = list_keyset (seen_lock lock) (seen_place input)
seen_command (asks.KeyOf lock keyset form kind ad) =
    key_of (seen_lock lock) keyset.now form kind (seen_datum ad)
seen_command (asks.ConvertKeyset lock new input output) =
    convert_keyset (seen_lock lock) (seen_new_lock new) (seen_place input) (seen_place output)
seen_command (asks.ListKeyTemplates primitive) = list_key_templates primitive
seen_command (asks.UseKeyset lock keyset form work output) =
    use_keyset (seen_lock lock) keyset.now form (seen_work work) (seen_output output)
seen_command (asks.UseStream lock keyset form work ad output) =
    use_stream (seen_lock lock) keyset.now form work (seen_datum ad) (seen_name output)
seen_command (asks.OpenRange lock keyset form ad range output) =
    open_range (seen_lock lock) keyset.now form (seen_datum ad) (seen_range range) (seen_name output)
seen_command (asks.Session lock keyset form output saved_only) =
    session (seen_lock lock) keyset.now form (seen_place output) saved_only
seen_command (asks.SelfTest seed lines) = self_test seed lines
seen_command (asks.UseEnvelope lock keyset form template work output) =
    use_envelope (seen_lock lock) keyset.now form template.now (seen_envelope work) (seen_name output)
seen_command (asks.Help topic) = help topic
seen_command asks.Version = version

-- the values, which the code keeps at the places of their options
abbrev pub seen_values : List (Option (Bor (List ℕ))) → Values
seen_values values name = seen_name (slice_index_or values (option_row name).place None)

-- the options so far, as they are seen
abbrev pub seen_options : CodeOptions → Options
seen_options given = record { values = seen_values given.values; waiting = given.waiting }

-- what the code answers is what the definition gives, seen so, or the same word at fault for the same reason
abbrev pub Reads : {A B : Type 0} → (A → B) → Result A Misuse → Result B Misuse → Type 0
Reads view (Ok value) read = read ≡ Ok (view value)
Reads view (Err misuse) read = read ≡ Err misuse
