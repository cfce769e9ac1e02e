-- The rows of the command's words: the commands with the options that each requires and may have, and
-- the options with the form of the value of each; made by tools/words of words.table.
use Rattle.std.specs.Prelude.{ℕ, List, [], ◌∷◌, Option, Some, None, codes}
use Rattle.key_msgs.specs.declared.primitive.Primitive.{Primitive}
use Rattle.key_msgs.specs.declared.primitive.Primitive.TheVariants as primitives
use Rattle.tinkey_words.specs.declared.words.names.CommandRow.{CommandRow as CodeRow}
use Rattle.tinkey_words.specs.declared.words.names.CommandName.{CommandName}
use Rattle.tinkey_words.specs.declared.words.names.CommandName.TheVariants as commands
use Rattle.tinkey_words.specs.declared.words.names.OptionName.{OptionName}
use Rattle.tinkey_words.specs.declared.words.names.OptionName.TheVariants as options
use Rattle.tinkey_words.specs.declared.words.rows.ValueForm.{ValueForm}
use Rattle.tinkey_words.specs.declared.words.rows.ValueForm.TheVariants as forms

-- The commands.

-- a command's word, the options that it requires, and those that it may have
pub record Row : Type 0 where
  pub word : List ℕ
  pub required : List OptionName
  pub optional : List OptionName

-- a row of these three
abbrev pub row : List ℕ → List OptionName → List OptionName → Row
row word required optional = record { word = word; required = required; optional = optional }

-- a command's row of the code, with its word as bytes
abbrev pub seen_row : CodeRow → Row
seen_row r = row r.word.now r.required.now r.optional.now

-- what commands require or may have, named after the first one that it is so of
abbrev pub create_keyset_requires : List OptionName
create_keyset_requires = options.KeyTemplate ∷ []

abbrev pub create_keyset_may : List OptionName
create_keyset_may = options.Out ∷ options.OutFormat ∷ options.Master ∷ options.MasterFormat ∷ []

abbrev pub add_key_may : List OptionName
add_key_may = options.In ∷ options.InFormat ∷ options.Out ∷ options.OutFormat ∷ options.Master
    ∷ options.MasterFormat ∷ []

abbrev pub promote_key_requires : List OptionName
promote_key_requires = options.KeyId ∷ []

abbrev pub list_keyset_may : List OptionName
list_keyset_may = options.In ∷ options.InFormat ∷ options.Master ∷ options.MasterFormat ∷ []

abbrev pub convert_keyset_may : List OptionName
convert_keyset_may = options.In ∷ options.InFormat ∷ options.Out ∷ options.OutFormat ∷ options.Master
    ∷ options.MasterFormat ∷ options.NewMaster ∷ options.NewMasterFormat ∷ []

abbrev pub list_key_templates_may : List OptionName
list_key_templates_may = options.For ∷ []

abbrev pub seal_requires : List OptionName
seal_requires = options.Keyset ∷ []

abbrev pub seal_may : List OptionName
seal_may = options.KeysetFormat ∷ options.Ad ∷ options.AdHex ∷ options.Out ∷ options.Master
    ∷ options.MasterFormat ∷ []

abbrev pub tag_may : List OptionName
tag_may = options.KeysetFormat ∷ options.Out ∷ options.Hex ∷ options.Master ∷ options.MasterFormat ∷ []

abbrev pub verify_requires : List OptionName
verify_requires = options.Keyset ∷ options.TagHex ∷ []

abbrev pub verify_may : List OptionName
verify_may = options.KeysetFormat ∷ options.Master ∷ options.MasterFormat ∷ []

abbrev pub derive_requires : List OptionName
derive_requires = options.Keyset ∷ options.Length ∷ []

abbrev pub session_may : List OptionName
session_may = options.KeysetFormat ∷ options.Out ∷ options.OutFormat ∷ options.Saved ∷ options.Master
    ∷ options.MasterFormat ∷ []

abbrev pub selftest_requires : List OptionName
selftest_requires = options.Seed ∷ []

abbrev pub selftest_may : List OptionName
selftest_may = options.Lines ∷ []

abbrev pub wrap_keyset_requires : List OptionName
wrap_keyset_requires = options.Master ∷ []

abbrev pub wrap_keyset_may : List OptionName
wrap_keyset_may = options.MasterFormat ∷ options.In ∷ options.InFormat ∷ options.Out ∷ options.OutFormat ∷ []

abbrev pub eseal_requires : List OptionName
eseal_requires = options.Keyset ∷ options.DekTemplate ∷ []

abbrev pub ereseal_may : List OptionName
ereseal_may = options.KeysetFormat ∷ options.Out ∷ options.Master ∷ options.MasterFormat ∷ []

abbrev pub srange_requires : List OptionName
srange_requires = options.Keyset ∷ options.File ∷ options.From ∷ options.Length ∷ []

abbrev pub key_of_may : List OptionName
key_of_may = options.KeysetFormat ∷ options.Ad ∷ options.AdHex ∷ options.Master ∷ options.MasterFormat
    ∷ options.As ∷ []

abbrev pub key_of_streams : List OptionName
key_of_streams = options.Ad ∷ options.AdHex ∷ []

-- the row of each command
abbrev pub row_of : CommandName → Row
row_of commands.CreateKeyset = row (codes "create-keyset") create_keyset_requires create_keyset_may
row_of commands.AddKey = row (codes "add-key") create_keyset_requires add_key_may
row_of commands.RotateKeyset = row (codes "rotate-keyset") create_keyset_requires add_key_may
row_of commands.PromoteKey = row (codes "promote-key") promote_key_requires add_key_may
row_of commands.EnableKey = row (codes "enable-key") promote_key_requires add_key_may
row_of commands.DisableKey = row (codes "disable-key") promote_key_requires add_key_may
row_of commands.DestroyKey = row (codes "destroy-key") promote_key_requires add_key_may
row_of commands.DeleteKey = row (codes "delete-key") promote_key_requires add_key_may
row_of commands.ListKeyset = row (codes "list-keyset") [] list_keyset_may
row_of commands.ConvertKeyset = row (codes "convert-keyset") [] convert_keyset_may
row_of commands.ListKeyTemplates = row (codes "list-key-templates") [] list_key_templates_may
row_of commands.Seal = row (codes "seal") seal_requires seal_may
row_of commands.Open = row (codes "open") seal_requires seal_may
row_of commands.Dseal = row (codes "dseal") seal_requires seal_may
row_of commands.Dopen = row (codes "dopen") seal_requires seal_may
row_of commands.Reseal = row (codes "reseal") seal_requires seal_may
row_of commands.Dreseal = row (codes "dreseal") seal_requires seal_may
row_of commands.Sseal = row (codes "sseal") seal_requires seal_may
row_of commands.Sopen = row (codes "sopen") seal_requires seal_may
row_of commands.Sreseal = row (codes "sreseal") seal_requires seal_may
row_of commands.Tag = row (codes "tag") seal_requires tag_may
row_of commands.Verify = row (codes "verify") verify_requires verify_may
row_of commands.Derive = row (codes "derive") derive_requires tag_may
row_of commands.Session = row (codes "session") seal_requires session_may
row_of commands.Selftest = row (codes "selftest") selftest_requires selftest_may
row_of commands.WrapKeyset = row (codes "wrap-keyset") wrap_keyset_requires wrap_keyset_may
row_of commands.UnwrapKeyset = row (codes "unwrap-keyset") wrap_keyset_requires wrap_keyset_may
row_of commands.Eseal = row (codes "eseal") eseal_requires seal_may
row_of commands.Eopen = row (codes "eopen") eseal_requires seal_may
row_of commands.Ereseal = row (codes "ereseal") eseal_requires ereseal_may
row_of commands.Srange = row (codes "srange") srange_requires seal_may
row_of commands.KeyOf = row (codes "key-of") seal_requires key_of_may

-- the options of a command that mean something for a stream alone
abbrev pub for_streams : CommandName → List OptionName
for_streams commands.KeyOf = key_of_streams
for_streams _ = []

-- the primitive of the keys that a command asks for: of its keyset, or, to wrap and to unwrap, of the master
abbrev pub primitive_of : CommandName → Option Primitive
primitive_of commands.Seal = Some primitives.Aead
primitive_of commands.Open = Some primitives.Aead
primitive_of commands.Dseal = Some primitives.Daead
primitive_of commands.Dopen = Some primitives.Daead
primitive_of commands.Reseal = Some primitives.Aead
primitive_of commands.Dreseal = Some primitives.Daead
primitive_of commands.Sseal = Some primitives.Stream
primitive_of commands.Sopen = Some primitives.Stream
primitive_of commands.Sreseal = Some primitives.Stream
primitive_of commands.Tag = Some primitives.Mac
primitive_of commands.Verify = Some primitives.Mac
primitive_of commands.Derive = Some primitives.Prf
primitive_of commands.WrapKeyset = Some primitives.Aead
primitive_of commands.UnwrapKeyset = Some primitives.Aead
primitive_of commands.Eseal = Some primitives.Aead
primitive_of commands.Eopen = Some primitives.Aead
primitive_of commands.Ereseal = Some primitives.Aead
primitive_of commands.Srange = Some primitives.Stream
primitive_of _ = None

-- all commands
abbrev pub all_commands : List CommandName
all_commands =
    commands.CreateKeyset ∷ commands.AddKey ∷ commands.RotateKeyset ∷ commands.PromoteKey
    ∷ commands.EnableKey ∷ commands.DisableKey ∷ commands.DestroyKey ∷ commands.DeleteKey
    ∷ commands.ListKeyset ∷ commands.ConvertKeyset ∷ commands.ListKeyTemplates ∷ commands.Seal
    ∷ commands.Open ∷ commands.Dseal ∷ commands.Dopen ∷ commands.Reseal ∷ commands.Dreseal
    ∷ commands.Sseal ∷ commands.Sopen ∷ commands.Sreseal ∷ commands.Tag ∷ commands.Verify
    ∷ commands.Derive ∷ commands.Session ∷ commands.Selftest ∷ commands.WrapKeyset
    ∷ commands.UnwrapKeyset ∷ commands.Eseal ∷ commands.Eopen ∷ commands.Ereseal ∷ commands.Srange
    ∷ commands.KeyOf ∷ []

-- The options.

-- an option's place among them, its word, and the form of its value
pub record OptionRow : Type 0 where
  pub place : ℕ
  pub word : List ℕ
  pub form : ValueForm

-- a row of these three
abbrev pub option : ℕ → List ℕ → ValueForm → OptionRow
option place word form = record { place = place; word = word; form = form }

-- the row of each option
abbrev pub option_row : OptionName → OptionRow
option_row options.KeyTemplate = option 0 (codes "--key-template") forms.Text
option_row options.KeyId = option 1 (codes "--key-id") forms.Number
option_row options.In = option 2 (codes "--in") forms.Input
option_row options.InFormat = option 3 (codes "--in-format") forms.Format
option_row options.Out = option 4 (codes "--out") forms.Output
option_row options.OutFormat = option 5 (codes "--out-format") forms.Format
option_row options.Keyset = option 6 (codes "--keyset") forms.FileName
option_row options.KeysetFormat = option 7 (codes "--keyset-format") forms.Format
option_row options.Ad = option 8 (codes "--ad") forms.Datum
option_row options.AdHex = option 9 (codes "--ad-hex") forms.Hex
option_row options.TagHex = option 10 (codes "--tag-hex") forms.Hex
option_row options.Length = option 11 (codes "--length") forms.Number
option_row options.Seed = option 12 (codes "--seed") forms.Number
option_row options.Lines = option 13 (codes "--lines") forms.LineCount
option_row options.Master = option 14 (codes "--master") forms.FileName
option_row options.MasterFormat = option 15 (codes "--master-format") forms.Format
option_row options.NewMaster = option 16 (codes "--new-master") forms.FileName
option_row options.NewMasterFormat = option 17 (codes "--new-master-format") forms.Format
option_row options.DekTemplate = option 18 (codes "--dek-template") forms.Text
option_row options.File = option 19 (codes "--file") forms.FileName
option_row options.From = option 20 (codes "--from") forms.Offset
option_row options.Hex = option 21 (codes "--hex") forms.Flag
option_row options.As = option 22 (codes "--as") forms.SealedForm
option_row options.For = option 23 (codes "--for") forms.Command
option_row options.Saved = option 24 (codes "--saved") forms.Flag

-- all options, in the order of their places
abbrev pub all_options : List OptionName
all_options =
    options.KeyTemplate ∷ options.KeyId ∷ options.In ∷ options.InFormat ∷ options.Out
    ∷ options.OutFormat ∷ options.Keyset ∷ options.KeysetFormat ∷ options.Ad ∷ options.AdHex
    ∷ options.TagHex ∷ options.Length ∷ options.Seed ∷ options.Lines ∷ options.Master
    ∷ options.MasterFormat ∷ options.NewMaster ∷ options.NewMasterFormat ∷ options.DekTemplate
    ∷ options.File ∷ options.From ∷ options.Hex ∷ options.As ∷ options.For ∷ options.Saved ∷ []

-- the option that must not stand beside this one, which gives the same thing
abbrev pub rival : OptionName → Option OptionName
rival options.Ad = Some options.AdHex
rival options.AdHex = Some options.Ad
rival _ = None

-- the options that mean nothing without another, each with that one
abbrev pub needs : List (OptionName × OptionName)
needs =
    (options.MasterFormat, options.Master) ∷ (options.NewMasterFormat, options.NewMaster) ∷ []

-- the form of the value of --out
abbrev pub out_form : CommandName → ValueForm
out_form commands.Session = forms.NewFile
out_form _ = forms.Output

-- the form of the value of --length
abbrev pub length_form : CommandName → ValueForm
length_form commands.Srange = forms.RangeLength
length_form _ = forms.Number

-- the form of the option's value, for the command
abbrev pub form_for : OptionName → CommandName → ValueForm
form_for options.Out command = out_form command
form_for options.Length command = length_form command
form_for name command = (option_row name).form
