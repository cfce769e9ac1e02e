-- What holds of each command and option, by its row; made by tools/words of words.table.
use Rattle.std.proofs.Common.{◌≡◌, ◌≤◌, subst, refl, false, length, get_or, arith, Some}
use Rattle.std.specs.List.{position_or_len}
use Rattle.tinkey_words.specs.declared.words.names.CommandName.{CommandName}
use Rattle.tinkey_words.specs.declared.words.names.CommandName.TheVariants as commands
use Rattle.tinkey_words.specs.declared.words.names.OptionName.{OptionName}
use Rattle.tinkey_words.specs.declared.words.names.OptionName.TheVariants as options
use Rattle.tinkey_words.specs.Names.{row_of, option_row, all_options, rival, form_for, out_form, length_form}
use Rattle.tinkey_words.specs.Rows.{command_of, option_of, is_flag, is_one_of}
use Rattle.tinkey_words.specs.Words.{is_equals}

-- a command is found by its word
pub command_found : (command : CommandName) → command_of (row_of command).word ≡ Some command
unfolding command_of
command_found commands.CreateKeyset = refl
command_found commands.AddKey = refl
command_found commands.RotateKeyset = refl
command_found commands.PromoteKey = refl
command_found commands.EnableKey = refl
command_found commands.DisableKey = refl
command_found commands.DestroyKey = refl
command_found commands.DeleteKey = refl
command_found commands.ListKeyset = refl
command_found commands.ConvertKeyset = refl
command_found commands.ListKeyTemplates = refl
command_found commands.Seal = refl
command_found commands.Open = refl
command_found commands.Dseal = refl
command_found commands.Dopen = refl
command_found commands.Reseal = refl
command_found commands.Dreseal = refl
command_found commands.Sseal = refl
command_found commands.Sopen = refl
command_found commands.Sreseal = refl
command_found commands.Tag = refl
command_found commands.Verify = refl
command_found commands.Derive = refl
command_found commands.Session = refl
command_found commands.Selftest = refl
command_found commands.WrapKeyset = refl
command_found commands.UnwrapKeyset = refl
command_found commands.Eseal = refl
command_found commands.Eopen = refl
command_found commands.Ereseal = refl
command_found commands.Srange = refl
command_found commands.KeyOf = refl

-- how long its word is
pub command_short : (command : CommandName) → length (row_of command).word ≤ 18
command_short commands.CreateKeyset = omega arith
command_short commands.AddKey = omega arith
command_short commands.RotateKeyset = omega arith
command_short commands.PromoteKey = omega arith
command_short commands.EnableKey = omega arith
command_short commands.DisableKey = omega arith
command_short commands.DestroyKey = omega arith
command_short commands.DeleteKey = omega arith
command_short commands.ListKeyset = omega arith
command_short commands.ConvertKeyset = omega arith
command_short commands.ListKeyTemplates = omega arith
command_short commands.Seal = omega arith
command_short commands.Open = omega arith
command_short commands.Dseal = omega arith
command_short commands.Dopen = omega arith
command_short commands.Reseal = omega arith
command_short commands.Dreseal = omega arith
command_short commands.Sseal = omega arith
command_short commands.Sopen = omega arith
command_short commands.Sreseal = omega arith
command_short commands.Tag = omega arith
command_short commands.Verify = omega arith
command_short commands.Derive = omega arith
command_short commands.Session = omega arith
command_short commands.Selftest = omega arith
command_short commands.WrapKeyset = omega arith
command_short commands.UnwrapKeyset = omega arith
command_short commands.Eseal = omega arith
command_short commands.Eopen = omega arith
command_short commands.Ereseal = omega arith
command_short commands.Srange = omega arith
command_short commands.KeyOf = omega arith

-- no command requires an option whose file may be standard input or output
pub never_required : (command : CommandName) → (is_one_of options.In (row_of command).required ≡ false) × (is_one_of options.Out (row_of command).required ≡ false)
never_required commands.CreateKeyset = (refl, refl)
never_required commands.AddKey = (refl, refl)
never_required commands.RotateKeyset = (refl, refl)
never_required commands.PromoteKey = (refl, refl)
never_required commands.EnableKey = (refl, refl)
never_required commands.DisableKey = (refl, refl)
never_required commands.DestroyKey = (refl, refl)
never_required commands.DeleteKey = (refl, refl)
never_required commands.ListKeyset = (refl, refl)
never_required commands.ConvertKeyset = (refl, refl)
never_required commands.ListKeyTemplates = (refl, refl)
never_required commands.Seal = (refl, refl)
never_required commands.Open = (refl, refl)
never_required commands.Dseal = (refl, refl)
never_required commands.Dopen = (refl, refl)
never_required commands.Reseal = (refl, refl)
never_required commands.Dreseal = (refl, refl)
never_required commands.Sseal = (refl, refl)
never_required commands.Sopen = (refl, refl)
never_required commands.Sreseal = (refl, refl)
never_required commands.Tag = (refl, refl)
never_required commands.Verify = (refl, refl)
never_required commands.Derive = (refl, refl)
never_required commands.Session = (refl, refl)
never_required commands.Selftest = (refl, refl)
never_required commands.WrapKeyset = (refl, refl)
never_required commands.UnwrapKeyset = (refl, refl)
never_required commands.Eseal = (refl, refl)
never_required commands.Eopen = (refl, refl)
never_required commands.Ereseal = (refl, refl)
never_required commands.Srange = (refl, refl)
never_required commands.KeyOf = (refl, refl)

-- an option is found by its word, which has no equals sign, and by its place
pub record IsFound (name : OptionName) : Type 0 where
  pub word : option_of (option_row name).word ≡ Some name
  pub plain : position_or_len is_equals (option_row name).word ≡ length (option_row name).word
  pub place : get_or all_options (option_row name).place options.KeyTemplate ≡ name

pub is_found : (name : OptionName) → IsFound name
unfolding option_of
is_found options.KeyTemplate = record { word = refl; plain = refl; place = refl }
is_found options.KeyId = record { word = refl; plain = refl; place = refl }
is_found options.In = record { word = refl; plain = refl; place = refl }
is_found options.InFormat = record { word = refl; plain = refl; place = refl }
is_found options.Out = record { word = refl; plain = refl; place = refl }
is_found options.OutFormat = record { word = refl; plain = refl; place = refl }
is_found options.Keyset = record { word = refl; plain = refl; place = refl }
is_found options.KeysetFormat = record { word = refl; plain = refl; place = refl }
is_found options.Ad = record { word = refl; plain = refl; place = refl }
is_found options.AdHex = record { word = refl; plain = refl; place = refl }
is_found options.TagHex = record { word = refl; plain = refl; place = refl }
is_found options.Length = record { word = refl; plain = refl; place = refl }
is_found options.Seed = record { word = refl; plain = refl; place = refl }
is_found options.Lines = record { word = refl; plain = refl; place = refl }
is_found options.Master = record { word = refl; plain = refl; place = refl }
is_found options.MasterFormat = record { word = refl; plain = refl; place = refl }
is_found options.NewMaster = record { word = refl; plain = refl; place = refl }
is_found options.NewMasterFormat = record { word = refl; plain = refl; place = refl }
is_found options.DekTemplate = record { word = refl; plain = refl; place = refl }
is_found options.File = record { word = refl; plain = refl; place = refl }
is_found options.From = record { word = refl; plain = refl; place = refl }
is_found options.Hex = record { word = refl; plain = refl; place = refl }
is_found options.As = record { word = refl; plain = refl; place = refl }
is_found options.For = record { word = refl; plain = refl; place = refl }
is_found options.Saved = record { word = refl; plain = refl; place = refl }

-- how long its word is
pub option_short : (name : OptionName) → length (option_row name).word ≤ 19
option_short options.KeyTemplate = omega arith
option_short options.KeyId = omega arith
option_short options.In = omega arith
option_short options.InFormat = omega arith
option_short options.Out = omega arith
option_short options.OutFormat = omega arith
option_short options.Keyset = omega arith
option_short options.KeysetFormat = omega arith
option_short options.Ad = omega arith
option_short options.AdHex = omega arith
option_short options.TagHex = omega arith
option_short options.Length = omega arith
option_short options.Seed = omega arith
option_short options.Lines = omega arith
option_short options.Master = omega arith
option_short options.MasterFormat = omega arith
option_short options.NewMaster = omega arith
option_short options.NewMasterFormat = omega arith
option_short options.DekTemplate = omega arith
option_short options.File = omega arith
option_short options.From = omega arith
option_short options.Hex = omega arith
option_short options.As = omega arith
option_short options.For = omega arith
option_short options.Saved = omega arith

-- options that exclude each other do so both ways, and are two
abbrev AreRivals : OptionName → OptionName → Type 0
AreRivals a b = (rival b ≡ Some a) × (a ≡ b → ⊥)

pub are_rivals : (a b : OptionName) → rival a ≡ Some b → AreRivals a b
are_rivals options.KeyTemplate b is = absurd (cc)
are_rivals options.KeyId b is = absurd (cc)
are_rivals options.In b is = absurd (cc)
are_rivals options.InFormat b is = absurd (cc)
are_rivals options.Out b is = absurd (cc)
are_rivals options.OutFormat b is = absurd (cc)
are_rivals options.Keyset b is = absurd (cc)
are_rivals options.KeysetFormat b is = absurd (cc)
are_rivals options.Ad b is = subst (λ (x : OptionName). AreRivals options.Ad x) (let other : options.AdHex ≡ b = cc in other) (refl, λ same. cc)
are_rivals options.AdHex b is = subst (λ (x : OptionName). AreRivals options.AdHex x) (let other : options.Ad ≡ b = cc in other) (refl, λ same. cc)
are_rivals options.TagHex b is = absurd (cc)
are_rivals options.Length b is = absurd (cc)
are_rivals options.Seed b is = absurd (cc)
are_rivals options.Lines b is = absurd (cc)
are_rivals options.Master b is = absurd (cc)
are_rivals options.MasterFormat b is = absurd (cc)
are_rivals options.NewMaster b is = absurd (cc)
are_rivals options.NewMasterFormat b is = absurd (cc)
are_rivals options.DekTemplate b is = absurd (cc)
are_rivals options.File b is = absurd (cc)
are_rivals options.From b is = absurd (cc)
are_rivals options.Hex b is = absurd (cc)
are_rivals options.As b is = absurd (cc)
are_rivals options.For b is = absurd (cc)
are_rivals options.Saved b is = absurd (cc)

out_flag : (command : CommandName) → is_flag (out_form command) ≡ false
out_flag commands.CreateKeyset = refl
out_flag commands.AddKey = refl
out_flag commands.RotateKeyset = refl
out_flag commands.PromoteKey = refl
out_flag commands.EnableKey = refl
out_flag commands.DisableKey = refl
out_flag commands.DestroyKey = refl
out_flag commands.DeleteKey = refl
out_flag commands.ListKeyset = refl
out_flag commands.ConvertKeyset = refl
out_flag commands.ListKeyTemplates = refl
out_flag commands.Seal = refl
out_flag commands.Open = refl
out_flag commands.Dseal = refl
out_flag commands.Dopen = refl
out_flag commands.Reseal = refl
out_flag commands.Dreseal = refl
out_flag commands.Sseal = refl
out_flag commands.Sopen = refl
out_flag commands.Sreseal = refl
out_flag commands.Tag = refl
out_flag commands.Verify = refl
out_flag commands.Derive = refl
out_flag commands.Session = refl
out_flag commands.Selftest = refl
out_flag commands.WrapKeyset = refl
out_flag commands.UnwrapKeyset = refl
out_flag commands.Eseal = refl
out_flag commands.Eopen = refl
out_flag commands.Ereseal = refl
out_flag commands.Srange = refl
out_flag commands.KeyOf = refl

length_flag : (command : CommandName) → is_flag (length_form command) ≡ false
length_flag commands.CreateKeyset = refl
length_flag commands.AddKey = refl
length_flag commands.RotateKeyset = refl
length_flag commands.PromoteKey = refl
length_flag commands.EnableKey = refl
length_flag commands.DisableKey = refl
length_flag commands.DestroyKey = refl
length_flag commands.DeleteKey = refl
length_flag commands.ListKeyset = refl
length_flag commands.ConvertKeyset = refl
length_flag commands.ListKeyTemplates = refl
length_flag commands.Seal = refl
length_flag commands.Open = refl
length_flag commands.Dseal = refl
length_flag commands.Dopen = refl
length_flag commands.Reseal = refl
length_flag commands.Dreseal = refl
length_flag commands.Sseal = refl
length_flag commands.Sopen = refl
length_flag commands.Sreseal = refl
length_flag commands.Tag = refl
length_flag commands.Verify = refl
length_flag commands.Derive = refl
length_flag commands.Session = refl
length_flag commands.Selftest = refl
length_flag commands.WrapKeyset = refl
length_flag commands.UnwrapKeyset = refl
length_flag commands.Eseal = refl
length_flag commands.Eopen = refl
length_flag commands.Ereseal = refl
length_flag commands.Srange = refl
length_flag commands.KeyOf = refl

-- a flag is one for every command
pub flag_form : (name : OptionName) (command : CommandName) → is_flag (form_for name command) ≡ is_flag (option_row name).form
flag_form options.KeyTemplate command = refl
flag_form options.KeyId command = refl
flag_form options.In command = refl
flag_form options.InFormat command = refl
flag_form options.Out command = out_flag command
flag_form options.OutFormat command = refl
flag_form options.Keyset command = refl
flag_form options.KeysetFormat command = refl
flag_form options.Ad command = refl
flag_form options.AdHex command = refl
flag_form options.TagHex command = refl
flag_form options.Length command = length_flag command
flag_form options.Seed command = refl
flag_form options.Lines command = refl
flag_form options.Master command = refl
flag_form options.MasterFormat command = refl
flag_form options.NewMaster command = refl
flag_form options.NewMasterFormat command = refl
flag_form options.DekTemplate command = refl
flag_form options.File command = refl
flag_form options.From command = refl
flag_form options.Hex command = refl
flag_form options.As command = refl
flag_form options.For command = refl
flag_form options.Saved command = refl
