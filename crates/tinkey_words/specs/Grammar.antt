-- What the grammar of the command's words comes to, said of the words as a whole.
--
--   PlacesAreDecided   a word at fault, and why it is so, depends on the words up to it alone
--   WordsAreSpelled    words are accepted exactly where they spell a command's word and then
--                      options that fit its row, in any order, or ask for help or for the version
--   DashesAreLeftOut   `--in -` and `--out -` ask what leaving them out asks
--   MisusesAreTrue     what is told of a word at fault is so
--   KeysAreAsked       a command asks for keys of the primitive of its row, and without one for none
--
-- The commands and options are those of Names.
use Rattle.std.specs.Prelude.{◌≡◌, ◌≢◌, ◌⊎◌, ◌↔◌, ℕ, ◌+◌, ◌*◌, ◌%◌, ◌^◌, ◌<◌, ◌≤◌, List, [], ◌∷◌, ◌++◌, length, Bool, true, None, Some, if◌then◌else◌, Ok, Err, codes, false}
use Rattle.std.specs.List.{AllByRecursion, flat_map, list_all}
use Rattle.std.specs.Path.{path_file_name}
use Rattle.std.specs.Str.{all_ascii_digits, str_to_ascii_lowercase}
use Rattle.std.specs.Str.Parse.{digits_value}
use Rattle.key_msgs.specs.declared.primitive.Primitive.{Primitive}
use Rattle.key_msgs.specs.declared.primitive.Primitive.TheVariants.{Aead, Stream}
use Rattle.tinkey_words.specs.declared.words.help.Topic.{Topic}
use Rattle.tinkey_words.specs.declared.words.help.Topic.TheVariants as topics
use Rattle.tinkey_words.specs.declared.words.misuse.Misfit.{Misfit}
use Rattle.tinkey_words.specs.declared.words.misuse.Misfit.TheVariants as misfits
use Rattle.tinkey_words.specs.declared.words.misuse.Misuse.{Misuse}
use Rattle.tinkey_words.specs.declared.words.names.CommandName.{CommandName}
use Rattle.tinkey_words.specs.declared.words.rows.ValueForm.{ValueForm}
use Rattle.tinkey_words.specs.declared.words.rows.ValueForm.TheVariants as forms
use Rattle.tinkey_words.specs.declared.words.names.OptionName.{OptionName}
use Rattle.tinkey_words.specs.declared.words.names.OptionName.TheVariants as options
use Rattle.hex.specs.Hex.{is_hex_digit}
use Rattle.tinkey_words.specs.Names.{row_of, option_row, form_for, rival, needs, for_streams, primitive_of}
use Rattle.tinkey_words.specs.Rows.{same, temporary, datum_limit, most_lines, most_range, is_flag, is_new_file, dash, is_hex_form, is_named_file}
use Rattle.tinkey_words.specs.Words.{Asked, Values, asked_by, convert_keyset, help, open_range, primitive_for, use_envelope, use_keyset, use_stream, version, misuse_at, words_of}

-- where the word of a place is at fault, it is so, and for the same reason, whatever words stand behind it
abbrev pub PlacesAreDecided : Type 0
PlacesAreDecided = (front rest others : List (List ℕ)) (misuse : Misuse) →
    length front ≡ misuse.place + 1 → words_of (front ++ rest) ≡ Err misuse →
    words_of (front ++ others) ≡ Err misuse

-- a text of 1 to 10 decimal digits, of a number up to 4,294,967,295
pub record IsNumber (text : List ℕ) : Type 0 where
  pub digits : all_ascii_digits text ≡ true
  pub some : 0 < length text
  pub short : length text ≤ 10
  pub within : digits_value 10 text ≤ 4294967295

-- a number of lines
pub record IsLineCount (text : List ℕ) : Type 0 where
  pub number : IsNumber text
  pub some' : 1 ≤ digits_value 10 text
  pub most : digits_value 10 text ≤ most_lines

-- the length of a range
pub record IsRangeLength (text : List ℕ) : Type 0 where
  pub number : IsNumber text
  pub most : digits_value 10 text ≤ most_range

-- a text of 1 to 19 decimal digits, of a number below 2^63
pub record IsOffset (text : List ℕ) : Type 0 where
  pub digits : all_ascii_digits text ≡ true
  pub some : 0 < length text
  pub short : length text ≤ 19
  pub within : digits_value 10 text < 2 ^ 63

-- a text of hexadecimal digits, two for each of at most 1,048,576 bytes
pub record IsHex (text : List ℕ) : Type 0 where
  pub digits : list_all is_hex_digit text ≡ true
  pub even : length text % 2 ≡ 0
  pub short : length text ≤ 2 * datum_limit

-- the same but for their number, which is odd
pub record IsOddHex (text : List ℕ) : Type 0 where
  pub digits : list_all is_hex_digit text ≡ true
  pub odd : length text % 2 ≡ 1
  pub short : length text ≤ 2 * datum_limit

-- the word of a command that asks for keys of a primitive
pub record AsksForKeys (text : List ℕ) : Type 0 where
  pub command : CommandName
  pub primitive : Primitive
  pub word : text ≡ (row_of command).word
  pub asks : primitive_of command ≡ Some primitive

-- the path is a temporary name: its last part begins as those do
abbrev pub IsTemporary : List ℕ → Type 0
IsTemporary path = (rest : List ℕ) × (path_file_name path ≡ Some (temporary ++ rest))

-- the value is of the form; that of a flag, which no word holds, is empty
abbrev pub IsValue : ValueForm → List ℕ → Type 0
IsValue forms.Text value = Unit {0}
IsValue forms.FileName value = (value ≢ []) × (value ≢ dash)
IsValue forms.Input value = value ≢ []
IsValue forms.NewFile value = (value ≢ []) × (value ≢ dash) × (IsTemporary value → ⊥)
IsValue forms.Output value = (value ≢ []) × (IsTemporary value → ⊥)
IsValue forms.Number value = IsNumber value
IsValue forms.LineCount value = IsLineCount value
IsValue forms.RangeLength value = IsRangeLength value
IsValue forms.Offset value = IsOffset value
IsValue forms.Format value =
    (str_to_ascii_lowercase value ≡ codes "json")
    ⊎ (str_to_ascii_lowercase value ≡ codes "binary")
IsValue forms.SealedForm value =
    (str_to_ascii_lowercase value ≡ codes "text")
    ⊎ (str_to_ascii_lowercase value ≡ codes "envelope")
    ⊎ (str_to_ascii_lowercase value ≡ codes "stream")
IsValue forms.Command value = AsksForKeys value
IsValue forms.Datum value = length value ≤ datum_limit
IsValue forms.Hex value = IsHex value
IsValue forms.Flag value = value ≡ []

-- what is asked needs keys of this primitive: of the keyset that is used, or of the master of one that is wrapped or
-- unwrapped
abbrev pub NeedsKeys : Asked → Primitive → Type 0
NeedsKeys (use_keyset lock name form work out) primitive = primitive_for work ≡ primitive
NeedsKeys (use_envelope lock name form template work out) primitive = Aead ≡ primitive
NeedsKeys (use_stream lock name form work ad out) primitive = Stream ≡ primitive
NeedsKeys (open_range lock name form ad range out) primitive = Stream ≡ primitive
NeedsKeys (convert_keyset lock new in' out) primitive = Aead ≡ primitive
NeedsKeys _ primitive = ⊥

-- what is asked uses the keys of a keyset, of one primitive
abbrev pub UsesKeys : Asked → Type 0
UsesKeys (use_keyset lock name form work out) = Unit {0}
UsesKeys (use_envelope lock name form template work out) = Unit {0}
UsesKeys (use_stream lock name form work ad out) = Unit {0}
UsesKeys (open_range lock name form ad range out) = Unit {0}
UsesKeys _ = ⊥

-- a command whose row has a primitive asks for keys of it, whatever its options; and each that uses the keys of a
-- keyset has one there
pub record KeysAreAsked : Type 0 where
  pub asked : (command : CommandName) (values : Values) (primitive : Primitive)
      → primitive_of command ≡ Some primitive → NeedsKeys (asked_by command values) primitive
  pub none : (command : CommandName) (values : Values)
      → primitive_of command ≡ None → UsesKeys (asked_by command values) → ⊥

-- an option with its value, and whether they stand in one word
pub record Spelling : Type 0 where
  pub name : OptionName
  pub value : List ℕ
  pub joined : Bool

-- the words of an option: `--name=value`, or `--name` and the value; of a flag, `--name` alone
abbrev pub spelled_as : (flag joined : Bool) → List ℕ → List ℕ → List (List ℕ)
spelled_as true joined name value = name ∷ []
spelled_as false joined name value =
    if joined then (name ++ (61 ∷ value)) ∷ [] else name ∷ value ∷ []

-- the words of an option as it is spelled
abbrev pub spelled : Spelling → List (List ℕ)
spelled s =
    spelled_as (is_flag (option_row s.name).form) s.joined (option_row s.name).word s.value

-- one of them is this option
abbrev pub IsGiven : OptionName → List Spelling → Type 0
IsGiven name [] = ⊥
IsGiven name (s ∷ given) = (s.name ≡ name) ⊎ IsGiven name given

-- no option is there twice
abbrev pub IsOnce : List Spelling → Type 0
IsOnce [] = Unit {0}
IsOnce (s ∷ given) = (IsGiven s.name given → ⊥) × IsOnce given

-- no two of them exclude each other
abbrev pub AreApart : List Spelling → Type 0
AreApart given = (a b : OptionName) → rival a ≡ Some b → IsGiven a given → IsGiven b given → ⊥

-- the option is one of these
abbrev pub IsOneOf : OptionName → List OptionName → Type 0
IsOneOf name [] = ⊥
IsOneOf name (other ∷ names) = (name ≡ other) ⊎ IsOneOf name names

-- an option that needs another has it
abbrev pub HasNeeded : List Spelling → (need : OptionName × OptionName) → Type 0
HasNeeded given need = IsGiven need.0 given → IsGiven need.1 given

-- the value that each option has, the first one of it
abbrev pub values_of : List Spelling → Values
values_of [] name = None
values_of (s ∷ given) name = if same s.name name then Some s.value else values_of given name

-- one of them says that the input is a stream: it is `--as stream`, in letters of either case
abbrev pub SaysStream : List Spelling → Type 0
SaysStream given = (value : List ℕ) × (values_of given options.As ≡ Some value)
    × (str_to_ascii_lowercase value ≡ codes "stream")

-- the options fit a command: each is in its row, once and with a value of its form, no two exclude
-- each other, all are there that it requires or that one of them needs, and one that means something for a
-- stream alone is there only where another says that there is one
pub record Fits (command : CommandName) (given : List Spelling) : Type 0 where
  pub once : IsOnce given
  pub apart : AreApart given
  pub taken : AllByRecursion (λ s. IsOneOf s.name ((row_of command).required ++ (row_of command).optional)) given
  pub formed : AllByRecursion (λ s. IsValue (form_for s.name command) s.value) given
  pub complete : AllByRecursion (λ name. IsGiven name given) (row_of command).required
  pub met : AllByRecursion (HasNeeded given) needs
  pub streams : AllByRecursion (λ name. IsGiven name given → SaysStream given) (for_streams command)

-- the words spell a command that asks so
pub record Spells (words : List (List ℕ)) (asked : Asked) : Type 0 where
  pub command : CommandName
  pub given : List Spelling
  pub are : words ≡ (row_of command).word ∷ flat_map spelled given
  pub fits : Fits command given
  pub asks : asked ≡ asked_by command (values_of given)

-- Help.

-- the word is `--help` or `-h`
abbrev pub IsHelpFlag : List ℕ → Type 0
IsHelpFlag word = (word ≡ codes "--help") ⊎ (word ≡ codes "-h")

-- the word asks for the list of the commands
abbrev pub IsHelpWord : List ℕ → Type 0
IsHelpWord word = (word ≡ codes "help") ⊎ IsHelpFlag word

-- the word asks for the version
abbrev pub IsVersionWord : List ℕ → Type 0
IsVersionWord word = (word ≡ codes "version") ⊎ (word ≡ codes "--version")

-- the topic's name: `exit`, `help`, `version`, or a command's word; the list of the commands has none
abbrev pub IsNameOf : Topic → List ℕ → Type 0
IsNameOf topics.Commands name = ⊥
IsNameOf topics.Exit name = name ≡ codes "exit"
IsNameOf topics.Help name = name ≡ codes "help"
IsNameOf topics.Version name = name ≡ codes "version"
IsNameOf (topics.Command command) name = name ≡ (row_of command).word

-- the words ask for help or for the version
pub data Helps (words : List (List ℕ)) (asked : Asked) : Type 0 where
  -- `help`, `--help` or `-h`
  the_list : (word : List ℕ) → IsHelpWord word → words ≡ word ∷ [] → asked ≡ help topics.Commands →
      Helps words asked
  -- `help` and the name of a topic
  a_topic : (topic : Topic) (name : List ℕ) → IsNameOf topic name → words ≡ codes "help" ∷ name ∷ [] →
      asked ≡ help topic → Helps words asked
  -- a command's word, and `--help` or `-h`
  its_help : (command : CommandName) (word : List ℕ) → IsHelpFlag word →
      words ≡ (row_of command).word ∷ word ∷ [] → asked ≡ help (topics.Command command) →
      Helps words asked
  -- `version` or `--version`
  the_version : (word : List ℕ) → IsVersionWord word → words ≡ word ∷ [] → asked ≡ version →
      Helps words asked

-- the words are accepted as what they ask exactly where they spell it
abbrev pub WordsAreSpelled : Type 0
WordsAreSpelled =
    (words : List (List ℕ)) (asked : Asked) →
    (words_of words ≡ Ok asked) ↔ (Spells words asked ⊎ Helps words asked)

-- Dashes.

-- the option is --in or --out, and its value a dash
pub record IsDash (s : Spelling) : Type 0 where
  pub file : (s.name ≡ options.In) ⊎ (s.name ≡ options.Out)
  pub stream : s.value ≡ dash

-- a command's word, and these options
abbrev pub words_with : CommandName → List Spelling → List (List ℕ)
words_with command given = (row_of command).word ∷ flat_map spelled given

-- where options fit a command, and one of them is --in or --out with a dash, the words ask what they ask without it
abbrev pub DashesAreLeftOut : Type 0
DashesAreLeftOut =
    (command : CommandName) (before : List Spelling) (s : Spelling) (behind : List Spelling) →
    IsDash s → Fits command (before ++ (s ∷ behind)) →
    words_of (words_with command (before ++ (s ∷ behind))) ≡ words_of (words_with command (before ++ behind))

-- Words at fault.

-- the word is this option's, with or without a value of its own
abbrev pub IsWordOf : OptionName → List ℕ → Type 0
IsWordOf name word =
    (word ≡ (option_row name).word)
    ⊎ ((value : List ℕ) × (word ≡ (option_row name).word ++ (61 ∷ value)))

-- the command has the option
abbrev pub IsOptionOf : CommandName → OptionName → Type 0
IsOptionOf command name = IsOneOf name ((row_of command).required ++ (row_of command).optional)

-- why a value that isn't of the form is told: it is a temporary name for a new file, a dash where that stands for no file,
-- or an odd number of digits; or it is none of these
pub data IsTold (command : CommandName) (name : OptionName) (value : List ℕ) (why : Misfit) : Type 0 where
  temporary_told : is_new_file (form_for name command) ≡ true → IsTemporary value →
      why ≡ misfits.Temporary command name → IsTold command name value why
  dash_told : is_named_file (form_for name command) ≡ true → value ≡ dash →
      why ≡ misfits.Dash command name → IsTold command name value why
  odd_told : is_hex_form (form_for name command) ≡ true → IsOddHex value →
      why ≡ misfits.OddHex command name → IsTold command name value why
  bad_told : (is_new_file (form_for name command) ≡ true → IsTemporary value → ⊥) →
      (is_named_file (form_for name command) ≡ true → value ≡ dash → ⊥) →
      (is_hex_form (form_for name command) ≡ true → IsOddHex value → ⊥) →
      why ≡ misfits.BadValue command name → IsTold command name value why

-- behind a command and these options, what is at fault with the rest, whose first word has this place
pub data IsFault (command : CommandName) (given : List Spelling) (place : ℕ) (rest : List (List ℕ))
    (misuse : Misuse) : Type 0 where
  -- the word is that of no option of the command
  no_option : (word : List ℕ) (more : List (List ℕ)) → rest ≡ word ∷ more →
      ((name : OptionName) → IsOptionOf command name → IsWordOf name word → ⊥) →
      misuse ≡ misuse_at place (misfits.NoOption command) → IsFault command given place rest misuse
  -- the option is given in front of it
  twice : (name : OptionName) (word : List ℕ) (more : List (List ℕ)) → rest ≡ word ∷ more →
      IsOptionOf command name → IsWordOf name word → IsGiven name given →
      misuse ≡ misuse_at place (misfits.Twice command name) → IsFault command given place rest misuse
  -- another one is, which it excludes
  beside : (name other : OptionName) (word : List ℕ) (more : List (List ℕ)) → rest ≡ word ∷ more →
      IsOptionOf command name → IsWordOf name word → rival name ≡ Some other → IsGiven other given →
      misuse ≡ misuse_at place (misfits.Beside command name other) → IsFault command given place rest misuse
  -- its own value isn't of its form, or it is a flag
  own_value_bad : (name : OptionName) (value : List ℕ) (more : List (List ℕ)) (why : Misfit) →
      rest ≡ ((option_row name).word ++ (61 ∷ value)) ∷ more →
      (is_flag (form_for name command) ≡ true) ⊎ (IsValue (form_for name command) value → ⊥) →
      IsTold command name value why → misuse ≡ misuse_at place why → IsFault command given place rest misuse
  -- the value behind it isn't of its form
  next_value_bad : (name : OptionName) (value : List ℕ) (more : List (List ℕ)) (why : Misfit) →
      rest ≡ (option_row name).word ∷ value ∷ more → (IsValue (form_for name command) value → ⊥) →
      IsTold command name value why → misuse ≡ misuse_at (place + 1) why → IsFault command given place rest misuse
  -- no value is behind it
  value_missing : (name : OptionName) → rest ≡ (option_row name).word ∷ [] →
      misuse ≡ misuse_at (place + 1) (misfits.NoValue command name) → IsFault command given place rest misuse
  -- nothing is behind the options, and of those that the command requires this is the first that isn't given
  lacks : (name : OptionName) (before behind : List OptionName) → rest ≡ [] →
      (row_of command).required ≡ before ++ (name ∷ behind) →
      AllByRecursion (λ other. IsGiven other given) before → (IsGiven name given → ⊥) →
      misuse ≡ misuse_at place (misfits.Lacks command name) → IsFault command given place rest misuse
  -- nothing is behind the options, which are all that the command requires, and of those that need another this is
  -- the first that is given without it
  without : (need : OptionName × OptionName) (before behind : List (OptionName × OptionName)) → rest ≡ [] →
      AllByRecursion (λ other. IsGiven other given) (row_of command).required →
      needs ≡ before ++ (need ∷ behind) → AllByRecursion (HasNeeded given) before → IsGiven need.0 given →
      (IsGiven need.1 given → ⊥) → misuse ≡ misuse_at place (misfits.Without command need.0 need.1) →
      IsFault command given place rest misuse
  -- nothing is behind the options, which are all that the command requires and that one of them needs, none says that
  -- the input is a stream, and of those that mean something for a stream alone this is the first that is given
  no_stream : (name : OptionName) (before behind : List OptionName) → rest ≡ [] →
      AllByRecursion (λ other. IsGiven other given) (row_of command).required →
      AllByRecursion (HasNeeded given) needs → for_streams command ≡ before ++ (name ∷ behind) →
      AllByRecursion (λ other. IsGiven other given → ⊥) before → IsGiven name given → (SaysStream given → ⊥) →
      misuse ≡ misuse_at place (misfits.NoStream command name) → IsFault command given place rest misuse

-- what is at fault with the words
pub data IsMisused (words : List (List ℕ)) (misuse : Misuse) : Type 0 where
  -- there is no word
  no_word : words ≡ [] → misuse ≡ misuse_at 0 misfits.NoCommand → IsMisused words misuse
  -- the first one is no command's, and asks neither for help nor for the version
  no_command : (name : List ℕ) (more : List (List ℕ)) → words ≡ name ∷ more →
      ((command : CommandName) → name ≡ (row_of command).word → ⊥) → (IsHelpWord name → ⊥) →
      (IsVersionWord name → ⊥) → misuse ≡ misuse_at 0 misfits.NoCommand → IsMisused words misuse
  -- behind `help` stands the name of no topic
  no_topic : (name : List ℕ) (more : List (List ℕ)) → words ≡ codes "help" ∷ name ∷ more →
      ((topic : Topic) → IsNameOf topic name → ⊥) → misuse ≡ misuse_at 1 misfits.NoTopic →
      IsMisused words misuse
  -- a word stands behind those that ask for help or for the version
  too_many : (asked : Asked) (front : List (List ℕ)) (word : List ℕ) (more : List (List ℕ)) →
      Helps front asked → words ≡ front ++ (word ∷ more) →
      misuse ≡ misuse_at (length front) misfits.TooMany → IsMisused words misuse
  -- behind a command and options that fit so far, the rest is at fault
  behind_options : (command : CommandName) (given : List Spelling) (rest : List (List ℕ)) →
      words ≡ (row_of command).word ∷ (flat_map spelled given ++ rest) → IsOnce given → AreApart given →
      AllByRecursion (λ s. IsOptionOf command s.name) given →
      AllByRecursion (λ s. IsValue (form_for s.name command) s.value) given →
      IsFault command given (1 + length (flat_map spelled given)) rest misuse → IsMisused words misuse

-- what is told of words that are refused is so
abbrev pub MisusesAreTrue : Type 0
MisusesAreTrue =
    (words : List (List ℕ)) (misuse : Misuse) → words_of words ≡ Err misuse → IsMisused words misuse
