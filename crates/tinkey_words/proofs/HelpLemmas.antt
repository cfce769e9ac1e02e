-- The words that ask for help: the first word, the topics, and what stands behind them.
use Rattle.std.proofs.Common.{◌≡◌, ◌⊎◌, inl, inr, ◌∙◌, sym, refl, ap, subst, ℕ, Bool, true, false, List, [], ◌∷◌, ◌++◌, Option, Some, None, Ok, Err}
use Rattle.std.specs.Prelude.{◌||◌, option_map, if◌then◌else◌, codes}
use Rattle.std.specs.List.{flat_map}
use Rattle.std.specs.Str.{bytes_eq}
use Rattle.tinkey_words.specs.declared.words.help.First.{First}
use Rattle.tinkey_words.specs.declared.words.help.First.TheVariants as firsts
use Rattle.tinkey_words.specs.declared.words.help.Topic.{Topic}
use Rattle.tinkey_words.specs.declared.words.help.Topic.TheVariants as topics
use Rattle.tinkey_words.specs.declared.words.misuse.Misfit.TheVariants as misfits
use Rattle.tinkey_words.specs.declared.words.names.CommandName.{CommandName}
use Rattle.tinkey_words.specs.declared.words.names.OptionName.{OptionName}
use Rattle.tinkey_words.specs.Names.{row_of, option_row}
use Rattle.tinkey_words.specs.Rows.{command_of, option_of, is_flag}
use Rattle.tinkey_words.specs.Words.{Asked, help, version, own_value, with_options, is_help_flag, is_version_word, misuse_at, topic_of, first_of, by_itself, topic_words, help_words, command_words, asked_of, words_of}
use Rattle.tinkey_words.specs.Grammar.{Spelling, spelled_as, spelled, IsHelpFlag, IsHelpWord, IsVersionWord, IsNameOf, Helps, the_list, a_topic, its_help, the_version}
use Rattle.tinkey_words.proofs.NameLemmas.{command_found}
use Rattle.tinkey_words.proofs.RowLemmas.{same_text, command_named, option_found, own_joined}

-- The tests of a word.

one_of_two : (word first second : List ℕ) → (bytes_eq word first || bytes_eq word second) ≡ true → (word ≡ first) ⊎ (word ≡ second)
one_of_two word first second is = by (bytes_eq word first) (bytes_eq word second) refl refl is
  where
    by : (a b : Bool) → bytes_eq word first ≡ a → bytes_eq word second ≡ b → (a || b) ≡ true → (word ≡ first) ⊎ (word ≡ second)
    by true b one two is = inl (same_text word first one)
    by false true one two is = inr (same_text word second two)
    by false false one two is = absurd (cc)

pub flag_is : (word : List ℕ) → is_help_flag word ≡ true → IsHelpFlag word
flag_is word is = one_of_two word (codes "--help") (codes "-h") is

pub flag_true : (word : List ℕ) → IsHelpFlag word → is_help_flag word ≡ true
flag_true word (inl same) = ap is_help_flag same
flag_true word (inr same) = ap is_help_flag same

-- a word that isn't one of the two
no_flag : (word : List ℕ) → (IsHelpFlag word → ⊥) → is_help_flag word ≡ false
no_flag word other = by (is_help_flag word) refl
  where
    by : (b : Bool) → is_help_flag word ≡ b → is_help_flag word ≡ false
    by true is = absurd (other (flag_is word is))
    by false is = is

-- no command has another word
pub unlike : (command : CommandName) (text : List ℕ) → command_of text ≡ None → bytes_eq (row_of command).word text ≡ false
unlike command text none = by (bytes_eq (row_of command).word text) refl
  where
    by : (b : Bool) → bytes_eq (row_of command).word text ≡ b → bytes_eq (row_of command).word text ≡ false
    by true is =
        let clash : Some command ≡ None = sym (command_found command) ∙ ap command_of (same_text (row_of command).word text is) ∙ none in
        absurd (cc)
    by false is = is

not_help : command_of (codes "help") ≡ None
unfolding command_of
not_help = refl

not_long_flag : command_of (codes "--help") ≡ None
unfolding command_of
not_long_flag = refl

not_short_flag : command_of (codes "-h") ≡ None
unfolding command_of
not_short_flag = refl

not_version : command_of (codes "version") ≡ None
unfolding command_of
not_version = refl

not_version_flag : command_of (codes "--version") ≡ None
unfolding command_of
not_version_flag = refl

not_exit : command_of (codes "exit") ≡ None
unfolding command_of
not_exit = refl

-- The first word.

pub first_found : (command : CommandName) → first_of (row_of command).word ≡ Some (firsts.Command command)
unfolding first_of
first_found command =
    rw (unlike command (codes "help") not_help, unlike command (codes "--help") not_long_flag, unlike command (codes "-h") not_short_flag, unlike command (codes "version") not_version, unlike command (codes "--version") not_version_flag)
    (ap (option_map firsts.Command) (command_found command))

-- what the first word is
abbrev pub IsFirst : First → List ℕ → Type 0
IsFirst firsts.Help name = name ≡ codes "help"
IsFirst firsts.HelpFlag name = IsHelpFlag name
IsFirst firsts.Version name = IsVersionWord name
IsFirst (firsts.Command command) name = name ≡ (row_of command).word

first_test : (a b c : Bool) (o : Option CommandName) (name : List ℕ) (first : First) → bytes_eq name (codes "help") ≡ a → is_help_flag name ≡ b → is_version_word name ≡ c → command_of name ≡ o → (if a then Some firsts.Help else (if b then Some firsts.HelpFlag else (if c then Some firsts.Version else option_map firsts.Command o))) ≡ Some first → IsFirst first name
first_test true b c o name first one two three four is = subst (λ (f : First). IsFirst f name) (let ok : Some firsts.Help ≡ Some first = is in let same : firsts.Help ≡ first = cc in same) (same_text name (codes "help") one)
first_test false true c o name first one two three four is = subst (λ (f : First). IsFirst f name) (let ok : Some firsts.HelpFlag ≡ Some first = is in let same : firsts.HelpFlag ≡ first = cc in same) (flag_is name two)
first_test false false true o name first one two three four is = subst (λ (f : First). IsFirst f name) (let ok : Some firsts.Version ≡ Some first = is in let same : firsts.Version ≡ first = cc in same) (one_of_two name (codes "version") (codes "--version") three)
first_test false false false (Some command) name first one two three four is = subst (λ (f : First). IsFirst f name) (let ok : Some (firsts.Command command) ≡ Some first = is in let same : firsts.Command command ≡ first = cc in same) (command_named name command four)
first_test false false false None name first one two three four is = absurd (cc)

pub first_is : (name : List ℕ) (first : First) → first_of name ≡ Some first → IsFirst first name
unfolding first_of
first_is name first is = first_test _ _ _ _ name first refl refl refl refl is

-- The topics.

pub topic_found : (topic : Topic) (name : List ℕ) → IsNameOf topic name → topic_of name ≡ Some topic
unfolding topic_of
topic_found topics.Commands name named = absurd named
topic_found topics.Exit name named = ap topic_of named
topic_found topics.Help name named = ap topic_of named
topic_found topics.Version name named = ap topic_of named
topic_found (topics.Command command) name named =
    ap topic_of named
    ∙ rw (unlike command (codes "exit") not_exit, unlike command (codes "help") not_help, unlike command (codes "version") not_version)
    (ap (option_map topics.Command) (command_found command))

topic_test : (a b c : Bool) (o : Option CommandName) (name : List ℕ) (topic : Topic) → bytes_eq name (codes "exit") ≡ a → bytes_eq name (codes "help") ≡ b → bytes_eq name (codes "version") ≡ c → command_of name ≡ o → (if a then Some topics.Exit else (if b then Some topics.Help else (if c then Some topics.Version else option_map topics.Command o))) ≡ Some topic → IsNameOf topic name
topic_test true b c o name topic one two three four is = subst (λ (t : Topic). IsNameOf t name) (let ok : Some topics.Exit ≡ Some topic = is in let same : topics.Exit ≡ topic = cc in same) (same_text name (codes "exit") one)
topic_test false true c o name topic one two three four is = subst (λ (t : Topic). IsNameOf t name) (let ok : Some topics.Help ≡ Some topic = is in let same : topics.Help ≡ topic = cc in same) (same_text name (codes "help") two)
topic_test false false true o name topic one two three four is = subst (λ (t : Topic). IsNameOf t name) (let ok : Some topics.Version ≡ Some topic = is in let same : topics.Version ≡ topic = cc in same) (same_text name (codes "version") three)
topic_test false false false (Some command) name topic one two three four is = subst (λ (t : Topic). IsNameOf t name) (let ok : Some (topics.Command command) ≡ Some topic = is in let same : topics.Command command ≡ topic = cc in same) (command_named name command four)
topic_test false false false None name topic one two three four is = absurd (cc)

pub topic_is : (name : List ℕ) (topic : Topic) → topic_of name ≡ Some topic → IsNameOf topic name
unfolding topic_of
topic_is name topic is = topic_test _ _ _ _ name topic refl refl refl refl is

-- The words of options don't ask for help.

plain_flag : own_value (codes "--help") ≡ None
unfolding own_value
plain_flag = refl

plain_short : own_value (codes "-h") ≡ None
unfolding own_value
plain_short = refl

option_plain : option_of (codes "--help") ≡ None
unfolding option_of
option_plain = refl

option_short : option_of (codes "-h") ≡ None
unfolding option_of
option_short = refl

name_unlike : (name : OptionName) → is_help_flag (option_row name).word ≡ false
name_unlike name = no_flag (option_row name).word by
  where
    by : IsHelpFlag (option_row name).word → ⊥
    by (inl same) = let clash : Some name ≡ None = sym (option_found name) ∙ ap option_of same ∙ option_plain in cc
    by (inr same) = let clash : Some name ≡ None = sym (option_found name) ∙ ap option_of same ∙ option_short in cc

something : {A : Type 0} (x : A) → Some x ≡ None → ⊥
something x is = cc

joined_unlike : (name : OptionName) (value : List ℕ) → is_help_flag ((option_row name).word ++ (61 ∷ value)) ≡ false
joined_unlike name value = no_flag ((option_row name).word ++ (61 ∷ value)) by
  where
    by : IsHelpFlag ((option_row name).word ++ (61 ∷ value)) → ⊥
    by (inl same) = something ((option_row name).word, value) (sym (own_joined name value) ∙ ap own_value same ∙ plain_flag)
    by (inr same) = something ((option_row name).word, value) (sym (own_joined name value) ∙ ap own_value same ∙ plain_short)

one_behind : (command : CommandName) (flag joined : Bool) (name : OptionName) (value : List ℕ) (rest : List (List ℕ)) → command_words command (spelled_as flag joined (option_row name).word value ++ rest) ≡ with_options command (spelled_as flag joined (option_row name).word value ++ rest)
one_behind command true joined name value rest = rw (name_unlike name) refl
one_behind command false true name value rest = rw (joined_unlike name value) refl
one_behind command false false name value rest = rw (name_unlike name) refl

pub options_behind : (command : CommandName) (given : List Spelling) → command_words command (flat_map spelled given) ≡ with_options command (flat_map spelled given)
options_behind command [] = refl
options_behind command (s ∷ given) = one_behind command (is_flag (option_row s.name).form) s.joined s.name s.value (flat_map spelled given)

-- Words that ask for help are accepted.

list_accepted : (word : List ℕ) → IsHelpWord word → words_of (word ∷ []) ≡ Ok (help topics.Commands)
unfolding words_of first_of
list_accepted word (inl same) = ap (λ (w : List ℕ). words_of (w ∷ [])) same
list_accepted word (inr (inl same)) = ap (λ (w : List ℕ). words_of (w ∷ [])) same
list_accepted word (inr (inr same)) = ap (λ (w : List ℕ). words_of (w ∷ [])) same

version_accepted : (word : List ℕ) → IsVersionWord word → words_of (word ∷ []) ≡ Ok version
unfolding words_of first_of
version_accepted word (inl same) = ap (λ (w : List ℕ). words_of (w ∷ [])) same
version_accepted word (inr same) = ap (λ (w : List ℕ). words_of (w ∷ [])) same

topic_accepted : (topic : Topic) (name : List ℕ) → IsNameOf topic name → words_of (codes "help" ∷ name ∷ []) ≡ Ok (help topic)
unfolding words_of first_of
topic_accepted topic name named = ap (λ (found : Option Topic). topic_words found []) (topic_found topic name named)

flag_accepted : (command : CommandName) (word : List ℕ) → IsHelpFlag word → words_of ((row_of command).word ∷ word ∷ []) ≡ Ok (help (topics.Command command))
unfolding words_of
flag_accepted command word flag =
    ap (λ (first : Option First). asked_of first (word ∷ [])) (first_found command)
    ∙ ap (λ (b : Bool). if b then by_itself 2 (help (topics.Command command)) [] else with_options command (word ∷ [])) (flag_true word flag)

pub helps_accepted : (words : List (List ℕ)) (asked : Asked) → Helps words asked → words_of words ≡ Ok asked
helps_accepted words asked (the_list word is are asks) = ap words_of are ∙ list_accepted word is ∙ ap Ok (sym asks)
helps_accepted words asked (a_topic topic name named are asks) = ap words_of are ∙ topic_accepted topic name named ∙ ap Ok (sym asks)
helps_accepted words asked (its_help command word flag are asks) = ap words_of are ∙ flag_accepted command word flag ∙ ap Ok (sym asks)
helps_accepted words asked (the_version word is are asks) = ap words_of are ∙ version_accepted word is ∙ ap Ok (sym asks)

-- And such words that are accepted ask for it.

pub alone_accepted : (at : ℕ) (a asked : Asked) (words : List (List ℕ)) → by_itself at a words ≡ Ok asked → (words ≡ []) × (asked ≡ a)
alone_accepted at a asked [] is = (refl, let same : Ok a ≡ Ok asked = is in cc)
alone_accepted at a asked (word ∷ words) is = let clash : Err (misuse_at at misfits.TooMany) ≡ Ok asked = is in absurd (cc)

topic_asked : (found : Option Topic) (first name : List ℕ) (words : List (List ℕ)) (asked : Asked) → first ≡ codes "help" → topic_of name ≡ found → topic_words found words ≡ Ok asked → Helps (first ∷ name ∷ words) asked
topic_asked None first name words asked named found is = let clash : Err (misuse_at 1 misfits.NoTopic) ≡ Ok asked = is in absurd (cc)
topic_asked (Some topic) first name words asked named found is =
    let done = alone_accepted 2 (help topic) asked words is in
    a_topic topic name (topic_is name topic found) (ap (λ (w : List ℕ). w ∷ name ∷ words) named ∙ ap (λ (ws : List (List ℕ)). codes "help" ∷ name ∷ ws) done.0) done.1

pub help_asked : (first : List ℕ) (words : List (List ℕ)) (asked : Asked) → first ≡ codes "help" → help_words words ≡ Ok asked → Helps (first ∷ words) asked
help_asked first [] asked named is = the_list first (inl named) refl (let same : Ok (help topics.Commands) ≡ Ok asked = is in cc)
help_asked first (name ∷ words) asked named is = topic_asked (topic_of name) first name words asked named refl is
