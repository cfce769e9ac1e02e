-- A word at fault, and why it is so, depends on the words up to it alone.
use Rattle.std.proofs.Common.{◌≡◌, refl, ap, ℕ, ◌+◌, ◌<◌, ◌≤◌, Bool, true, false, List, [], ◌∷◌, ◌++◌, length, arith, length-append, Option, Some, None, Ok, Err, Result}
use Rattle.std.specs.Prelude.{if◌then◌else◌}
use Rattle.tinkey_words.specs.declared.words.help.First.{First}
use Rattle.tinkey_words.specs.declared.words.help.First.TheVariants as firsts
use Rattle.tinkey_words.specs.declared.words.help.Topic.{Topic}
use Rattle.tinkey_words.specs.declared.words.help.Topic.TheVariants as topics
use Rattle.tinkey_words.specs.declared.words.misuse.Misfit.TheVariants as misfits
use Rattle.tinkey_words.specs.declared.words.misuse.Misuse.{Misuse}
use Rattle.tinkey_words.specs.declared.words.names.CommandName.{CommandName}
use Rattle.tinkey_words.specs.declared.words.names.OptionName.{OptionName}
use Rattle.tinkey_words.specs.Names.{row_of, form_for, rival, needs}
use Rattle.tinkey_words.specs.Rows.{option_of, takes, is_value}
use Rattle.tinkey_words.specs.Words.{◌>>=◌, Asked, Options, misuse_at, is_barred, bar, unbarred, new_option, put, misvalued, with_value, own_value, option_word, word_after, next_word, ended, options_of, no_options, given_in, lacking, lacking_none, unmet, unmet_none, idle_of, idle_none, asked_by, complete, with_options, is_help_flag, help, version, topic_of, first_of, by_itself, topic_words, help_words, command_words, asked_of, words_of}
use Rattle.tinkey_words.specs.Grammar.{PlacesAreDecided}

-- what is at fault is at fault at this place
abbrev FaultsAt : {A : Type 0} → Result A Misuse → ℕ → Type 0
FaultsAt (Ok value) place = Unit {0}
FaultsAt (Err misuse) place = misuse.place ≡ place

next_faults : {A B : Type 0} (r : Result A Misuse) (next : A → Result B Misuse) (place : ℕ) → FaultsAt r place → ((value : A) → FaultsAt (next value) place) → FaultsAt (r >>= next) place
next_faults (Ok value) next place here later = later value
next_faults (Err misuse) next place here later = here

barred_faults : (barred : Bool) (name : OptionName) (misuse : Misuse) → FaultsAt {A = OptionName} (if barred then Err misuse else Ok name) misuse.place
barred_faults true name misuse = refl
barred_faults false name misuse = tt

taken_faults : (taken : Bool) (r : Result OptionName Misuse) (misuse : Misuse) → FaultsAt r misuse.place → FaultsAt (if taken then r else Err misuse) misuse.place
taken_faults true r misuse here = here
taken_faults false r misuse here = refl

option_faults : (command : CommandName) (name : Option OptionName) (place : ℕ) (given : Options) → FaultsAt (new_option command name place given) place
option_faults command None place given = refl
option_faults command (Some name) place given =
    taken_faults (takes command name) (unbarred command name place given) (misuse_at place (misfits.NoOption command))
    (barred_faults (is_barred name given) name (misuse_at place (bar command name (rival name) given)))

form_faults : (formed : Bool) (misuse : Misuse) (given : Options) → FaultsAt {A = Options} (if formed then Ok given else Err misuse) misuse.place
form_faults true misuse given = tt
form_faults false misuse given = refl

value_faults : (command : CommandName) (name : OptionName) (value : List ℕ) (place : ℕ) (given : Options) → FaultsAt (with_value command name value place given) place
value_faults command name value place given = form_faults (is_value (form_for name command) value) (misuse_at place (misvalued (form_for name command) command name value)) (put name value given)

word_faults : (command : CommandName) (own : Option (List ℕ × List ℕ)) (word : List ℕ) (place : ℕ) (given : Options) → FaultsAt (option_word command own word place given) place
word_faults command None word place given = next_faults (new_option command (option_of word) place given) _ place (option_faults command (option_of word) place given) (λ name. tt)
word_faults command (Some own) word place given = next_faults (new_option command (option_of own.0) place given) _ place (option_faults command (option_of own.0) place given) (λ name. value_faults command name own.1 place given)

after_faults : (waiting : Option OptionName) (command : CommandName) (word : List ℕ) (place : ℕ) (given : Options) → FaultsAt (word_after waiting command word place given) place
after_faults (Some name) command word place given = value_faults command name word place given
after_faults None command word place given = word_faults command (own_value word) word place given

-- options that are at fault are so at one of their own places, or at the one behind them
same_place : (m n : Misuse) → m ≡ n → m.place ≡ n.place
same_place m n same = ap (λ (misuse : Misuse). misuse.place) same

ended_place : (waiting : Option OptionName) (command : CommandName) (first : ℕ) (given : Options) (misuse : Misuse) → ended waiting command first given ≡ Err misuse → first ≤ misuse.place
ended_place (Some name) command first given misuse is =
    let same : misuse_at first (misfits.NoValue command name) ≡ misuse = cc in
    let at : first ≡ misuse.place = same_place (misuse_at first (misfits.NoValue command name)) misuse same in
    omega arith
ended_place None command first given misuse is = let clash : Ok given ≡ Err misuse = is in absurd (cc)

place_from : (r : Result Options Misuse) (next : Options → Result Options Misuse) (first : ℕ) (misuse : Misuse) → FaultsAt r first → ((given : Options) → next given ≡ Err misuse → first + 1 ≤ misuse.place) → (r >>= next) ≡ Err misuse → first ≤ misuse.place
place_from (Ok given) next first misuse here later is = let behind : first + 1 ≤ misuse.place = later given is in omega arith
place_from (Err found) next first misuse here later is =
    let same : found ≡ misuse = cc in
    let at : found.place ≡ misuse.place = same_place found misuse same in
    omega (arith, here)

options_place : (command : CommandName) (first : ℕ) (given : Options) (words : List (List ℕ)) (misuse : Misuse) → options_of command first given words ≡ Err misuse → first ≤ misuse.place
options_place command first given [] misuse is = ended_place given.waiting command first given misuse is
options_place command first given (word ∷ words) misuse is =
    place_from (next_word command word first given) (λ more. options_of command (first + 1) more words) first misuse
    (after_faults given.waiting command word first given) (λ more later. options_place command (first + 1) more words misuse later) is

-- a fault is the same with other words behind it
same_fault : {B : Type 0} (r : Result Options Misuse) (next other : Options → Result B Misuse) (misuse : Misuse) → ((given : Options) → next given ≡ Err misuse → other given ≡ Err misuse) → (r >>= next) ≡ Err misuse → (r >>= other) ≡ Err misuse
same_fault (Ok given) next other misuse later is = later given is
same_fault {B} (Err found) next other misuse later is = let same : found ≡ misuse = cc in rw same refl

options_decided : (command : CommandName) (first : ℕ) (given : Options) (front rest others : List (List ℕ)) (misuse : Misuse) → length front + first ≡ misuse.place + 1 → options_of command first given (front ++ rest) ≡ Err misuse → options_of command first given (front ++ others) ≡ Err misuse
options_decided command first given [] rest others misuse size is = absurd (omega (arith, options_place command first given rest misuse is))
options_decided command first given (word ∷ front) rest others misuse size is =
    same_fault (next_word command word first given) (λ more. options_of command (first + 1) more (front ++ rest)) (λ more. options_of command (first + 1) more (front ++ others)) misuse
    (λ more later. options_decided command (first + 1) more front rest others misuse (omega arith) later) is

-- a command that isn't complete has its fault behind the words
idle_place : (lack : Option OptionName) (command : CommandName) (count : ℕ) (given : Options) (misuse : Misuse) → idle_none lack command count given ≡ Err misuse → misuse.place ≡ count
idle_place None command count given misuse is = let clash : Ok (asked_by command given.values) ≡ Err misuse = is in absurd (cc)
idle_place (Some name) command count given misuse is =
    let same : misuse ≡ misuse_at count (misfits.NoStream command name) = cc in
    same_place misuse (misuse_at count (misfits.NoStream command name)) same

unmet_place : (lack : Option (OptionName × OptionName)) (command : CommandName) (count : ℕ) (given : Options) (misuse : Misuse) → unmet_none lack command count given ≡ Err misuse → misuse.place ≡ count
unmet_place None command count given misuse is = idle_place (idle_of command given) command count given misuse is
unmet_place (Some need) command count given misuse is =
    let same : misuse ≡ misuse_at count (misfits.Without command need.0 need.1) = cc in
    same_place misuse (misuse_at count (misfits.Without command need.0 need.1)) same

lacking_place : (lack : Option OptionName) (command : CommandName) (count : ℕ) (given : Options) (misuse : Misuse) → lacking_none lack command count given ≡ Err misuse → misuse.place ≡ count
lacking_place None command count given misuse is = unmet_place (unmet needs given) command count given misuse is
lacking_place (Some name) command count given misuse is =
    let same : misuse ≡ misuse_at count (misfits.Lacks command name) = cc in
    same_place misuse (misuse_at count (misfits.Lacks command name)) same

complete_place : (command : CommandName) (count : ℕ) (given : Options) (misuse : Misuse) → complete command count given ≡ Err misuse → misuse.place ≡ count
complete_place command count given misuse is = lacking_place (lacking (row_of command).required given) command count given misuse is

options_fault : (command : CommandName) (r : Result Options Misuse) (count : ℕ) (misuse : Misuse) → misuse.place < count → (r >>= complete command count) ≡ Err misuse → r ≡ Err misuse
options_fault command (Ok given) count misuse within is = absurd (omega (arith, complete_place command count given misuse is))
options_fault command (Err found) count misuse within is = let same : found ≡ misuse = cc in rw same refl

-- Behind a command's word.

options_same : (command : CommandName) (front rest others : List (List ℕ)) (misuse : Misuse) → length front ≡ misuse.place → with_options command (front ++ rest) ≡ Err misuse → with_options command (front ++ others) ≡ Err misuse
unfolding given_in
options_same command front rest others misuse size is =
    let fault = options_fault command (options_of command 1 no_options (front ++ rest)) (1 + length (front ++ rest)) misuse (omega (arith, length-append front rest)) is in
    let same = options_decided command 1 no_options front rest others misuse (omega arith) fault in
    rw same refl

-- such a fault isn't at the first word
options_late : (command : CommandName) (words : List (List ℕ)) (misuse : Misuse) → with_options command words ≡ Err misuse → 1 ≤ misuse.place
unfolding given_in
options_late command words misuse is = by (options_of command 1 no_options words) refl is
  where
    by : (r : Result Options Misuse) → options_of command 1 no_options words ≡ r → (r >>= complete command (1 + length words)) ≡ Err misuse → 1 ≤ misuse.place
    by (Ok given) taken is = let at = complete_place command (1 + length words) given misuse is in omega (arith, at)
    by (Err found) taken is =
        let same : found ≡ misuse = cc in
        let at : found.place ≡ misuse.place = same_place found misuse same in
        let late = options_place command 1 no_options words found taken in
        omega (arith, late, at)

alone_late : (at : ℕ) (asked : Asked) (words : List (List ℕ)) (misuse : Misuse) → by_itself at asked words ≡ Err misuse → misuse.place ≡ at
alone_late at asked [] misuse is = let clash : Ok asked ≡ Err misuse = is in absurd (cc)
alone_late at asked (word ∷ words) misuse is =
    let same : misuse ≡ misuse_at at misfits.TooMany = cc in
    same_place misuse (misuse_at at misfits.TooMany) same

alone_decided : (at : ℕ) (asked : Asked) (front rest others : List (List ℕ)) (misuse : Misuse) → length front + at ≡ misuse.place + 1 → by_itself at asked (front ++ rest) ≡ Err misuse → by_itself at asked (front ++ others) ≡ Err misuse
alone_decided at asked [] rest others misuse size is = absurd (omega (arith, alone_late at asked rest misuse is))
alone_decided at asked (word ∷ front) rest others misuse size is = is

topic_late : (found : Option Topic) (words : List (List ℕ)) (misuse : Misuse) → topic_words found words ≡ Err misuse → 1 ≤ misuse.place
topic_late None words misuse is =
    let same : misuse ≡ misuse_at 1 misfits.NoTopic = cc in
    let at : misuse.place ≡ 1 = same_place misuse (misuse_at 1 misfits.NoTopic) same in
    omega (arith, at)
topic_late (Some topic) words misuse is = let at = alone_late 2 (help topic) words misuse is in omega (arith, at)

topic_decided : (found : Option Topic) (front rest others : List (List ℕ)) (misuse : Misuse) → length front + 1 ≡ misuse.place → topic_words found (front ++ rest) ≡ Err misuse → topic_words found (front ++ others) ≡ Err misuse
topic_decided None front rest others misuse size is = is
topic_decided (Some topic) front rest others misuse size is = alone_decided 2 (help topic) front rest others misuse (omega arith) is

help_late : (words : List (List ℕ)) (misuse : Misuse) → help_words words ≡ Err misuse → 1 ≤ misuse.place
help_late [] misuse is = let clash : Ok (help topics.Commands) ≡ Err misuse = is in absurd (cc)
help_late (name ∷ words) misuse is = topic_late (topic_of name) words misuse is

help_decided : (front rest others : List (List ℕ)) (misuse : Misuse) → length front ≡ misuse.place → help_words (front ++ rest) ≡ Err misuse → help_words (front ++ others) ≡ Err misuse
help_decided [] rest others misuse size is = absurd (omega (arith, help_late rest misuse is))
help_decided (name ∷ front) rest others misuse size is = topic_decided (topic_of name) front rest others misuse (omega arith) is

command_late : (command : CommandName) (words : List (List ℕ)) (misuse : Misuse) → command_words command words ≡ Err misuse → 1 ≤ misuse.place
command_late command [] misuse is = options_late command [] misuse is
command_late command (word ∷ words) misuse is = by (is_help_flag word) is
  where
    by : (b : Bool) → (if b then by_itself 2 (help (topics.Command command)) words else with_options command (word ∷ words)) ≡ Err misuse → 1 ≤ misuse.place
    by true is = let at = alone_late 2 (help (topics.Command command)) words misuse is in omega (arith, at)
    by false is = options_late command (word ∷ words) misuse is

command_decided : (command : CommandName) (front rest others : List (List ℕ)) (misuse : Misuse) → length front ≡ misuse.place → command_words command (front ++ rest) ≡ Err misuse → command_words command (front ++ others) ≡ Err misuse
command_decided command [] rest others misuse size is = absurd (omega (arith, command_late command rest misuse is))
command_decided command (word ∷ front) rest others misuse size is = by (is_help_flag word) is
  where
    by : (b : Bool) → (if b then by_itself 2 (help (topics.Command command)) (front ++ rest) else with_options command (word ∷ (front ++ rest))) ≡ Err misuse → (if b then by_itself 2 (help (topics.Command command)) (front ++ others) else with_options command (word ∷ (front ++ others))) ≡ Err misuse
    by true is = alone_decided 2 (help (topics.Command command)) front rest others misuse (omega arith) is
    by false is = options_same command (word ∷ front) rest others misuse size is

first_decided : (first : Option First) (front rest others : List (List ℕ)) (misuse : Misuse) → length front ≡ misuse.place → asked_of first (front ++ rest) ≡ Err misuse → asked_of first (front ++ others) ≡ Err misuse
first_decided None front rest others misuse size is = is
first_decided (Some firsts.Help) front rest others misuse size is = help_decided front rest others misuse size is
first_decided (Some firsts.HelpFlag) front rest others misuse size is = alone_decided 1 (help topics.Commands) front rest others misuse (omega arith) is
first_decided (Some firsts.Version) front rest others misuse size is = alone_decided 1 version front rest others misuse (omega arith) is
first_decided (Some (firsts.Command command)) front rest others misuse size is = command_decided command front rest others misuse size is

pub places_are_decided : PlacesAreDecided
unfolding words_of
places_are_decided [] rest others misuse size is = absurd (omega arith)
places_are_decided (name ∷ front) rest others misuse size is = first_decided (first_of name) front rest others misuse (omega arith) is
