-- What is told of words that are refused is so.
use Rattle.std.proofs.Common.{◌≡◌, ◌⊎◌, ◌∙◌, sym, refl, ap, subst, inl, inr, ℕ, ◌+◌, Bool, true, false, List, [], ◌∷◌, ◌++◌, length, arith, append_assoc, append-nil, length-append, Option, Some, None, Ok, Err, Result}
use Rattle.std.specs.Prelude.{◌&&◌, ◌||◌, not, if◌then◌else◌, codes}
use Rattle.std.specs.List.{AllByRecursion, flat_map}
use Rattle.tinkey_words.specs.declared.words.help.First.{First}
use Rattle.tinkey_words.specs.declared.words.help.First.TheVariants as firsts
use Rattle.tinkey_words.specs.declared.words.help.Topic.{Topic}
use Rattle.tinkey_words.specs.declared.words.help.Topic.TheVariants as topics
use Rattle.tinkey_words.specs.declared.words.misuse.Misfit.TheVariants as misfits
use Rattle.tinkey_words.specs.declared.words.misuse.Misuse.{Misuse}
use Rattle.tinkey_words.specs.declared.words.names.CommandName.{CommandName}
use Rattle.tinkey_words.specs.declared.words.names.OptionName.{OptionName}
use Rattle.tinkey_words.specs.declared.words.names.OptionName.TheVariants as options
use Rattle.tinkey_words.specs.Names.{row_of, option_row, form_for, rival, needs, for_streams}
use Rattle.tinkey_words.specs.Rows.{option_of, takes, is_temporary, is_new_file, is_value, is_flag, is_dash, is_hex_form, is_named_file, is_odd_hex}
use Rattle.tinkey_words.specs.Words.{◌>>=◌, Asked, Options, misuse_at, own_value, misvalued, is_given, is_excluded, is_barred, bar, new_option, put, with_value, alone, option_word, word_after, next_word, ended, options_of, no_options, given_in, lacking, lacking_none, unmet, unmet_none, is_stream, sealed_in, first_given, idle, idle_of, idle_none, complete, with_options, is_help_flag, help, version, topic_of, first_of, by_itself, topic_words, help_words, command_words, asked_of, words_of}
use Rattle.tinkey_words.specs.Grammar.{IsValue, Spelling, spelled_as, spelled, IsGiven, HasNeeded, IsHelpWord, IsVersionWord, IsNameOf, IsOptionOf, Helps, the_list, a_topic, its_help, the_version, IsWordOf, IsTold, temporary_told, bad_told, IsFault, no_option, twice, beside, own_value_bad, next_value_bad, value_missing, lacks, without, no_stream, SaysStream, IsMisused, no_word, no_command, no_topic, too_many, behind_options, MisusesAreTrue, dash_told, odd_told}
use Rattle.tinkey_words.proofs.FitLemmas.{is_one, one_is, given_there, once_of, apart_of, taken_of, formed_of, there_of, all_of, met_of, values_run, no_stream_said}
use Rattle.tinkey_words.proofs.NameLemmas.{flag_form}
use Rattle.tinkey_words.proofs.HelpLemmas.{first_found, first_is, flag_is, topic_found, topic_is}
use Rattle.tinkey_words.proofs.RowLemmas.{option_found, option_named, own_plain, own_joined, value_taken, two_pass, temporary_is, is_temporary', dash_is, is_dash', odd_is, is_odd', flag_formed}
use Rattle.tinkey_words.proofs.SpellingLemmas.{Runs, all_put, run_read, own_cut, with_formed, Taken, option_is}

-- Where the options stop.

-- what is at fault behind the options so far, at this place
data Halt (command : CommandName) (given : Options) (place : ℕ) (rest : List (List ℕ)) (misuse : Misuse) : Type 0 where
  halt_foreign : (word : List ℕ) (more : List (List ℕ)) → rest ≡ word ∷ more → ((name : OptionName) → takes command name ≡ true → IsWordOf name word → ⊥) → misuse ≡ misuse_at place (misfits.NoOption command) → Halt command given place rest misuse
  halt_twice : (name : OptionName) (word : List ℕ) (more : List (List ℕ)) → rest ≡ word ∷ more → takes command name ≡ true → IsWordOf name word → is_given name given ≡ true → misuse ≡ misuse_at place (misfits.Twice command name) → Halt command given place rest misuse
  halt_beside : (name other : OptionName) (word : List ℕ) (more : List (List ℕ)) → rest ≡ word ∷ more → takes command name ≡ true → IsWordOf name word → rival name ≡ Some other → is_given other given ≡ true → misuse ≡ misuse_at place (misfits.Beside command name other) → Halt command given place rest misuse
  halt_own : (name : OptionName) (value : List ℕ) (more : List (List ℕ)) → rest ≡ ((option_row name).word ++ (61 ∷ value)) ∷ more → is_value (form_for name command) value ≡ false → misuse ≡ misuse_at place (misvalued (form_for name command) command name value) → Halt command given place rest misuse
  halt_next : (name : OptionName) (value : List ℕ) (more : List (List ℕ)) → rest ≡ (option_row name).word ∷ value ∷ more → is_flag (option_row name).form ≡ false → is_value (form_for name command) value ≡ false → misuse ≡ misuse_at (place + 1) (misvalued (form_for name command) command name value) → Halt command given place rest misuse
  halt_end : (name : OptionName) → rest ≡ (option_row name).word ∷ [] → misuse ≡ misuse_at (place + 1) (misfits.NoValue command name) → Halt command given place rest misuse

-- options that are read, and what is at fault behind them
record Stop (command : CommandName) (given : Options) (first : ℕ) (words : List (List ℕ)) (misuse : Misuse) : Type 0 where
  run : List Spelling
  rest : List (List ℕ)
  are : words ≡ flat_map spelled run ++ rest
  runs : Runs command given run
  fault : Halt command (all_put given run) (first + length (flat_map spelled run)) rest misuse

stop_here : (command : CommandName) (given : Options) (first : ℕ) (rest : List (List ℕ)) (misuse : Misuse) → Halt command given first rest misuse → Stop command given first rest misuse
stop_here command given first rest misuse halt = record {
  run = [];
  rest = rest;
  are = refl;
  runs = tt;
  fault = let same : first ≡ first + 0 = omega arith in subst (λ (place : ℕ). Halt command given place rest misuse) same halt;
}

-- an option more in front
stop_behind : (command : CommandName) (given : Options) (s : Spelling) (first size : ℕ) (words all : List (List ℕ)) (misuse : Misuse) → all ≡ spelled s ++ words → length (spelled s) ≡ size → takes command s.name ≡ true → is_barred s.name given ≡ false → IsValue (form_for s.name command) s.value → Stop command (put s.name s.value given) (first + size) words misuse → Stop command given first all misuse
stop_behind command given s first size words all misuse whole long taken new formed stop = record {
  run = s ∷ stop.run;
  rest = stop.rest;
  are = whole ∙ ap (λ (ws : List (List ℕ)). spelled s ++ ws) stop.are ∙ sym (append_assoc (spelled s) (flat_map spelled stop.run) stop.rest);
  runs = (taken, new, formed, stop.runs);
  fault =
      let same : first + size + length (flat_map spelled stop.run) ≡ first + length (spelled s ++ flat_map spelled stop.run) = omega (arith, long, length-append (spelled s) (flat_map spelled stop.run)) in
      subst (λ (place : ℕ). Halt command (all_put (put s.name s.value given) stop.run) place stop.rest misuse) same stop.fault;
}

-- the same where an option waits for its value
data Waits (name : OptionName) (command : CommandName) (given : Options) (first : ℕ) (words : List (List ℕ)) (misuse : Misuse) : Type 0 where
  waits_end : words ≡ [] → misuse ≡ misuse_at first (misfits.NoValue command name) → Waits name command given first words misuse
  waits_bad : (value : List ℕ) (more : List (List ℕ)) → words ≡ value ∷ more → is_value (form_for name command) value ≡ false → misuse ≡ misuse_at first (misvalued (form_for name command) command name value) → Waits name command given first words misuse
  waits_more : (value : List ℕ) (more : List (List ℕ)) → words ≡ value ∷ more → IsValue (form_for name command) value → Stop command (put name value given) (first + 1) more misuse → Waits name command given first words misuse

abbrev Stops : Option OptionName → CommandName → Options → ℕ → List (List ℕ) → Misuse → Type 0
Stops None command given first words misuse = Stop command given first words misuse
Stops (Some name) command given first words misuse = Waits name command given first words misuse

ended_stops : (waiting : Option OptionName) (command : CommandName) (first : ℕ) (given : Options) (misuse : Misuse) → ended waiting command first given ≡ Err misuse → Stops waiting command given first [] misuse
ended_stops None command first given misuse is = let clash : Ok given ≡ Err misuse = is in absurd (cc)
ended_stops (Some name) command first given misuse is = waits_end refl (let same : Err (misuse_at first (misfits.NoValue command name)) ≡ Err misuse = is in cc)

-- A word that is taken.

behind_put : (name : OptionName) (value : List ℕ) (command : CommandName) (given more : Options) (first : ℕ) (words : List (List ℕ)) (misuse : Misuse) → more ≡ put name value given → Stops more.waiting command more first words misuse → Stop command (put name value given) first words misuse
behind_put name value command given more first words misuse same later =
    subst (λ (o : Options). Stops o.waiting command o first words misuse) same later

own_taken : (command : CommandName) (own : List ℕ × List ℕ) (word : List ℕ) (first : ℕ) (given more : Options) (words : List (List ℕ)) (misuse : Misuse) (found : Result OptionName Misuse) → word ≡ own.0 ++ (61 ∷ own.1) → new_option command (option_of own.0) first given ≡ found → (found >>= (λ name. with_value command name own.1 first given)) ≡ Ok more → Stops more.waiting command more (first + 1) words misuse → Stop command given first (word ∷ words) misuse
own_taken command own word first given more words misuse (Err at) cut_is test is later = let clash : Err at ≡ Ok more = is in absurd (cc)
own_taken command own word first given more words misuse (Ok name) cut_is test is later =
    let taken = option_is command own.0 (option_of own.0) first given name refl test in
    let formed = with_formed command name own.1 first given more is in
    let named : word ≡ (option_row name).word ++ (61 ∷ own.1) = cut_is ∙ ap (λ (text : List ℕ). text ++ (61 ∷ own.1)) taken.named in
    stop_behind command given (record { name = name; value = own.1; joined = true }) first 1 words (word ∷ words) misuse
    (ap (λ (w : List ℕ). w ∷ words) named ∙ ap (λ (b : Bool). spelled_as b true (option_row name).word own.1 ++ words) (sym formed.2))
    (ap (λ (b : Bool). length (spelled_as b true (option_row name).word own.1)) formed.2)
    taken.takes taken.new formed.0 (behind_put name own.1 command given more (first + 1) words misuse formed.1 later)

-- behind an option that waits for its value
waited : (command : CommandName) (word : List ℕ) (first : ℕ) (given : Options) (name : OptionName) (words : List (List ℕ)) (misuse : Misuse) → is_flag (option_row name).form ≡ false → Taken command word name given → Waits name command (alone false name given) (first + 1) words misuse → Stop command given first (word ∷ words) misuse
waited command word first given name words misuse flag taken (waits_end none is) =
    stop_here command given first (word ∷ words) misuse (halt_end name (ap (λ (w : List ℕ). w ∷ words) taken.named ∙ ap (λ (ws : List (List ℕ)). (option_row name).word ∷ ws) none) is)
waited command word first given name words misuse flag taken (waits_bad value more are bad is) =
    stop_here command given first (word ∷ words) misuse (halt_next name value more (ap (λ (w : List ℕ). w ∷ words) taken.named ∙ ap (λ (ws : List (List ℕ)). (option_row name).word ∷ ws) are) flag bad is)
waited command word first given name words misuse flag taken (waits_more value more are formed stop) =
    stop_behind command given (record { name = name; value = value; joined = false }) first 2 more (word ∷ words) misuse
    (ap (λ (w : List ℕ). w ∷ words) taken.named ∙ ap (λ (ws : List (List ℕ)). (option_row name).word ∷ ws) are ∙ ap (λ (b : Bool). spelled_as b false (option_row name).word value ++ more) (sym flag))
    (ap (λ (b : Bool). length (spelled_as b false (option_row name).word value)) flag)
    taken.takes taken.new formed
    (let two : first + 1 + 1 ≡ first + 2 = omega arith in subst (λ (place : ℕ). Stop command (put name value given) place more misuse) two stop)

name_taken : (command : CommandName) (word : List ℕ) (first : ℕ) (given more : Options) (words : List (List ℕ)) (misuse : Misuse) (found : Result OptionName Misuse) → new_option command (option_of word) first given ≡ found → (found >>= (λ name. Ok (alone (is_flag (option_row name).form) name given))) ≡ Ok more → Stops more.waiting command more (first + 1) words misuse → Stop command given first (word ∷ words) misuse
name_taken command word first given more words misuse (Err at) test is later = let clash : Err at ≡ Ok more = is in absurd (cc)
name_taken command word first given more words misuse (Ok name) test is later =
    let taken = option_is command word (option_of word) first given name refl test in
    let same : alone (is_flag (option_row name).form) name given ≡ more = (let ok : Ok (alone (is_flag (option_row name).form) name given) ≡ Ok more = is in cc) in
    by (is_flag (option_row name).form) refl taken (subst (λ (o : Options). Stops o.waiting command o (first + 1) words misuse) (sym same) later)
  where
    by : (flag : Bool) → is_flag (option_row name).form ≡ flag → Taken command word name given → Stops (alone flag name given).waiting command (alone flag name given) (first + 1) words misuse → Stop command given first (word ∷ words) misuse
    by true flag taken stop =
        stop_behind command given (record { name = name; value = []; joined = false }) first 1 words (word ∷ words) misuse
        (ap (λ (w : List ℕ). w ∷ words) taken.named ∙ ap (λ (b : Bool). spelled_as b false (option_row name).word [] ++ words) (sym flag))
        (ap (λ (b : Bool). length (spelled_as b false (option_row name).word [])) flag)
        taken.takes taken.new (flag_formed (form_for name command) (flag_form name command ∙ flag)) stop
    by false flag taken waits = waited command word first given name words misuse flag taken waits

word_taken : (own : Option (List ℕ × List ℕ)) (command : CommandName) (word : List ℕ) (first : ℕ) (given more : Options) (words : List (List ℕ)) (misuse : Misuse) → own_value word ≡ own → option_word command own word first given ≡ Ok more → Stops more.waiting command more (first + 1) words misuse → Stop command given first (word ∷ words) misuse
word_taken None command word first given more words misuse cut_is is later = name_taken command word first given more words misuse _ refl is later
word_taken (Some own) command word first given more words misuse cut_is is later = own_taken command own word first given more words misuse _ (own_cut word own cut_is) refl is later

after_taken : (waiting : Option OptionName) (command : CommandName) (word : List ℕ) (first : ℕ) (given more : Options) (words : List (List ℕ)) (misuse : Misuse) → word_after waiting command word first given ≡ Ok more → Stops more.waiting command more (first + 1) words misuse → Stops waiting command given first (word ∷ words) misuse
after_taken (Some name) command word first given more words misuse is later =
    let formed = with_formed command name word first given more is in
    waits_more word words refl formed.0 (behind_put name word command given more (first + 1) words misuse formed.1 later)
after_taken None command word first given more words misuse is later = word_taken (own_value word) command word first given more words misuse refl is later

-- A word that is at fault.

value_test : (command : CommandName) (name : OptionName) (value : List ℕ) (b : Bool) (place : ℕ) (given : Options) (misuse : Misuse) → is_value (form_for name command) value ≡ b → (if b then Ok (put name value given) else Err (misuse_at place (misvalued (form_for name command) command name value))) ≡ Err misuse → (is_value (form_for name command) value ≡ false) × (misuse ≡ misuse_at place (misvalued (form_for name command) command name value))
value_test command name value true place given misuse formed is = let clash : Ok (put name value given) ≡ Err misuse = is in absurd (cc)
value_test command name value false place given misuse formed is = (formed, let same : Err (misuse_at place (misvalued (form_for name command) command name value)) ≡ Err misuse = is in cc)

value_bad : (command : CommandName) (name : OptionName) (value : List ℕ) (place : ℕ) (given : Options) (misuse : Misuse) → with_value command name value place given ≡ Err misuse → (is_value (form_for name command) value ≡ false) × (misuse ≡ misuse_at place (misvalued (form_for name command) command name value))
value_bad command name value place given misuse is = value_test command name value _ place given misuse refl is

-- an option that is barred
barred_halt : (command : CommandName) (name : OptionName) (other : Option OptionName) (b : Bool) (word : List ℕ) (first : ℕ) (given : Options) (words : List (List ℕ)) (misuse : Misuse) → rival name ≡ other → is_given name given ≡ b → (b || is_excluded other given) ≡ true → takes command name ≡ true → IsWordOf name word → misuse ≡ misuse_at first (bar command name other given) → Halt command given first (word ∷ words) misuse
barred_halt command name None true word first given words misuse excludes there barred taken named is = halt_twice name word words refl taken named there is
barred_halt command name None false word first given words misuse excludes there barred taken named is = absurd (cc)
barred_halt command name (Some other) true word first given words misuse excludes there barred taken named is =
    halt_twice name word words refl taken named there
    (is ∙ ap (λ (b : Bool). misuse_at first (if b then misfits.Twice command name else misfits.Beside command name other)) there)
barred_halt command name (Some other) false word first given words misuse excludes there barred taken named is =
    halt_beside name other word words refl taken named excludes barred
    (is ∙ ap (λ (b : Bool). misuse_at first (if b then misfits.Twice command name else misfits.Beside command name other)) there)

taken_halt : (command : CommandName) (name : OptionName) (a b : Bool) (word : List ℕ) (first : ℕ) (given : Options) (words : List (List ℕ)) (misuse : Misuse) → takes command name ≡ a → is_barred name given ≡ b → IsWordOf name word → ((other : OptionName) → IsWordOf other word → name ≡ other) → (if a then (if b then Err (misuse_at first (bar command name (rival name) given)) else Ok name) else Err (misuse_at first (misfits.NoOption command))) ≡ Err misuse → Halt command given first (word ∷ words) misuse
taken_halt command name true true word first given words misuse taken barred named alone is =
    barred_halt command name (rival name) (is_given name given) word first given words misuse refl refl barred taken named
    (let same : Err (misuse_at first (bar command name (rival name) given)) ≡ Err misuse = is in cc)
taken_halt command name true false word first given words misuse taken barred named alone is = let clash : Ok name ≡ Err misuse = is in absurd (cc)
taken_halt command name false b word first given words misuse untaken barred named alone is =
    halt_foreign word words refl foreign (let same : Err (misuse_at first (misfits.NoOption command)) ≡ Err misuse = is in cc)
  where
    foreign : (other : OptionName) → takes command other ≡ true → IsWordOf other word → ⊥
    foreign other taken of_other = let clash : true ≡ false = sym taken ∙ ap (takes command) (sym (alone other of_other)) ∙ untaken in cc

option_halt : (command : CommandName) (text word : List ℕ) (found : Option OptionName) (first : ℕ) (given : Options) (words : List (List ℕ)) (misuse : Misuse) → option_of text ≡ found → ((name : OptionName) → option_of text ≡ Some name → IsWordOf name word) → ((name : OptionName) → IsWordOf name word → option_of text ≡ Some name) → new_option command found first given ≡ Err misuse → Halt command given first (word ∷ words) misuse
option_halt command text word None first given words misuse named reads names is =
    halt_foreign word words refl foreign (let same : Err (misuse_at first (misfits.NoOption command)) ≡ Err misuse = is in cc)
  where
    foreign : (other : OptionName) → takes command other ≡ true → IsWordOf other word → ⊥
    foreign other taken of_other = let clash : None ≡ Some other = sym named ∙ names other of_other in cc
option_halt command text word (Some name) first given words misuse named reads names is =
    taken_halt command name (takes command name) (is_barred name given) word first given words misuse refl refl (reads name named) one is
  where
    one : (other : OptionName) → IsWordOf other word → name ≡ other
    one other of_other = let both : Some name ≡ Some other = sym named ∙ names other of_other in cc

something : {A : Type 0} (x : A) → Some x ≡ None → ⊥
something x is = cc

-- the text of a word without a value of its own is that of its option
plain_names : (word : List ℕ) → own_value word ≡ None → (name : OptionName) → IsWordOf name word → option_of word ≡ Some name
plain_names word plain name (inl same) = ap option_of same ∙ option_found name
plain_names word plain name (inr (value, same)) =
    absurd (something ((option_row name).word, value) (sym (own_joined name value) ∙ ap own_value (sym same) ∙ plain))

own_names : (word : List ℕ) (own : List ℕ × List ℕ) → own_value word ≡ Some own → (name : OptionName) → IsWordOf name word → option_of own.0 ≡ Some name
own_names word own cut_is name (inl same) =
    let clash : None ≡ Some own = sym (own_plain name) ∙ ap own_value (sym same) ∙ cut_is in absurd (cc)
own_names word own cut_is name (inr (value, same)) =
    let both : Some ((option_row name).word, value) ≡ Some own = sym (own_joined name value) ∙ ap own_value (sym same) ∙ cut_is in
    let pair : ((option_row name).word, value) ≡ own = cc in
    subst (λ (o : List ℕ × List ℕ). option_of o.0 ≡ Some name) pair (option_found name)

-- what comes behind a fault leaves it
bound_err : {A B : Type 0} (at misuse : Misuse) (next : A → Result B Misuse) (r : Result A Misuse) → r ≡ Err at → (Err at >>= next) ≡ Err misuse → r ≡ Err misuse
bound_err {A} {B} at misuse next r test is = let same : at ≡ misuse = cc in subst (λ (m : Misuse). r ≡ Err m) same test

own_halt : (command : CommandName) (own : List ℕ × List ℕ) (word : List ℕ) (first : ℕ) (given : Options) (words : List (List ℕ)) (misuse : Misuse) (found : Result OptionName Misuse) → own_value word ≡ Some own → new_option command (option_of own.0) first given ≡ found → (found >>= (λ name. with_value command name own.1 first given)) ≡ Err misuse → Halt command given first (word ∷ words) misuse
own_halt command own word first given words misuse (Err at) cut_is test is =
    option_halt command own.0 word (option_of own.0) first given words misuse refl
    (λ name named. inr (own.1, own_cut word own cut_is ∙ ap (λ (text : List ℕ). text ++ (61 ∷ own.1)) (option_named own.0 name named)))
    (own_names word own cut_is) (bound_err at misuse (λ name. with_value command name own.1 first given) (new_option command (option_of own.0) first given) test is)
own_halt command own word first given words misuse (Ok name) cut_is test is =
    let taken = option_is command own.0 (option_of own.0) first given name refl test in
    let bad = value_bad command name own.1 first given misuse is in
    halt_own name own.1 words (ap (λ (w : List ℕ). w ∷ words) (own_cut word own cut_is ∙ ap (λ (text : List ℕ). text ++ (61 ∷ own.1)) taken.named)) bad.0 bad.1

plain_halt : (command : CommandName) (word : List ℕ) (first : ℕ) (given : Options) (words : List (List ℕ)) (misuse : Misuse) (found : Result OptionName Misuse) → own_value word ≡ None → new_option command (option_of word) first given ≡ found → (found >>= (λ name. Ok (alone (is_flag (option_row name).form) name given))) ≡ Err misuse → Halt command given first (word ∷ words) misuse
plain_halt command word first given words misuse (Err at) plain test is =
    option_halt command word word (option_of word) first given words misuse refl (λ name named. inl (option_named word name named)) (plain_names word plain) (bound_err at misuse (λ name. Ok (alone (is_flag (option_row name).form) name given)) (new_option command (option_of word) first given) test is)
plain_halt command word first given words misuse (Ok name) plain test is = let clash : Ok (alone (is_flag (option_row name).form) name given) ≡ Err misuse = is in absurd (cc)

word_halt : (own : Option (List ℕ × List ℕ)) (command : CommandName) (word : List ℕ) (first : ℕ) (given : Options) (words : List (List ℕ)) (misuse : Misuse) → own_value word ≡ own → option_word command own word first given ≡ Err misuse → Halt command given first (word ∷ words) misuse
word_halt None command word first given words misuse cut_is is = plain_halt command word first given words misuse _ cut_is refl is
word_halt (Some own) command word first given words misuse cut_is is = own_halt command own word first given words misuse _ cut_is refl is

after_halt : (waiting : Option OptionName) (command : CommandName) (word : List ℕ) (first : ℕ) (given : Options) (words : List (List ℕ)) (misuse : Misuse) → word_after waiting command word first given ≡ Err misuse → Stops waiting command given first (word ∷ words) misuse
after_halt (Some name) command word first given words misuse is =
    let bad = value_bad command name word first given misuse is in
    waits_bad word words refl bad.0 bad.1
after_halt None command word first given words misuse is =
    stop_here command given first (word ∷ words) misuse (word_halt (own_value word) command word first given words misuse refl is)

step_stops : (r : Result Options Misuse) (waiting : Option OptionName) (command : CommandName) (word : List ℕ) (first : ℕ) (given : Options) (words : List (List ℕ)) (misuse : Misuse) → word_after waiting command word first given ≡ r → (r >>= (λ more. options_of command (first + 1) more words)) ≡ Err misuse → ((more : Options) → options_of command (first + 1) more words ≡ Err misuse → Stops more.waiting command more (first + 1) words misuse) → Stops waiting command given first (word ∷ words) misuse
step_stops (Err at) waiting command word first given words misuse step is later = after_halt waiting command word first given words misuse (step ∙ (let same : Err at ≡ Err misuse = is in cc))
step_stops (Ok more) waiting command word first given words misuse step is later = after_taken waiting command word first given more words misuse step (later more is)

stops : (command : CommandName) (first : ℕ) (given : Options) (words : List (List ℕ)) (misuse : Misuse) → options_of command first given words ≡ Err misuse → Stops given.waiting command given first words misuse
stops command first given [] misuse is = ended_stops given.waiting command first given misuse is
stops command first given (word ∷ words) misuse is =
    step_stops (next_word command word first given) given.waiting command word first given words misuse refl is (λ more later. stops command (first + 1) more words misuse later)

-- Behind a command.

no_value : (command : CommandName) (name : OptionName) (value : List ℕ) → is_flag (form_for name command) ≡ false → is_value (form_for name command) value ≡ false → IsValue (form_for name command) value → ⊥
no_value command name value other bad formed = let clash : true ≡ false = sym (value_taken (form_for name command) value other formed) ∙ bad in cc

flag_or_bad : (command : CommandName) (name : OptionName) (value : List ℕ) (flag : Bool) → is_flag (form_for name command) ≡ flag → is_value (form_for name command) value ≡ false → (is_flag (form_for name command) ≡ true) ⊎ (IsValue (form_for name command) value → ⊥)
flag_or_bad command name value true flag bad = inl flag
flag_or_bad command name value false flag bad = inr (no_value command name value flag bad)

one_of : (command : CommandName) (name : OptionName) → takes command name ≡ true → IsOptionOf command name
one_of command name taken = is_one name ((row_of command).required ++ (row_of command).optional) taken

all_given : (name : OptionName) (run : List Spelling) → is_given name (all_put no_options run) ≡ true → IsGiven name run
all_given name run is = there_of name no_options run refl is

-- why a value is told
not_both : (a b : Bool) → (a && b) ≡ false → a ≡ true → b ≡ true → ⊥
not_both true true none one other = let clash : true ≡ false = none in absurd (cc)
not_both true false none one other = let clash : false ≡ true = other in cc
not_both false b none one other = let clash : false ≡ true = one in absurd (cc)

told_by : (command : CommandName) (name : OptionName) (value : List ℕ) (temporary dashed odd : Bool) → (is_new_file (form_for name command) && is_temporary value) ≡ temporary → (is_named_file (form_for name command) && is_dash value) ≡ dashed → (is_hex_form (form_for name command) && is_odd_hex value) ≡ odd → IsTold command name value (if temporary then misfits.Temporary command name else (if dashed then misfits.Dash command name else (if odd then misfits.OddHex command name else misfits.BadValue command name)))
told_by command name value true dashed odd is dash_is_there odd_is_there =
    let tests = two_pass (is_new_file (form_for name command)) (is_temporary value) is in temporary_told tests.0 (temporary_is value tests.1) refl
told_by command name value false true odd none is odd_is_there =
    let tests = two_pass (is_named_file (form_for name command)) (is_dash value) is in dash_told tests.0 (dash_is value tests.1) refl
told_by command name value false false true none named is =
    let tests = two_pass (is_hex_form (form_for name command)) (is_odd_hex value) is in odd_told tests.0 (odd_is value tests.1) refl
told_by command name value false false false none named even =
    bad_told
    (λ new there. not_both (is_new_file (form_for name command)) (is_temporary value) none new (is_temporary' value there))
    (λ file there. not_both (is_named_file (form_for name command)) (is_dash value) named file (is_dash' value there))
    (λ hex there. not_both (is_hex_form (form_for name command)) (is_odd_hex value) even hex (is_odd' value there))
    refl

told : (command : CommandName) (name : OptionName) (value : List ℕ) → IsTold command name value (misvalued (form_for name command) command name value)
told command name value = told_by command name value _ _ _ refl refl refl

fault_of : (command : CommandName) (run : List Spelling) (place : ℕ) (rest : List (List ℕ)) (misuse : Misuse) → Halt command (all_put no_options run) place rest misuse → IsFault command run place rest misuse
fault_of command run place rest misuse (halt_foreign word more are foreign is) = no_option word more are (λ name option named. foreign name (one_is name ((row_of command).required ++ (row_of command).optional) option) named) is
fault_of command run place rest misuse (halt_twice name word more are taken named there is) = twice name word more are (one_of command name taken) named (all_given name run there) is
fault_of command run place rest misuse (halt_beside name other word more are taken named excludes there is) = beside name other word more are (one_of command name taken) named excludes (all_given other run there) is
fault_of command run place rest misuse (halt_own name value more are bad is) = own_value_bad name value more _ are (flag_or_bad command name value _ refl bad) (told command name value) is
fault_of command run place rest misuse (halt_next name value more are flag bad is) = next_value_bad name value more _ are (no_value command name value (flag_form name command ∙ flag) bad) (told command name value) is
fault_of command run place rest misuse (halt_end name are is) = value_missing name are is

-- the first of these options that isn't given
record FirstLack (names : List OptionName) (run : List Spelling) (name : OptionName) : Type 0 where
  before : List OptionName
  behind : List OptionName
  are : names ≡ before ++ (name ∷ behind)
  given : AllByRecursion (λ other. IsGiven other run) before
  lack : IsGiven name run → ⊥

lack_test : (b : Bool) (first : OptionName) (names : List OptionName) (run : List Spelling) (name : OptionName) → is_given first (all_put no_options run) ≡ b → (if not b then Some first else lacking names (all_put no_options run)) ≡ Some name → (lacking names (all_put no_options run) ≡ Some name → FirstLack names run name) → FirstLack (first ∷ names) run name
lack_test true first names run name there is later =
    let lack = later is in
    record {
      before = first ∷ lack.before;
      behind = lack.behind;
      are = ap (λ (ns : List OptionName). first ∷ ns) lack.are;
      given = (all_given first run there, lack.given);
      lack = lack.lack;
    }
lack_test false first names run name there is later =
    let same : first ≡ name = (let some : Some first ≡ Some name = is in cc) in
    record {
      before = [];
      behind = names;
      are = ap (λ (n : OptionName). n ∷ names) same;
      given = tt;
      lack = λ again. absurd (missing (subst (λ (n : OptionName). IsGiven n run) (sym same) again));
    }
  where
    missing : IsGiven first run → ⊥
    missing again = let clash : true ≡ false = sym (given_there first no_options run again) ∙ there in cc

first_lack : (names : List OptionName) (run : List Spelling) (name : OptionName) → lacking names (all_put no_options run) ≡ Some name → FirstLack names run name
first_lack [] run name is = absurd (cc)
first_lack (first ∷ names) run name is = lack_test (is_given first (all_put no_options run)) first names run name refl is (first_lack names run name)

-- the first of these options that is given without the one that it needs
record FirstUnmet (pairs : List (OptionName × OptionName)) (run : List Spelling) (need : OptionName × OptionName) : Type 0 where
  before : List (OptionName × OptionName)
  behind : List (OptionName × OptionName)
  are : pairs ≡ before ++ (need ∷ behind)
  met : AllByRecursion (HasNeeded run) before
  given : IsGiven need.0 run
  lack : IsGiven need.1 run → ⊥

unmet_later : (first : OptionName × OptionName) (pairs : List (OptionName × OptionName)) (run : List Spelling) (need : OptionName × OptionName) → HasNeeded run first → FirstUnmet pairs run need → FirstUnmet (first ∷ pairs) run need
unmet_later first pairs run need has lack = record {
  before = first ∷ lack.before;
  behind = lack.behind;
  are = ap (λ (ns : List (OptionName × OptionName)). first ∷ ns) lack.are;
  met = (has, lack.met);
  given = lack.given;
  lack = lack.lack;
}

unmet_here : (first : OptionName × OptionName) (pairs : List (OptionName × OptionName)) (run : List Spelling) (need : OptionName × OptionName) → first ≡ need → IsGiven first.0 run → (IsGiven first.1 run → ⊥) → FirstUnmet (first ∷ pairs) run need
unmet_here first pairs run need same given lack = record {
  before = [];
  behind = pairs;
  are = ap (λ (n : OptionName × OptionName). n ∷ pairs) same;
  met = tt;
  given = subst (λ (n : OptionName × OptionName). IsGiven n.0 run) same given;
  lack = subst (λ (n : OptionName × OptionName). IsGiven n.1 run → ⊥) same lack;
}

not_there : (name : OptionName) (run : List Spelling) → is_given name (all_put no_options run) ≡ false → IsGiven name run → ⊥
not_there name run test again = let clash : true ≡ false = sym (given_there name no_options run again) ∙ test in cc

unmet_test : (a b : Bool) (first : OptionName × OptionName) (pairs : List (OptionName × OptionName)) (run : List Spelling) (need : OptionName × OptionName) → is_given first.0 (all_put no_options run) ≡ a → is_given first.1 (all_put no_options run) ≡ b → (if a && not b then Some first else unmet pairs (all_put no_options run)) ≡ Some need → (unmet pairs (all_put no_options run) ≡ Some need → FirstUnmet pairs run need) → FirstUnmet (first ∷ pairs) run need
unmet_test true true first pairs run need here there is later = unmet_later first pairs run need (λ given. all_given first.1 run there) (later is)
unmet_test true false first pairs run need here there is later = unmet_here first pairs run need (let some : Some first ≡ Some need = is in cc) (all_given first.0 run here) (not_there first.1 run there)
unmet_test false b first pairs run need here there is later = unmet_later first pairs run need (λ given. absurd (not_there first.0 run here given)) (later is)

first_unmet : (pairs : List (OptionName × OptionName)) (run : List Spelling) (need : OptionName × OptionName) → unmet pairs (all_put no_options run) ≡ Some need → FirstUnmet pairs run need
first_unmet [] run need is = absurd (cc)
first_unmet (first ∷ pairs) run need is = unmet_test (is_given first.0 (all_put no_options run)) (is_given first.1 (all_put no_options run)) first pairs run need refl refl is (first_unmet pairs run need)

-- the first of these options that is given
record FirstGiven (names : List OptionName) (run : List Spelling) (name : OptionName) : Type 0 where
  before : List OptionName
  behind : List OptionName
  are : names ≡ before ++ (name ∷ behind)
  none : AllByRecursion (λ other. IsGiven other run → ⊥) before
  given : IsGiven name run

given_test : (b : Bool) (first : OptionName) (names : List OptionName) (run : List Spelling) (name : OptionName) → is_given first (all_put no_options run) ≡ b → (if b then Some first else first_given names (all_put no_options run)) ≡ Some name → (first_given names (all_put no_options run) ≡ Some name → FirstGiven names run name) → FirstGiven (first ∷ names) run name
given_test true first names run name there is later =
    let same : first ≡ name = (let some : Some first ≡ Some name = is in cc) in
    record {
      before = [];
      behind = names;
      are = ap (λ (n : OptionName). n ∷ names) same;
      none = tt;
      given = subst (λ (n : OptionName). IsGiven n run) same (all_given first run there);
    }
given_test false first names run name there is later =
    let found = later is in
    record {
      before = first ∷ found.before;
      behind = found.behind;
      are = ap (λ (ns : List OptionName). first ∷ ns) found.are;
      none = (not_there first run there, found.none);
      given = found.given;
    }

first_one : (names : List OptionName) (run : List Spelling) (name : OptionName) → first_given names (all_put no_options run) ≡ Some name → FirstGiven names run name
first_one [] run name is = absurd (cc)
first_one (first ∷ names) run name is = given_test (is_given first (all_put no_options run)) first names run name refl is (first_one names run name)

-- an option for streams, and none that says that there is one
idle_test : (stream : Bool) (names : List OptionName) (run : List Spelling) (name : OptionName) → idle stream names (all_put no_options run) ≡ Some name → (stream ≡ false) × FirstGiven names run name
idle_test true names run name is = let clash : None ≡ Some name = is in absurd (cc)
idle_test false names run name is = (refl, first_one names run name is)

idle_fault : (lack : Option OptionName) (command : CommandName) (run : List Spelling) (place : ℕ) (misuse : Misuse) → Runs command no_options run → AllByRecursion (λ other. IsGiven other run) (row_of command).required → AllByRecursion (HasNeeded run) needs → idle_of command (all_put no_options run) ≡ lack → idle_none lack command place (all_put no_options run) ≡ Err misuse → IsFault command run place [] misuse
idle_fault None command run place misuse runs complete met found is = absurd (cc)
idle_fault (Some name) command run place misuse runs complete met found is =
    let one = idle_test (is_stream (sealed_in ((all_put no_options run).values options.As))) (for_streams command) run name found in
    no_stream name one.1.before one.1.behind refl complete met one.1.are one.1.none one.1.given (no_stream_said command run runs one.0) (let same : Err (misuse_at place (misfits.NoStream command name)) ≡ Err misuse = is in cc)

unmet_of : (lack : Option (OptionName × OptionName)) (command : CommandName) (run : List Spelling) (place : ℕ) (misuse : Misuse) → Runs command no_options run → AllByRecursion (λ other. IsGiven other run) (row_of command).required → unmet needs (all_put no_options run) ≡ lack → unmet_none lack command place (all_put no_options run) ≡ Err misuse → IsFault command run place [] misuse
unmet_of None command run place misuse runs complete found is = idle_fault (idle_of command (all_put no_options run)) command run place misuse runs complete (met_of needs run found) refl is
unmet_of (Some need) command run place misuse runs complete found is =
    let lack = first_unmet needs run need found in
    without need lack.before lack.behind refl complete lack.are lack.met lack.given lack.lack (let same : Err (misuse_at place (misfits.Without command need.0 need.1)) ≡ Err misuse = is in cc)

lack_of : (lack : Option OptionName) (command : CommandName) (run : List Spelling) (place : ℕ) (misuse : Misuse) → Runs command no_options run → lacking (row_of command).required (all_put no_options run) ≡ lack → lacking_none lack command place (all_put no_options run) ≡ Err misuse → IsFault command run place [] misuse
lack_of None command run place misuse runs found is = unmet_of (unmet needs (all_put no_options run)) command run place misuse runs (all_of (row_of command).required run found) refl is
lack_of (Some name) command run place misuse runs found is =
    let lack = first_lack (row_of command).required run name found in
    lacks name lack.before lack.behind refl lack.are lack.given lack.lack (let same : Err (misuse_at place (misfits.Lacks command name)) ≡ Err misuse = is in cc)

misused_behind : (command : CommandName) (name : List ℕ) (words : List (List ℕ)) (run : List Spelling) (rest : List (List ℕ)) (misuse : Misuse) → name ≡ (row_of command).word → words ≡ flat_map spelled run ++ rest → Runs command no_options run → IsFault command run (1 + length (flat_map spelled run)) rest misuse → IsMisused (name ∷ words) misuse
misused_behind command name words run rest misuse named are runs fault =
    behind_options command run rest (ap (λ (w : List ℕ). w ∷ words) named ∙ ap (λ (ws : List (List ℕ)). (row_of command).word ∷ ws) are)
    (once_of command no_options run runs) (apart_of command no_options run runs) (taken_of command no_options run runs) (formed_of command no_options run runs) fault

options_misused : (command : CommandName) (name : List ℕ) (words : List (List ℕ)) (misuse : Misuse) (r : Result Options Misuse) → name ≡ (row_of command).word → options_of command 1 no_options words ≡ r → (r >>= complete command (1 + length words)) ≡ Err misuse → IsMisused (name ∷ words) misuse
options_misused command name words misuse (Err at) named taken is =
    let stop : Stop command no_options 1 words misuse = stops command 1 no_options words misuse (taken ∙ (let same : Err at ≡ Err misuse = is in cc)) in
    misused_behind command name words stop.run stop.rest misuse named stop.are stop.runs (fault_of command stop.run (1 + length (flat_map spelled stop.run)) stop.rest misuse stop.fault)
options_misused command name words misuse (Ok last) named taken is =
    let found = run_read command 1 no_options words last taken in
    let count = ap (λ (ws : List (List ℕ)). 1 + length ws) found.1 in
    let fault = lack_of (lacking (row_of command).required (all_put no_options found.0)) command found.0 (1 + length words) misuse found.2 refl (ap (complete command (1 + length words)) (sym found.3) ∙ is) in
    misused_behind command name words found.0 [] misuse named (found.1 ∙ sym (append-nil (flat_map spelled found.0))) found.2
    (subst (λ (place : ℕ). IsFault command found.0 place [] misuse) count fault)

named_misused : (command : CommandName) (name : List ℕ) (words : List (List ℕ)) (misuse : Misuse) → name ≡ (row_of command).word → with_options command words ≡ Err misuse → IsMisused (name ∷ words) misuse
unfolding given_in
named_misused command name words misuse named is = options_misused command name words misuse _ named refl is

-- All words.

alone_misused : (front : List (List ℕ)) (asked : Asked) (words : List (List ℕ)) (misuse : Misuse) → Helps front asked → by_itself (length front) asked words ≡ Err misuse → IsMisused (front ++ words) misuse
alone_misused front asked [] misuse helps is = absurd (cc)
alone_misused front asked (word ∷ words) misuse helps is = too_many asked front word words helps refl (let same : Err (misuse_at (length front) misfits.TooMany) ≡ Err misuse = is in cc)

topic_misused : (found : Option Topic) (first name : List ℕ) (words : List (List ℕ)) (misuse : Misuse) → first ≡ codes "help" → topic_of name ≡ found → topic_words found words ≡ Err misuse → IsMisused (first ∷ name ∷ words) misuse
topic_misused None first name words misuse named found is =
    no_topic name words (ap (λ (w : List ℕ). w ∷ name ∷ words) named) unknown (let same : Err (misuse_at 1 misfits.NoTopic) ≡ Err misuse = is in cc)
  where
    unknown : (topic : Topic) → IsNameOf topic name → ⊥
    unknown topic of_topic = let clash : Some topic ≡ None = sym (topic_found topic name of_topic) ∙ found in cc
topic_misused (Some topic) first name words misuse named found is =
    alone_misused (first ∷ name ∷ []) (help topic) words misuse (a_topic topic name (topic_is name topic found) (ap (λ (w : List ℕ). w ∷ name ∷ []) named) refl) is

help_misused : (first : List ℕ) (words : List (List ℕ)) (misuse : Misuse) → first ≡ codes "help" → help_words words ≡ Err misuse → IsMisused (first ∷ words) misuse
help_misused first [] misuse named is = let clash : Ok (help topics.Commands) ≡ Err misuse = is in absurd (cc)
help_misused first (name ∷ words) misuse named is = topic_misused (topic_of name) first name words misuse named refl is

command_misused : (command : CommandName) (name : List ℕ) (words : List (List ℕ)) (misuse : Misuse) → name ≡ (row_of command).word → command_words command words ≡ Err misuse → IsMisused (name ∷ words) misuse
command_misused command name [] misuse named is = named_misused command name [] misuse named is
command_misused command name (word ∷ words) misuse named is = by (is_help_flag word) refl is
  where
    by : (b : Bool) → is_help_flag word ≡ b → (if b then by_itself 2 (help (topics.Command command)) words else with_options command (word ∷ words)) ≡ Err misuse → IsMisused (name ∷ word ∷ words) misuse
    by true flag is = alone_misused (name ∷ word ∷ []) (help (topics.Command command)) words misuse (its_help command word (flag_is word flag) (ap (λ (w : List ℕ). w ∷ word ∷ []) named) refl) is
    by false flag is = named_misused command name (word ∷ words) misuse named is

help_first : (name : List ℕ) → IsHelpWord name → first_of name ≡ None → ⊥
unfolding first_of
help_first name (inl same) none = let clash : Some firsts.Help ≡ None = ap first_of (sym same) ∙ none in cc
help_first name (inr (inl same)) none = let clash : Some firsts.HelpFlag ≡ None = ap first_of (sym same) ∙ none in cc
help_first name (inr (inr same)) none = let clash : Some firsts.HelpFlag ≡ None = ap first_of (sym same) ∙ none in cc

version_first : (name : List ℕ) → IsVersionWord name → first_of name ≡ None → ⊥
unfolding first_of
version_first name (inl same) none = let clash : Some firsts.Version ≡ None = ap first_of (sym same) ∙ none in cc
version_first name (inr same) none = let clash : Some firsts.Version ≡ None = ap first_of (sym same) ∙ none in cc

command_first : (command : CommandName) (name : List ℕ) → name ≡ (row_of command).word → first_of name ≡ None → ⊥
command_first command name named none = let clash : Some (firsts.Command command) ≡ None = sym (first_found command) ∙ ap first_of (sym named) ∙ none in cc

first_misused : (first : Option First) (name : List ℕ) (words : List (List ℕ)) (misuse : Misuse) → first_of name ≡ first → asked_of first words ≡ Err misuse → IsMisused (name ∷ words) misuse
first_misused None name words misuse none is =
    no_command name words refl (λ command named. command_first command name named none) (λ helps. help_first name helps none) (λ asks. version_first name asks none)
    (let same : Err (misuse_at 0 misfits.NoCommand) ≡ Err misuse = is in cc)
first_misused (Some firsts.Help) name words misuse named is = help_misused name words misuse (first_is name firsts.Help named) is
first_misused (Some firsts.HelpFlag) name words misuse named is =
    alone_misused (name ∷ []) (help topics.Commands) words misuse (the_list name (inr (first_is name firsts.HelpFlag named)) refl refl) is
first_misused (Some firsts.Version) name words misuse named is =
    alone_misused (name ∷ []) version words misuse (the_version name (first_is name firsts.Version named) refl refl) is
first_misused (Some (firsts.Command command)) name words misuse named is = command_misused command name words misuse (first_is name (firsts.Command command) named) is

pub misuses_are_true : MisusesAreTrue
unfolding words_of
misuses_are_true [] misuse is = no_word refl (let same : Err (misuse_at 0 misfits.NoCommand) ≡ Err misuse = is in cc)
misuses_are_true (name ∷ words) misuse is = first_misused (first_of name) name words misuse refl is
