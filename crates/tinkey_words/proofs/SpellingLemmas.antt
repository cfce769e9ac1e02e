-- Words that are taken are those of a run of options, each of which is the command's, new and of its form.
use Rattle.std.proofs.Common.{◌≡◌, ◌∙◌, sym, refl, ap, subst, ℕ, suc, ◌+◌, ◌<◌, Bool, true, false, List, [], ◌∷◌, ◌++◌, length, take, drop, get_or, arith, add-one, drop-cons, Option, Some, None, Ok, Err, Result}
use Rattle.std.specs.Prelude.{nat_lt, if◌then◌else◌}
use Rattle.std.specs.List.{flat_map, position_or_len, before_first, after_first}
use Rattle.std.proofs.lemmas.Bool.Decides.{nat_tests}
use Rattle.std.proofs.lemmas.List.{take-append-drop}
use Rattle.std.proofs.lemmas.List.Sums.{passes_at_first}
use Rattle.tinkey_words.specs.declared.words.misuse.Misfit.TheVariants as misfits
use Rattle.tinkey_words.specs.declared.words.misuse.Misuse.{Misuse}
use Rattle.tinkey_words.specs.declared.words.names.CommandName.{CommandName}
use Rattle.tinkey_words.specs.declared.words.names.OptionName.{OptionName}
use Rattle.tinkey_words.specs.Names.{option_row, form_for, rival}
use Rattle.tinkey_words.specs.Rows.{option_of, takes, is_value, is_flag}
use Rattle.tinkey_words.specs.Words.{◌>>=◌, Options, is_equals, own_value, misvalued, misuse_at, is_barred, bar, new_option, put, with_value, option_word, word_after, next_word, ended, options_of, alone}
use Rattle.tinkey_words.specs.Grammar.{IsValue, Spelling, spelled_as, spelled}
use Rattle.tinkey_words.proofs.NameLemmas.{flag_form}
use Rattle.tinkey_words.proofs.RowLemmas.{flag_empty, flag_formed, option_found, option_named, own_plain, own_joined, value_taken, value_formed, value_other}

-- a word that is cut at its equals sign
equals_sign : (b : ℕ) → is_equals b ≡ true → b ≡ 61
equals_sign b is = grind (arith, nat_tests)

cut_there : (word : List ℕ) (i : ℕ) → i ≡ position_or_len is_equals word → i < length word → word ≡ take i word ++ (61 ∷ drop (i + 1) word)
cut_there word i at within =
    let sign = equals_sign (get_or word i 0) (rw (sym at) at (passes_at_first is_equals word 0 (rw at at within))) in
    let rest : drop i word ≡ 61 ∷ drop (i + 1) word = rw add-one (drop-cons word i 0 within ∙ ap (λ (b : ℕ). b ∷ drop (suc i) word) sign) in
    sym (take-append-drop i word) ∙ ap (λ (l : List ℕ). take i word ++ l) rest

own_test : (word : List ℕ) (own : List ℕ × List ℕ) (b : Bool) → nat_lt (position_or_len is_equals word) (length word) ≡ b → (if b then Some (before_first is_equals word, after_first is_equals word) else None) ≡ Some own → word ≡ own.0 ++ (61 ∷ own.1)
own_test word own true test is =
    let within : position_or_len is_equals word < length word = grind (arith, nat_tests) in
    let same : (before_first is_equals word, after_first is_equals word) ≡ own = cc in
    subst (λ (o : List ℕ × List ℕ). word ≡ o.0 ++ (61 ∷ o.1)) same (cut_there word _ refl within)
own_test word own false test is = absurd (cc)

pub own_cut : (word : List ℕ) (own : List ℕ × List ℕ) → own_value word ≡ Some own → word ≡ own.0 ++ (61 ∷ own.1)
unfolding own_value
own_cut word own is = own_test word own _ refl is

-- Options, one after another.

-- a value of its form is taken, and no other
with_taken : (command : CommandName) (name : OptionName) (value : List ℕ) (place : ℕ) (given : Options) → is_flag (option_row name).form ≡ false → IsValue (form_for name command) value → with_value command name value place given ≡ Ok (put name value given)
with_taken command name value place given other formed = rw (value_taken (form_for name command) value (flag_form name command ∙ other) formed) refl

form_test : (command : CommandName) (name : OptionName) (value : List ℕ) (b : Bool) (misuse : Misuse) (given more : Options) → is_value (form_for name command) value ≡ b → (if b then Ok (put name value given) else Err misuse) ≡ Ok more → IsValue (form_for name command) value × (more ≡ put name value given) × (is_flag (option_row name).form ≡ false)
form_test command name value true misuse given more formed is = (value_formed (form_for name command) value formed, (let ok : Ok (put name value given) ≡ Ok more = is in cc), sym (flag_form name command) ∙ value_other (form_for name command) value formed)
form_test command name value false misuse given more formed is = let clash : Err misuse ≡ Ok more = is in absurd (cc)

pub with_formed : (command : CommandName) (name : OptionName) (value : List ℕ) (place : ℕ) (given more : Options) → with_value command name value place given ≡ Ok more → IsValue (form_for name command) value × (more ≡ put name value given) × (is_flag (option_row name).form ≡ false)
with_formed command name value place given more is = form_test command name value _ (misuse_at place (misvalued (form_for name command) command name value)) given more refl is

option_test : (a b : Bool) (found name : OptionName) (untaken barred : Misuse) → (if a then (if b then Err barred else Ok found) else Err untaken) ≡ Ok name → (a ≡ true) × (b ≡ false) × (found ≡ name)
option_test true true found name untaken barred is = let clash : Err barred ≡ Ok name = is in absurd (cc)
option_test true false found name untaken barred is = (refl, refl, let ok : Ok found ≡ Ok name = is in cc)
option_test false b found name untaken barred is = let clash : Err untaken ≡ Ok name = is in absurd (cc)

-- what stands of an option that was taken: its text is its name, and it is the command's and new
pub record Taken (command : CommandName) (text : List ℕ) (name : OptionName) (given : Options) : Type 0 where
  pub named : text ≡ (option_row name).word
  pub takes : takes command name ≡ true
  pub new : is_barred name given ≡ false

pub option_is : (command : CommandName) (text : List ℕ) (found : Option OptionName) (place : ℕ) (given : Options) (name : OptionName) → option_of text ≡ found → new_option command found place given ≡ Ok name → Taken command text name given
option_is command text None place given name named is = let clash : Err (misuse_at place (misfits.NoOption command)) ≡ Ok name = is in absurd (cc)
option_is command text (Some other) place given name named is =
    let test = option_test (takes command other) (is_barred other given) other name (misuse_at place (misfits.NoOption command)) (misuse_at place (bar command other (rival other) given)) is in
    record {
      named = option_named text name (named ∙ ap (λ (n : OptionName). Some n) test.2);
      takes = subst (λ (n : OptionName). takes command n ≡ true) test.2 test.0;
      new = subst (λ (n : OptionName). is_barred n given ≡ false) test.2 test.1;
    }

-- Runs of options.

-- each option in turn is the command's, new, and of its form
abbrev pub Runs : CommandName → Options → List Spelling → Type 0
Runs command given [] = Unit {0}
Runs command given (s ∷ more) = (takes command s.name ≡ true) × (is_barred s.name given ≡ false) × IsValue (form_for s.name command) s.value × Runs command (put s.name s.value given) more

abbrev pub all_put : Options → List Spelling → Options
all_put given [] = given
all_put given (s ∷ more) = all_put (put s.name s.value given) more

-- the words of a run are taken
joined_word : (command : CommandName) (word : List ℕ) (first : ℕ) (given : Options) (name : OptionName) (value : List ℕ) → takes command name ≡ true → is_barred name given ≡ false → is_flag (option_row name).form ≡ false → IsValue (form_for name command) value → option_word command (Some ((option_row name).word, value)) word first given ≡ Ok (put name value given)
joined_word command word first given name value taken new other formed = rw (option_found name, taken, new, with_taken command name value first given other formed) refl

joined_taken : (command : CommandName) (first : ℕ) (given : Options) (name : OptionName) (value : List ℕ) (rest : List (List ℕ)) → given.waiting ≡ None → takes command name ≡ true → is_barred name given ≡ false → is_flag (option_row name).form ≡ false → IsValue (form_for name command) value → options_of command first given (((option_row name).word ++ (61 ∷ value)) ∷ rest) ≡ options_of command (first + 1) (put name value given) rest
joined_taken command first given name value rest waits taken new other formed =
    let word = (option_row name).word ++ (61 ∷ value) in
    let next : next_word command word first given ≡ Ok (put name value given) =
    ap (λ (w : Option OptionName). word_after w command word first given) waits
    ∙ ap (λ (o : Option (List ℕ × List ℕ)). option_word command o word first given) (own_joined name value)
    ∙ joined_word command word first given name value taken new other formed in
    ap (λ (r : Result Options Misuse). r >>= (λ more. options_of command (first + 1) more rest)) next

name_word : (command : CommandName) (first : ℕ) (given : Options) (name : OptionName) → takes command name ≡ true → is_barred name given ≡ false → option_word command None ((option_row name).word) first given ≡ Ok (alone (is_flag (option_row name).form) name given)
name_word command first given name taken new = rw (option_found name, taken, new) refl

apart_taken : (command : CommandName) (first : ℕ) (given : Options) (name : OptionName) (value : List ℕ) (rest : List (List ℕ)) → given.waiting ≡ None → takes command name ≡ true → is_barred name given ≡ false → is_flag (option_row name).form ≡ false → IsValue (form_for name command) value → options_of command first given ((option_row name).word ∷ value ∷ rest) ≡ options_of command (first + 1 + 1) (put name value given) rest
apart_taken command first given name value rest waits taken new other formed =
    let word = (option_row name).word in
    let mid = record given { waiting = Some name } in
    let next : next_word command word first given ≡ Ok mid =
    ap (λ (w : Option OptionName). word_after w command word first given) waits
    ∙ ap (λ (o : Option (List ℕ × List ℕ)). option_word command o word first given) (own_plain name)
    ∙ name_word command first given name taken new
    ∙ ap (λ (b : Bool). Ok (alone b name given)) other in
    let then_value : with_value command name value (first + 1) mid ≡ Ok (put name value given) =
    with_taken command name value (first + 1) mid other formed in
    ap (λ (r : Result Options Misuse). r >>= (λ more. options_of command (first + 1) more (value ∷ rest))) next
    ∙ ap (λ (r : Result Options Misuse). r >>= (λ more. options_of command (first + 1 + 1) more rest)) then_value

-- a flag is taken by its word
flag_taken : (command : CommandName) (first : ℕ) (given : Options) (name : OptionName) (rest : List (List ℕ)) → given.waiting ≡ None → takes command name ≡ true → is_barred name given ≡ false → is_flag (option_row name).form ≡ true → options_of command first given ((option_row name).word ∷ rest) ≡ options_of command (first + 1) (put name [] given) rest
flag_taken command first given name rest waits taken new flag =
    let word = (option_row name).word in
    let next : next_word command word first given ≡ Ok (put name [] given) =
    ap (λ (w : Option OptionName). word_after w command word first given) waits
    ∙ ap (λ (o : Option (List ℕ × List ℕ)). option_word command o word first given) (own_plain name)
    ∙ name_word command first given name taken new
    ∙ ap (λ (b : Bool). Ok (alone b name given)) flag in
    ap (λ (r : Result Options Misuse). r >>= (λ more. options_of command (first + 1) more rest)) next

one_taken : (command : CommandName) (first : ℕ) (given : Options) (name : OptionName) (value : List ℕ) (flag joined : Bool) (more : List Spelling) → is_flag (option_row name).form ≡ flag → given.waiting ≡ None → takes command name ≡ true → is_barred name given ≡ false → IsValue (form_for name command) value → ((place : ℕ) → options_of command place (put name value given) (flat_map spelled more) ≡ Ok (all_put (put name value given) more)) → options_of command first given (spelled_as flag joined ((option_row name).word) value ++ flat_map spelled more) ≡ Ok (all_put (put name value given) more)
one_taken command first given name value true joined more is waits taken new formed later =
    flag_taken command first given name (flat_map spelled more) waits taken new is
    ∙ ap (λ (v : List ℕ). options_of command (first + 1) (put name v given) (flat_map spelled more)) (sym (flag_empty (form_for name command) value (flag_form name command ∙ is) formed))
    ∙ later (first + 1)
one_taken command first given name value false true more is waits taken new formed later = joined_taken command first given name value (flat_map spelled more) waits taken new is formed ∙ later (first + 1)
one_taken command first given name value false false more is waits taken new formed later = apart_taken command first given name value (flat_map spelled more) waits taken new is formed ∙ later (first + 1 + 1)

pub run_taken : (command : CommandName) (first : ℕ) (given : Options) (run : List Spelling) → given.waiting ≡ None → Runs command given run → options_of command first given (flat_map spelled run) ≡ Ok (all_put given run)
run_taken command first given [] waits runs = rw waits refl
run_taken command first given (s ∷ more) waits runs =
    one_taken command first given s.name s.value (is_flag (option_row s.name).form) s.joined more refl waits runs.0 runs.1 runs.2
    (λ place. run_taken command place (put s.name s.value given) more refl runs.3)

-- words that were taken are those of a run
abbrev pub Read : Option OptionName → CommandName → Options → List (List ℕ) → Options → Type 0
Read None command given words last = (run : List Spelling) × (words ≡ flat_map spelled run) × Runs command given run × (last ≡ all_put given run)
Read (Some name) command given words last = (value : List ℕ) × (run : List Spelling) × (words ≡ value ∷ flat_map spelled run) × IsValue (form_for name command) value × Runs command (put name value given) run × (last ≡ all_put (put name value given) run)

ended_read : (waiting : Option OptionName) (command : CommandName) (first : ℕ) (given last : Options) → ended waiting command first given ≡ Ok last → Read waiting command given [] last
ended_read None command first given last is = ([], refl, tt, let ok : Ok given ≡ Ok last = is in cc)
ended_read (Some name) command first given last is = let clash : Err (misuse_at first (misfits.NoValue command name)) ≡ Ok last = is in absurd (cc)

-- what was read behind a value, of the options with it
behind_value : (name : OptionName) (value : List ℕ) (command : CommandName) (given more : Options) (words : List (List ℕ)) (last : Options) → more ≡ put name value given → Read more.waiting command more words last → Read None command (put name value given) words last
behind_value name value command given more words last same later =
    subst (λ (o : Options). Read o.waiting command o words last) same later

value_read : (name : OptionName) (value : List ℕ) (command : CommandName) (place : ℕ) (given more : Options) (words : List (List ℕ)) (last : Options) → with_value command name value place given ≡ Ok more → Read more.waiting command more words last → Read (Some name) command given (value ∷ words) last
value_read name value command place given more words last is later =
    let formed = with_formed command name value place given more is in
    let run = behind_value name value command given more words last formed.1 later in
    (value, run.0, ap (λ (ws : List (List ℕ)). value ∷ ws) run.1, formed.0, run.2, run.3)

-- the words of an option in front of others
spelled_front : (name : OptionName) (value : List ℕ) (flag joined : Bool) (run : List Spelling) → is_flag (option_row name).form ≡ flag → spelled_as flag joined (option_row name).word value ++ flat_map spelled run ≡ flat_map spelled (record { name = name; value = value; joined = joined } ∷ run)
spelled_front name value flag joined run is = ap (λ (b : Bool). spelled_as b joined (option_row name).word value ++ flat_map spelled run) (sym is)

own_read : (command : CommandName) (own : List ℕ × List ℕ) (word : List ℕ) (place : ℕ) (given more : Options) (words : List (List ℕ)) (last : Options) (found : Result OptionName Misuse) → word ≡ own.0 ++ (61 ∷ own.1) → new_option command (option_of own.0) place given ≡ found → (found >>= (λ name. with_value command name own.1 place given)) ≡ Ok more → Read more.waiting command more words last → Read None command given (word ∷ words) last
own_read command own word place given more words last (Err at) cut_is test is later = let clash : Err at ≡ Ok more = is in absurd (cc)
own_read command own word place given more words last (Ok name) cut_is test is later =
    let taken = option_is command own.0 (option_of own.0) place given name refl test in
    let formed = with_formed command name own.1 place given more is in
    let run = behind_value name own.1 command given more words last formed.1 later in
    let named : word ≡ (option_row name).word ++ (61 ∷ own.1) = cut_is ∙ ap (λ (text : List ℕ). text ++ (61 ∷ own.1)) taken.named in (
      record { name = name; value = own.1; joined = true } ∷ run.0,
      ap (λ (w : List ℕ). w ∷ words) named ∙ ap (λ (ws : List (List ℕ)). ((option_row name).word ++ (61 ∷ own.1)) ∷ ws) run.1 ∙ spelled_front name own.1 false true run.0 formed.2,
      (taken.takes, taken.new, formed.0, run.2),
      run.3,
    )

name_read : (command : CommandName) (word : List ℕ) (place : ℕ) (given more : Options) (words : List (List ℕ)) (last : Options) (found : Result OptionName Misuse) → new_option command (option_of word) place given ≡ found → (found >>= (λ name. Ok (alone (is_flag (option_row name).form) name given))) ≡ Ok more → Read more.waiting command more words last → Read None command given (word ∷ words) last
name_read command word place given more words last (Err at) test is later = let clash : Err at ≡ Ok more = is in absurd (cc)
name_read command word place given more words last (Ok name) test is later =
    let taken = option_is command word (option_of word) place given name refl test in
    let same : alone (is_flag (option_row name).form) name given ≡ more = (let ok : Ok (alone (is_flag (option_row name).form) name given) ≡ Ok more = is in cc) in
    by (is_flag (option_row name).form) refl taken (subst (λ (o : Options). Read o.waiting command o words last) (sym same) later)
  where
    by : (flag : Bool) → is_flag (option_row name).form ≡ flag → Taken command word name given → Read (alone flag name given).waiting command (alone flag name given) words last → Read None command given (word ∷ words) last
    by true flag taken (run, are, runs, is) = (
      record { name = name; value = []; joined = false } ∷ run,
      ap (λ (w : List ℕ). w ∷ words) taken.named ∙ ap (λ (ws : List (List ℕ)). (option_row name).word ∷ ws) are ∙ spelled_front name [] true false run flag,
      (taken.takes, taken.new, flag_formed (form_for name command) (flag_form name command ∙ flag), runs),
      is,
    )
    by false flag taken (value, run, are, formed, runs, is) = (
      record { name = name; value = value; joined = false } ∷ run,
      ap (λ (w : List ℕ). w ∷ words) taken.named ∙ ap (λ (ws : List (List ℕ)). (option_row name).word ∷ ws) are ∙ spelled_front name value false false run flag,
      (taken.takes, taken.new, formed, runs),
      is,
    )

word_read : (own : Option (List ℕ × List ℕ)) (command : CommandName) (word : List ℕ) (place : ℕ) (given more : Options) (words : List (List ℕ)) (last : Options) → own_value word ≡ own → option_word command own word place given ≡ Ok more → Read more.waiting command more words last → Read None command given (word ∷ words) last
word_read None command word place given more words last cut_is is later = name_read command word place given more words last _ refl is later
word_read (Some own) command word place given more words last cut_is is later = own_read command own word place given more words last _ (own_cut word own cut_is) refl is later

after_read : (waiting : Option OptionName) (command : CommandName) (word : List ℕ) (place : ℕ) (given more : Options) (words : List (List ℕ)) (last : Options) → word_after waiting command word place given ≡ Ok more → Read more.waiting command more words last → Read waiting command given (word ∷ words) last
after_read (Some name) command word place given more words last is later = value_read name word command place given more words last is later
after_read None command word place given more words last is later = word_read (own_value word) command word place given more words last refl is later

step_read : (r : Result Options Misuse) (waiting : Option OptionName) (command : CommandName) (word : List ℕ) (place : ℕ) (given : Options) (words : List (List ℕ)) (last : Options) → word_after waiting command word place given ≡ r → (r >>= (λ more. options_of command (place + 1) more words)) ≡ Ok last → ((more : Options) → options_of command (place + 1) more words ≡ Ok last → Read more.waiting command more words last) → Read waiting command given (word ∷ words) last
step_read (Err at) waiting command word place given words last step is later = let clash : Err at ≡ Ok last = is in absurd (cc)
step_read (Ok more) waiting command word place given words last step is later = after_read waiting command word place given more words last step (later more is)

pub run_read : (command : CommandName) (place : ℕ) (given : Options) (words : List (List ℕ)) (last : Options) → options_of command place given words ≡ Ok last → Read given.waiting command given words last
run_read command place given [] last is = ended_read given.waiting command place given last is
run_read command place given (word ∷ words) last is =
    step_read (next_word command word place given) given.waiting command word place given words last refl is (λ more later. run_read command (place + 1) more words last later)
