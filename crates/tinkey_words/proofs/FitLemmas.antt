-- The options of a run fit their command, and options that fit are a run; so words are accepted exactly
-- where they spell a command and options that fit it, or ask for help or for the version.
use Rattle.std.proofs.Common.{◌≡◌, ◌⊎◌, ◌∙◌, sym, refl, ap, subst, inl, inr, ℕ, ◌+◌, Bool, true, false, List, [], ◌∷◌, ◌++◌, length, Option, Some, None, Ok, Err, Result}
use Rattle.std.specs.Prelude.{◌||◌, ◌&&◌, is_some, not, if◌then◌else◌, codes}
use Rattle.std.specs.List.{AllByRecursion, flat_map}
use Rattle.std.specs.Str.{str_eq_ignore_ascii_case, str_to_ascii_lowercase}
use Rattle.std.proofs.Math.Path.{fun_ext}
use Rattle.tinkey_words.specs.declared.words.help.First.{First}
use Rattle.tinkey_words.specs.declared.words.help.First.TheVariants as firsts
use Rattle.tinkey_words.specs.declared.words.help.Topic.TheVariants as topics
use Rattle.tinkey_words.specs.declared.words.misuse.Misfit.TheVariants as misfits
use Rattle.tinkey_words.specs.declared.words.misuse.Misuse.{Misuse}
use Rattle.tinkey_words.specs.declared.words.names.CommandName.{CommandName}
use Rattle.tinkey_words.specs.declared.words.names.OptionName.{OptionName}
use Rattle.tinkey_words.specs.declared.words.names.OptionName.TheVariants as options
use Rattle.tinkey_words.specs.Names.{row_of, form_for, rival, needs, for_streams}
use Rattle.tinkey_words.specs.Rows.{same, is_one_of, sealed_form_of}
use Rattle.tinkey_words.specs.Words.{◌>>=◌, Asked, Values, asked_by, Options, is_given, is_excluded, is_barred, put, options_of, no_options, given_in, lacking, lacking_none, unmet, unmet_none, is_stream, sealed_in, first_given, idle, idle_of, idle_none, misuse_at, complete, with_options, is_help_flag, help, version, first_of, by_itself, command_words, asked_of, words_of}
use Rattle.tinkey_words.specs.Grammar.{IsValue, Spelling, spelled, IsGiven, IsOnce, AreApart, IsOneOf, HasNeeded, SaysStream, Fits, values_of, Spells, Helps, the_list, its_help, the_version, WordsAreSpelled}
use Rattle.tinkey_words.proofs.HelpLemmas.{first_found, first_is, flag_is, options_behind, alone_accepted, help_asked, helps_accepted}
use Rattle.tinkey_words.proofs.NameLemmas.{are_rivals}
use Rattle.tinkey_words.proofs.RowLemmas.{same_self, same_is, stream_named, named_stream}
use Rattle.tinkey_words.proofs.SpellingLemmas.{Runs, all_put, run_taken, run_read}

-- One option more.

put_test : (b : Bool) (value : List ℕ) (before : Option (List ℕ)) → is_some (if b then Some value else before) ≡ (b || is_some before)
put_test true value before = refl
put_test false value before = refl

or_true : (b : Bool) → (b || true) ≡ true
or_true true = refl
or_true false = refl

put_there : (name : OptionName) (value : List ℕ) (given : Options) → is_given name (put name value given) ≡ true
put_there name value given = rw (same_self name) refl

-- what was given stays so
put_keeps : (name other : OptionName) (value : List ℕ) (given : Options) → is_given name given ≡ true → is_given name (put other value given) ≡ true
put_keeps name other value given is = put_test (same other name) value (given.values name) ∙ rw is (or_true (same other name))

-- and another one isn't given by it
put_other : (b : Bool) (name other : OptionName) (value : List ℕ) (given : Options) → same other name ≡ b → (other ≡ name → ⊥) → is_given name given ≡ false → is_given name (put other value given) ≡ false
put_other true name other value given test differs is = absurd (differs (same_is other name test))
put_other false name other value given test differs is = rw test is

put_same : (b : Bool) (name other : OptionName) (value : List ℕ) (given : Options) → same other name ≡ b → is_given name given ≡ false → is_given name (put other value given) ≡ true → other ≡ name
put_same true name other value given test was is = same_is other name test
put_same false name other value given test was is = let now = rw test at is in let clash : false ≡ true = sym was ∙ now in absurd (cc)

-- One of these options.

pub one_is : (name : OptionName) (names : List OptionName) → IsOneOf name names → is_one_of name names ≡ true
one_is name [] one = absurd one
one_is name (other ∷ names) (inl here) = rw (← here, same_self name) refl
one_is name (other ∷ names) (inr later) = rw (one_is name names later) (or_true (same name other))

one_at : (b : Bool) (name other : OptionName) (names : List OptionName) → same name other ≡ b → (b || is_one_of name names) ≡ true → (is_one_of name names ≡ true → IsOneOf name names) → IsOneOf name (other ∷ names)
one_at true name other names test is later = inl (same_is name other test)
one_at false name other names test is later = inr (later is)

pub is_one : (name : OptionName) (names : List OptionName) → is_one_of name names ≡ true → IsOneOf name names
is_one name [] is = absurd (cc)
is_one name (other ∷ names) is = one_at (same name other) name other names refl is (is_one name names)

-- From options that fit to a run.

abbrev New : Options → Spelling → Type 0
New given s = is_barred s.name given ≡ false

pub neither : (a b : Bool) → (a || b) ≡ false → (a ≡ false) × (b ≡ false)
neither true b is = absurd (cc)
neither false b is = (refl, is)

-- it wasn't given, and none that excludes it
not_barred : (name : OptionName) (given : Options) → is_barred name given ≡ false → (is_given name given ≡ false) × (is_excluded (rival name) given ≡ false)
not_barred name given is = neither (is_given name given) (is_excluded (rival name) given) is

is_free : (name : OptionName) (given : Options) → is_given name given ≡ false → is_excluded (rival name) given ≡ false → is_barred name given ≡ false
is_free name given new apart = rw (new, apart) refl

none_excluded : (other : Option OptionName) → is_excluded other no_options ≡ false
none_excluded None = refl
none_excluded (Some other) = refl

-- an option more excludes none but its rival
excluded_put : (other : Option OptionName) (name : OptionName) (value : List ℕ) (given : Options) → (other ≡ Some name → ⊥) → is_excluded other given ≡ false → is_excluded other (put name value given) ≡ false
excluded_put None name value given differs is = refl
excluded_put (Some other) name value given differs is = put_other (same name other) other name value given refl (λ same. differs (ap Some (sym same))) is

-- the options behind one that isn't there again are still new
still_new : (name : OptionName) (value : List ℕ) (given : Options) (run : List Spelling) → (IsGiven name run → ⊥) → ((other : OptionName) → rival other ≡ Some name → IsGiven other run → ⊥) → AllByRecursion (New given) run → AllByRecursion (New (put name value given)) run
still_new name value given [] once apart new = tt
still_new name value given (s ∷ run) once apart new =
    let parts = not_barred s.name given new.0 in (
      is_free s.name (put name value given)
          (put_other (same name s.name) s.name name value given refl (λ same. once (inl (sym same))) parts.0)
          (excluded_put (rival s.name) name value given (λ excludes. apart s.name excludes (inl refl)) parts.1),
      still_new name value given run (λ again. once (inr again)) (λ other excludes there. apart other excludes (inr there)) new.1,
    )

runs_of : (command : CommandName) (given : Options) (run : List Spelling) → AllByRecursion (New given) run → IsOnce run → AreApart run → AllByRecursion (λ s. IsOneOf s.name ((row_of command).required ++ (row_of command).optional)) run → AllByRecursion (λ s. IsValue (form_for s.name command) s.value) run → Runs command given run
runs_of command given [] new once apart taken formed = tt
runs_of command given (s ∷ run) new once apart taken formed = (
  one_is s.name ((row_of command).required ++ (row_of command).optional) taken.0,
  new.0,
  formed.0,
  runs_of command (put s.name s.value given) run (still_new s.name s.value given run once.0 (λ other excludes there. apart other s.name excludes (inr there) (inl refl)) new.1) once.1 (λ a b excludes first second. apart a b excludes (inr first) (inr second)) taken.1 formed.1,
)

all_new : (run : List Spelling) → AllByRecursion (New no_options) run
all_new [] = tt
all_new (s ∷ run) = (none_excluded (rival s.name), all_new run)

-- what is given stays so
given_stays : (name : OptionName) (given : Options) (run : List Spelling) → is_given name given ≡ true → is_given name (all_put given run) ≡ true
given_stays name given [] is = is
given_stays name given (s ∷ run) is = given_stays name (put s.name s.value given) run (put_keeps name s.name s.value given is)

pub given_there : (name : OptionName) (given : Options) (run : List Spelling) → IsGiven name run → is_given name (all_put given run) ≡ true
given_there name given [] there = absurd there
given_there name given (s ∷ run) (inl same) = given_stays name (put s.name s.value given) run (subst (λ (n : OptionName). is_given n (put s.name s.value given) ≡ true) same (put_there s.name s.value given))
given_there name given (s ∷ run) (inr later) = given_there name (put s.name s.value given) run later

all_there : (names : List OptionName) (run : List Spelling) → AllByRecursion (λ name. IsGiven name run) names → lacking names (all_put no_options run) ≡ None
all_there [] run there = refl
all_there (name ∷ names) run there = rw (given_there name no_options run there.0) (all_there names run there.1)

-- what is given in the end, and wasn't before, is there
there_at : (name : OptionName) (given : Options) (s : Spelling) (run : List Spelling) (b : Bool) → is_given name (put s.name s.value given) ≡ b → is_given name given ≡ false → (b ≡ false → IsGiven name run) → IsGiven name (s ∷ run)
there_at name given s run true now was later = inl (put_same (same s.name name) name s.name s.value given refl was now)
there_at name given s run false now was later = inr (later refl)

pub there_of : (name : OptionName) (given : Options) (run : List Spelling) → is_given name given ≡ false → is_given name (all_put given run) ≡ true → IsGiven name run
there_of name given [] was is = let clash : false ≡ true = sym was ∙ is in absurd (cc)
there_of name given (s ∷ run) was is = there_at name given s run _ refl was (λ now. there_of name (put s.name s.value given) run now is)

-- what each option of a run needs is there, where it has all that is needed
unmet_test : (a b : Bool) (need : OptionName × OptionName) (later : Option (OptionName × OptionName)) → (a ≡ true → b ≡ true) → (if a && not b then Some need else later) ≡ later
unmet_test true true need later has = refl
unmet_test true false need later has = let clash : false ≡ true = has refl in absurd (cc)
unmet_test false b need later has = refl

all_met : (pairs : List (OptionName × OptionName)) (run : List Spelling) → AllByRecursion (HasNeeded run) pairs → unmet pairs (all_put no_options run) ≡ None
all_met [] run has = refl
all_met (need ∷ pairs) run has =
    unmet_test (is_given need.0 (all_put no_options run)) (is_given need.1 (all_put no_options run)) need (unmet pairs (all_put no_options run))
    (λ is. given_there need.1 no_options run (has.0 (there_of need.0 no_options run refl is)))
    ∙ all_met pairs run has.1

-- The values of a run are those that were given first, as none is there twice.

abbrev or_else : Option (List ℕ) → Option (List ℕ) → Option (List ℕ)
or_else None later = later
or_else (Some value) later = Some value

or_none : (value : Option (List ℕ)) → value ≡ or_else value None
or_none None = refl
or_none (Some value) = refl

new_none : (value : Option (List ℕ)) → is_some value ≡ false → value ≡ None
new_none None new = refl
new_none (Some value) new = absurd (cc)

-- the value behind one option more, which was new
value_put : (b : Bool) (name : OptionName) (s : Spelling) (given : Options) (later : Option (List ℕ)) → same s.name name ≡ b → is_given s.name given ≡ false → or_else (if b then Some s.value else given.values name) later ≡ or_else (given.values name) (if b then Some s.value else later)
value_put true name s given later test new =
    let none : given.values name ≡ None = new_none (given.values name) (subst (λ (n : OptionName). is_given n given ≡ false) (same_is s.name name test) new) in
    rw none refl
value_put false name s given later test new = refl

value_run : (command : CommandName) (given : Options) (run : List Spelling) (name : OptionName) → Runs command given run → (all_put given run).values name ≡ or_else (given.values name) (values_of run name)
value_run command given [] name runs = or_none (given.values name)
value_run command given (s ∷ run) name runs =
    value_run command (put s.name s.value given) run name runs.3 ∙ value_put (same s.name name) name s given (values_of run name) refl (not_barred s.name given runs.1).0

pub values_run : (command : CommandName) (run : List Spelling) → Runs command no_options run → (all_put no_options run).values ≡ values_of run
values_run command run runs = fun_ext (λ name. value_run command no_options run name runs)

-- A stream is said to be one.

value_said : (value : Option (List ℕ)) → is_stream (sealed_in value) ≡ true → (text : List ℕ) × (value ≡ Some text) × (str_to_ascii_lowercase text ≡ codes "stream")
unfolding sealed_form_of
value_said None is = let clash : false ≡ true = is in absurd (cc)
value_said (Some text) is = (text, refl, stream_named text is)

said_value : (value : Option (List ℕ)) (text : List ℕ) → value ≡ Some text → str_to_ascii_lowercase text ≡ codes "stream" → is_stream (sealed_in value) ≡ true
said_value value text given low = rw given (named_stream text low)

-- the words of a run say so where their values do
says_stream : (command : CommandName) (run : List Spelling) → Runs command no_options run → is_stream (sealed_in ((all_put no_options run).values options.As)) ≡ true → SaysStream run
says_stream command run runs is = value_said (values_of run options.As) (ap (λ (values : Values). is_stream (sealed_in (values options.As))) (sym (values_run command run runs)) ∙ is)

stream_said : (command : CommandName) (run : List Spelling) → Runs command no_options run → SaysStream run → is_stream (sealed_in ((all_put no_options run).values options.As)) ≡ true
stream_said command run runs says = ap (λ (values : Values). is_stream (sealed_in (values options.As))) (values_run command run runs) ∙ said_value (values_of run options.As) says.0 says.1 says.2

pub no_stream_said : (command : CommandName) (run : List Spelling) → Runs command no_options run → is_stream (sealed_in ((all_put no_options run).values options.As)) ≡ false → SaysStream run → ⊥
no_stream_said command run runs is says = let clash : true ≡ false = sym (stream_said command run runs says) ∙ is in cc

-- an option for streams isn't idle where it has one
given_test : (b : Bool) (name : OptionName) (later : Option OptionName) → b ≡ false → (if b then Some name else later) ≡ later
given_test true name later is = absurd (cc)
given_test false name later is = refl

none_first : (names : List OptionName) (run : List Spelling) → AllByRecursion (λ name. IsGiven name run → ⊥) names → first_given names (all_put no_options run) ≡ None
none_first [] run none = refl
none_first (name ∷ names) run none =
    given_test (is_given name (all_put no_options run)) name (first_given names (all_put no_options run)) (by (is_given name (all_put no_options run)) refl)
    ∙ none_first names run none.1
  where
    by : (b : Bool) → is_given name (all_put no_options run) ≡ b → b ≡ false
    by true is = absurd (none.0 (there_of name no_options run refl is))
    by false is = refl

none_given : (names : List OptionName) (run : List Spelling) → (SaysStream run → ⊥) → AllByRecursion (λ name. IsGiven name run → SaysStream run) names → AllByRecursion (λ name. IsGiven name run → ⊥) names
none_given [] run not all = tt
none_given (name ∷ names) run not all = ((λ given. not (all.0 given)), none_given names run not all.1)

none_idle : (stream : Bool) (command : CommandName) (run : List Spelling) → Runs command no_options run → AllByRecursion (λ name. IsGiven name run → SaysStream run) (for_streams command) → is_stream (sealed_in ((all_put no_options run).values options.As)) ≡ stream → idle stream (for_streams command) (all_put no_options run) ≡ None
none_idle true command run runs all is = refl
none_idle false command run runs all is = none_first (for_streams command) run (none_given (for_streams command) run (no_stream_said command run runs is) all)

-- a command that has all that it requires is complete
completed : (command : CommandName) (count : ℕ) (run : List Spelling) (asked : Asked) → Fits command run → Runs command no_options run → asked ≡ asked_by command (values_of run) → complete command count (all_put no_options run) ≡ Ok asked
completed command count run asked fits runs asks =
    let there = all_there (row_of command).required run fits.complete in
    let has = all_met needs run fits.met in
    let used : idle_of command (all_put no_options run) ≡ None = none_idle (is_stream (sealed_in ((all_put no_options run).values options.As))) command run runs fits.streams refl in
    rw (there, has, used) (ap (λ (values : Values). Ok (asked_by command values)) (values_run command run runs) ∙ ap Ok (sym asks))

spelled_accepted : (words : List (List ℕ)) (asked : Asked) → Spells words asked → words_of words ≡ Ok asked
unfolding words_of given_in
spelled_accepted words asked spells =
    let command = spells.command in
    let runs = runs_of command no_options spells.given (all_new spells.given) spells.fits.once spells.fits.apart spells.fits.taken spells.fits.formed in
    let taken = run_taken command 1 no_options spells.given refl runs in
    let done = completed command (1 + length (flat_map spelled spells.given)) spells.given asked spells.fits runs spells.asks in
    ap words_of spells.are
    ∙ ap (λ (first : Option First). asked_of first (flat_map spelled spells.given)) (first_found command)
    ∙ options_behind command spells.given
    ∙ ap (λ (r : Result Options Misuse). r >>= complete command (1 + length (flat_map spelled spells.given))) taken
    ∙ done

-- From a run to options that fit.

not_again : (command : CommandName) (name : OptionName) (given : Options) (run : List Spelling) → Runs command given run → is_given name given ≡ true → IsGiven name run → ⊥
not_again command name given [] runs is again = again
not_again command name given (s ∷ run) runs is (inl same) = let clash : true ≡ false = sym is ∙ subst (λ (n : OptionName). is_given n given ≡ false) same (not_barred s.name given runs.1).0 in cc
not_again command name given (s ∷ run) runs is (inr later) = not_again command name (put s.name s.value given) run runs.3 (put_keeps name s.name s.value given is) later

pub once_of : (command : CommandName) (given : Options) (run : List Spelling) → Runs command given run → IsOnce run
once_of command given [] runs = tt
once_of command given (s ∷ run) runs = (not_again command s.name (put s.name s.value given) run runs.3 (put_there s.name s.value given), once_of command (put s.name s.value given) run runs.3)

-- an option that is given excludes its rival
not_beside : (command : CommandName) (name other : OptionName) (given : Options) (run : List Spelling) → Runs command given run → is_given name given ≡ true → rival other ≡ Some name → IsGiven other run → ⊥
not_beside command name other given [] runs is excludes there = there
not_beside command name other given (s ∷ run) runs is excludes (inl same) =
    let free = subst (λ (n : OptionName). is_excluded (rival n) given ≡ false) same (not_barred s.name given runs.1).1 in
    let new : is_given name given ≡ false = subst (λ (o : Option OptionName). is_excluded o given ≡ false) excludes free in
    let clash : true ≡ false = sym is ∙ new in cc
not_beside command name other given (s ∷ run) runs is excludes (inr later) = not_beside command name other (put s.name s.value given) run runs.3 (put_keeps name s.name s.value given is) excludes later

pub apart_of : (command : CommandName) (given : Options) (run : List Spelling) → Runs command given run → AreApart run
apart_of command given [] runs a b excludes first second = first
apart_of command given (s ∷ run) runs a b excludes (inl here) (inl there) = (are_rivals a b excludes).1 (sym here ∙ there)
apart_of command given (s ∷ run) runs a b excludes (inl here) (inr there) = not_beside command a b (put s.name s.value given) run runs.3 (subst (λ (n : OptionName). is_given n (put s.name s.value given) ≡ true) here (put_there s.name s.value given)) (are_rivals a b excludes).0 there
apart_of command given (s ∷ run) runs a b excludes (inr here) (inl there) = not_beside command b a (put s.name s.value given) run runs.3 (subst (λ (n : OptionName). is_given n (put s.name s.value given) ≡ true) there (put_there s.name s.value given)) excludes here
apart_of command given (s ∷ run) runs a b excludes (inr here) (inr there) = apart_of command (put s.name s.value given) run runs.3 a b excludes here there

pub taken_of : (command : CommandName) (given : Options) (run : List Spelling) → Runs command given run → AllByRecursion (λ s. IsOneOf s.name ((row_of command).required ++ (row_of command).optional)) run
taken_of command given [] runs = tt
taken_of command given (s ∷ run) runs = (is_one s.name ((row_of command).required ++ (row_of command).optional) runs.0, taken_of command (put s.name s.value given) run runs.3)

pub formed_of : (command : CommandName) (given : Options) (run : List Spelling) → Runs command given run → AllByRecursion (λ s. IsValue (form_for s.name command) s.value) run
formed_of command given [] runs = tt
formed_of command given (s ∷ run) runs = (runs.2, formed_of command (put s.name s.value given) run runs.3)

lack_none : (b : Bool) (name : OptionName) (later : Option OptionName) → (if not b then Some name else later) ≡ None → (b ≡ true) × (later ≡ None)
lack_none true name later is = (refl, is)
lack_none false name later is = let clash : Some name ≡ None = is in absurd (cc)

pub all_of : (names : List OptionName) (run : List Spelling) → lacking names (all_put no_options run) ≡ None → AllByRecursion (λ name. IsGiven name run) names
all_of [] run is = tt
all_of (name ∷ names) run is =
    let here = lack_none (is_given name (all_put no_options run)) name (lacking names (all_put no_options run)) is in
    (there_of name no_options run refl here.0, all_of names run here.1)

unmet_pass : (a b : Bool) (need : OptionName × OptionName) (later : Option (OptionName × OptionName)) → (if a && not b then Some need else later) ≡ None → (a ≡ true → b ≡ true) × (later ≡ None)
unmet_pass true true need later is = (λ same. refl, is)
unmet_pass true false need later is = let clash : Some need ≡ None = is in absurd (cc)
unmet_pass false b need later is = (λ same. absurd (cc), is)

pub met_of : (pairs : List (OptionName × OptionName)) (run : List Spelling) → unmet pairs (all_put no_options run) ≡ None → AllByRecursion (HasNeeded run) pairs
met_of [] run is = tt
met_of (need ∷ pairs) run is =
    let here = unmet_pass (is_given need.0 (all_put no_options run)) (is_given need.1 (all_put no_options run)) need (unmet pairs (all_put no_options run)) is in
    (λ there. there_of need.1 no_options run refl (here.0 (given_there need.0 no_options run there)), met_of pairs run here.1)

given_pass : (b : Bool) (name : OptionName) (later : Option OptionName) → (if b then Some name else later) ≡ None → (b ≡ false) × (later ≡ None)
given_pass true name later is = let clash : Some name ≡ None = is in absurd (cc)
given_pass false name later is = (refl, is)

-- where none of these options is given, that they need a stream is so
none_there : (names : List OptionName) (run : List Spelling) → first_given names (all_put no_options run) ≡ None → AllByRecursion (λ name. IsGiven name run → SaysStream run) names
none_there [] run is = tt
none_there (name ∷ names) run is =
    let here = given_pass (is_given name (all_put no_options run)) name (first_given names (all_put no_options run)) is in
    (λ there. (let clash : true ≡ false = sym (given_there name no_options run there) ∙ here.0 in absurd (cc)), none_there names run here.1)

all_say : (names : List OptionName) (run : List Spelling) → SaysStream run → AllByRecursion (λ name. IsGiven name run → SaysStream run) names
all_say [] run says = tt
all_say (name ∷ names) run says = ((λ there. says), all_say names run says)

streams_of : (stream : Bool) (command : CommandName) (run : List Spelling) → Runs command no_options run → is_stream (sealed_in ((all_put no_options run).values options.As)) ≡ stream → idle stream (for_streams command) (all_put no_options run) ≡ None → AllByRecursion (λ name. IsGiven name run → SaysStream run) (for_streams command)
streams_of true command run runs test is = all_say (for_streams command) run (says_stream command run runs test)
streams_of false command run runs test is = none_there (for_streams command) run is

used_test : (lack : Option OptionName) (command : CommandName) (count : ℕ) (given : Options) (asked : Asked) → idle_none lack command count given ≡ Ok asked → (lack ≡ None) × (asked ≡ asked_by command given.values)
used_test None command count given asked is = (refl, let same : Ok (asked_by command given.values) ≡ Ok asked = is in cc)
used_test (Some name) command count given asked is = let clash : Err (misuse_at count (misfits.NoStream command name)) ≡ Ok asked = is in absurd (cc)

met_test : (lack : Option (OptionName × OptionName)) (command : CommandName) (count : ℕ) (given : Options) (asked : Asked) → unmet_none lack command count given ≡ Ok asked → (lack ≡ None) × (idle_of command given ≡ None) × (asked ≡ asked_by command given.values)
met_test None command count given asked is = let used = used_test (idle_of command given) command count given asked is in (refl, used.0, used.1)
met_test (Some need) command count given asked is = let clash : Err (misuse_at count (misfits.Without command need.0 need.1)) ≡ Ok asked = is in absurd (cc)

complete_test : (lack : Option OptionName) (command : CommandName) (count : ℕ) (given : Options) (asked : Asked) → lacking_none lack command count given ≡ Ok asked → (lack ≡ None) × (unmet needs given ≡ None) × (idle_of command given ≡ None) × (asked ≡ asked_by command given.values)
complete_test None command count given asked is = let met = met_test (unmet needs given) command count given asked is in (refl, met.0, met.1, met.2)
complete_test (Some name) command count given asked is = let clash : Err (misuse_at count (misfits.Lacks command name)) ≡ Ok asked = is in absurd (cc)

-- a run of a complete command fits
fits_of : (command : CommandName) (count : ℕ) (run : List Spelling) (asked : Asked) → Runs command no_options run → complete command count (all_put no_options run) ≡ Ok asked → Fits command run × (asked ≡ asked_by command (values_of run))
fits_of command count run asked runs is =
    let done = complete_test (lacking (row_of command).required (all_put no_options run)) command count (all_put no_options run) asked is in (
      record {
        once = once_of command no_options run runs;
        apart = apart_of command no_options run runs;
        taken = taken_of command no_options run runs;
        formed = formed_of command no_options run runs;
        complete = all_of (row_of command).required run done.0;
        met = met_of needs run done.1;
        streams = streams_of (is_stream (sealed_in ((all_put no_options run).values options.As))) command run runs refl done.2;
      },
      done.3 ∙ ap (asked_by command) (values_run command run runs),
    )

accepted_options : (command : CommandName) (words : List (List ℕ)) (asked : Asked) (r : Result Options Misuse) → options_of command 1 no_options words ≡ r → (r >>= complete command (1 + length words)) ≡ Ok asked → (run : List Spelling) × (words ≡ flat_map spelled run) × Fits command run × (asked ≡ asked_by command (values_of run))
accepted_options command words asked (Err at) taken is = let clash : Err at ≡ Ok asked = is in absurd (cc)
accepted_options command words asked (Ok last) taken is =
    let found = run_read command 1 no_options words last taken in
    let fits = fits_of command (1 + length words) found.0 asked found.2 (ap (complete command (1 + length words)) (sym found.3) ∙ is) in
    (found.0, found.1, fits.0, fits.1)

accepted_named : (command : CommandName) (name : List ℕ) (words : List (List ℕ)) (asked : Asked) → name ≡ (row_of command).word → with_options command words ≡ Ok asked → Spells (name ∷ words) asked
unfolding given_in
accepted_named command name words asked named is =
    let run = accepted_options command words asked _ refl is in
    record {
      command = command;
      given = run.0;
      are = ap (λ (w : List ℕ). w ∷ words) named ∙ ap (λ (ws : List (List ℕ)). (row_of command).word ∷ ws) run.1;
      fits = run.2;
      asks = run.3;
    }

-- behind a command's word
accepted_behind : (command : CommandName) (name : List ℕ) (words : List (List ℕ)) (asked : Asked) → name ≡ (row_of command).word → command_words command words ≡ Ok asked → Spells (name ∷ words) asked ⊎ Helps (name ∷ words) asked
accepted_behind command name [] asked named is = inl (accepted_named command name [] asked named is)
accepted_behind command name (word ∷ words) asked named is = by (is_help_flag word) refl is
  where
    by : (b : Bool) → is_help_flag word ≡ b → (if b then by_itself 2 (help (topics.Command command)) words else with_options command (word ∷ words)) ≡ Ok asked → Spells (name ∷ word ∷ words) asked ⊎ Helps (name ∷ word ∷ words) asked
    by true flag is =
        let done = alone_accepted 2 (help (topics.Command command)) asked words is in
        inr (its_help command word (flag_is word flag) (ap (λ (w : List ℕ). w ∷ word ∷ words) named ∙ ap (λ (ws : List (List ℕ)). (row_of command).word ∷ word ∷ ws) done.0) done.1)
    by false flag is = inl (accepted_named command name (word ∷ words) asked named is)

accepted_first : (first : Option First) (name : List ℕ) (words : List (List ℕ)) (asked : Asked) → first_of name ≡ first → asked_of first words ≡ Ok asked → Spells (name ∷ words) asked ⊎ Helps (name ∷ words) asked
accepted_first None name words asked named is = let clash : Err (misuse_at 0 misfits.NoCommand) ≡ Ok asked = is in absurd (cc)
accepted_first (Some firsts.Help) name words asked named is = inr (help_asked name words asked (first_is name firsts.Help named) is)
accepted_first (Some firsts.HelpFlag) name words asked named is =
    let done = alone_accepted 1 (help topics.Commands) asked words is in
    inr (the_list name (inr (first_is name firsts.HelpFlag named)) (ap (λ (ws : List (List ℕ)). name ∷ ws) done.0) done.1)
accepted_first (Some firsts.Version) name words asked named is =
    let done = alone_accepted 1 version asked words is in
    inr (the_version name (first_is name firsts.Version named) (ap (λ (ws : List (List ℕ)). name ∷ ws) done.0) done.1)
accepted_first (Some (firsts.Command command)) name words asked named is = accepted_behind command name words asked (first_is name (firsts.Command command) named) is

accepted_spelled : (words : List (List ℕ)) (asked : Asked) → words_of words ≡ Ok asked → Spells words asked ⊎ Helps words asked
unfolding words_of
accepted_spelled [] asked is = let clash : Err (misuse_at 0 misfits.NoCommand) ≡ Ok asked = is in absurd (cc)
accepted_spelled (name ∷ words) asked is = accepted_first (first_of name) name words asked refl is

both_accepted : (words : List (List ℕ)) (asked : Asked) → Spells words asked ⊎ Helps words asked → words_of words ≡ Ok asked
both_accepted words asked (inl spells) = spelled_accepted words asked spells
both_accepted words asked (inr helps) = helps_accepted words asked helps

pub words_are_spelled : WordsAreSpelled
words_are_spelled words asked = (accepted_spelled words asked, both_accepted words asked)
