-- Words, one after another.
use Rattle.std.proofs.Common.{◌≡◌, ◌≢◌, ℕ, suc, ◌+◌, ◌<◌, List, ◌∷◌, length, get_or, set, drop, map, refl, sym, ◌∙◌, ap, subst, arith, add-one, drop-cons}
use Rattle.std.specs.Prelude.{Bool, Option, Some, None, MatchOption, option_map, Result, Ok, Err, nat_lt, true, false, ◌&&◌, if◌then◌else◌}
use Rattle.std.specs.List.{position_or_len, before_first, after_first}
use Rattle.std.specs.Borrow.{Bor}
use Rattle.std.proofs.Math.Path.{fun_ext}
use Rattle.std.proofs.lemmas.Bool.Decides.{nat_tests}
use Rattle.std.proofs.lemmas.Grind.{get_or-set_at}
use Rattle.std.proofs.lemmas.List.{get_or-set_other}
use Rattle.tinkey_words.specs.declared.words.misuse.Misuse.{Misuse}
use Rattle.tinkey_words.specs.declared.words.names.CommandName.{CommandName}
use Rattle.tinkey_words.specs.declared.words.names.OptionName.{OptionName}
use Rattle.tinkey_words.specs.Names.{option_row, form_for}
use Rattle.tinkey_words.specs.Rows.{same, is_value}
use Rattle.tinkey_words.proofs.RowLemmas.{same_is}
use Rattle.tinkey_words.specs.Words.{Values, Options, is_equals, own_value, with_value, next_word, options_of, seen_values, holds_dash, without_dash}

-- a word, and those behind it
pub rest_of_words : {A : Type 0} (words : List A) (i : ℕ) (word : A) → i < length words → word ≡ get_or words i word → drop i words ≡ word ∷ drop (i + 1) words
rest_of_words {A} words i word lt is = rw add-one (drop-cons words i word lt ∙ ap (λ (w : A). w ∷ drop (suc i) words) (sym is))

-- a word at fault is where the options are at fault
pub fails_at : {A : Type 0} (view : A → List ℕ) (command : CommandName) (words : List A) (i : ℕ) (word : A) (given : Options) (misuse : Misuse) (whole : Result Options Misuse) → i < length words → word ≡ get_or words i word → options_of command (i + 1) given (map view (drop i words)) ≡ whole → next_word command (view word) (i + 1) given ≡ Err misuse → whole ≡ Err misuse
fails_at view command words i word given misuse whole lt is all fault =
    let front = rw (rest_of_words words i word lt is) at all in
    sym (rw fault at front)

-- behind a word, the options of the rest are still those of all
pub goes_on : {A : Type 0} (view : A → List ℕ) (command : CommandName) (words : List A) (i : ℕ) (word : A) (given more : Options) (whole : Result Options Misuse) → i < length words → word ≡ get_or words i word → options_of command (i + 1) given (map view (drop i words)) ≡ whole → next_word command (view word) (i + 1) given ≡ Ok more → options_of command (i + 1 + 1) more (map view (drop (i + 1) words)) ≡ whole
goes_on view command words i word given more whole lt is all step =
    let front = rw (rest_of_words words i word lt is) at all in
    rw step at front

-- where a word is cut at its first equals sign
pub own_split : (word : List ℕ) (cut : Option (Bor (List ℕ) × Bor (List ℕ))) → MatchOption cut (position_or_len is_equals word ≡ length word) (λ x. (position_or_len is_equals word < length word) × (x.0.now ≡ before_first is_equals word) × (x.1.now ≡ after_first is_equals word)) → option_map (λ own. (own.0.now, own.1.now)) cut ≡ own_value word
unfolding own_value
own_split word None whole = let e : nat_lt (position_or_len is_equals word) (length word) ≡ false = grind (arith, nat_tests) in rw e refl
own_split word (Some x) parts = let e : nat_lt (position_or_len is_equals word) (length word) ≡ true = grind (arith, nat_tests, parts.0) in rw (e, parts.1, parts.2) refl

-- what is kept at the place of an option, behind a write at one
value_set : (b : Bool) (name other : OptionName) (values : List (Option (Bor (List ℕ)))) (value : Bor (List ℕ)) → same name other ≡ b → (option_row name).place < length values → (if b then Some value.now else seen_values values other) ≡ seen_values (set values (option_row name).place (Some value)) other
value_set true name other values value test within =
    let at : (option_row other).place ≡ (option_row name).place = grind (arith, nat_tests) in
    rw (get_or-set_at values (option_row name).place (option_row other).place (Some value) None at within) refl
value_set false name other values value test within =
    let at : (option_row other).place ≢ (option_row name).place = grind (arith, nat_tests) in
    rw (get_or-set_other values (option_row name).place (option_row other).place (Some value) None at) refl

abbrev with_values : Values → Result Options Misuse
with_values values = Ok (record { values = values; waiting = None })

-- an option that is written at its place is put
pub value_put : (command : CommandName) (name : OptionName) (values : List (Option (Bor (List ℕ)))) (waiting : Option OptionName) (value : Bor (List ℕ)) (place at : ℕ) → at ≡ (option_row name).place → at < length values → is_value (form_for name command) value.now ≡ true → with_value command name value.now place (record { values = seen_values values; waiting = waiting }) ≡ Ok (record { values = seen_values (set values at (Some value)); waiting = None })
value_put command name values waiting value place at is within formed =
    let same_values = fun_ext (λ other. value_set (same name other) name other values value refl (omega (arith, is))) in
    rw (formed, is) (ap with_values same_values)

-- an option whose value is a dash is left out at its place
left_at : (b : Bool) (name other : OptionName) (values : List (Option (Bor (List ℕ)))) → same name other ≡ b → (option_row name).place < length values → holds_dash (seen_values values name) ≡ true → seen_values (set values (option_row name).place None) other ≡ (if b && holds_dash (seen_values values other) then None else seen_values values other)
left_at true name other values test within there =
    let at : (option_row other).place ≡ (option_row name).place = grind (arith, nat_tests) in
    let here : holds_dash (seen_values values other) ≡ true = subst (λ (n : OptionName). holds_dash (seen_values values n) ≡ true) (same_is name other test) there in
    rw (get_or-set_at values (option_row name).place (option_row other).place None None at within, here) refl
left_at false name other values test within there =
    let at : (option_row other).place ≢ (option_row name).place = grind (arith, nat_tests) in
    rw (get_or-set_other values (option_row name).place (option_row other).place None None at) refl

pub dash_left : (name : OptionName) (values : List (Option (Bor (List ℕ)))) (at : ℕ) → at ≡ (option_row name).place → at < length values → holds_dash (seen_values values name) ≡ true → seen_values (set values at None) ≡ without_dash name (seen_values values)
dash_left name values at is within there =
    rw is (fun_ext (λ other. left_at (same name other) name other values refl (omega (arith, is, within)) there))

-- and one with another value, or none, stays
kept_at : (b : Bool) (name other : OptionName) (values : Values) → same name other ≡ b → holds_dash (values name) ≡ false → values other ≡ (if b && holds_dash (values other) then None else values other)
kept_at true name other values test stays =
    let here : holds_dash (values other) ≡ false = subst (λ (n : OptionName). holds_dash (values n) ≡ false) (same_is name other test) stays in
    rw here refl
kept_at false name other values test stays = refl

pub dash_kept : (name : OptionName) (values : Values) → holds_dash (values name) ≡ false → values ≡ without_dash name values
dash_kept name values stays = fun_ext (λ other. kept_at (same name other) name other values refl stays)
