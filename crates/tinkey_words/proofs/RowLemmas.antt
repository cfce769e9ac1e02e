-- The tables of the words: an entry is found by its word and by its place, and a value is of its form.
use Rattle.std.proofs.Common.{◌≡◌, ◌≢◌, ◌⊎◌, inl, inr, ◌∙◌, sym, refl, ap, subst, ℕ, ◌+◌, ◌*◌, ◌^◌, ◌%◌, ◌≤◌, Bool, true, false, List, [], ◌∷◌, ◌++◌, length, drop, get_or, cond, arith, length-append, Option, Some, None}
use Rattle.std.specs.Prelude.{◌==◌, ◌&&◌, nat_lt, nat_le, is_some, not, option_map, if◌then◌else◌, codes}
use Rattle.std.specs.List.{find, list_all, position_or_len, before_first, after_first}
use Rattle.std.specs.Option.{option_and_then}
use Rattle.std.specs.Path.{path_file_name}
use Rattle.std.specs.Str.{bytes_eq, str_eq_ignore_ascii_case, str_to_ascii_lowercase}
use Rattle.std.specs.Str.Parse.{digits_value}
use Rattle.tink_base.specs.Decimal.{number_in}
use Rattle.tink_base.proofs.DecimalLemmas.{below_passes, below_taken, number_passes, number_taken}
use Rattle.std.proofs.Math.Seq.{get_or-append_seam, take-append_seam, drop-append-add}
use Rattle.std.proofs.lemmas.Bool.Decides.{nat_tests}
use Rattle.std.proofs.lemmas.List.{get_or_append_left}
use Rattle.std.proofs.lemmas.List.Sums.{position_or_len_is, fails_before_first}
use Rattle.std.proofs.lemmas.Slice.Eq.{bytes_eq-Decides, starts_is}
use Rattle.std.proofs.lemmas.Bool.Decides.{Decides-eqb}
use Rattle.tinkey_words.specs.declared.words.names.CommandName.{CommandName}
use Rattle.tinkey_words.specs.declared.words.rows.Format.TheVariants as formats
use Rattle.tinkey_words.specs.declared.words.rows.SealedForm.TheVariants as sealed
use Rattle.tinkey_words.specs.declared.words.rows.ValueForm.{ValueForm}
use Rattle.tinkey_words.specs.declared.words.rows.ValueForm.TheVariants as forms
use Rattle.tinkey_words.specs.declared.words.names.OptionName.{OptionName}
use Rattle.tinkey_words.specs.declared.words.names.OptionName.TheVariants as options
use Rattle.hex.specs.Hex.{is_hex_digit}
use Rattle.tinkey_words.specs.Names.{row_of, all_commands, option_row, all_options, primitive_of}
use Rattle.tinkey_words.specs.Rows.{command_of, option_of, same, datum_limit, is_line_count, most_lines, is_range_length, most_range, offset_in, format_of, sealed_form_of, is_hex, is_value, is_flag, temporary, begins_temporary, is_temporary, is_odd_hex, dash, is_dash, primitive_named}
use Rattle.key_msgs.specs.declared.primitive.Primitive.{Primitive}
use Rattle.tinkey_words.specs.Words.{is_equals, own_value, is_stream, known_sealed, sealed_in}
use Rattle.tinkey_words.proofs.NameLemmas.{command_found, is_found}
use Rattle.tinkey_words.specs.Grammar.{AsksForKeys, IsTemporary, IsHex, IsOddHex, IsLineCount, IsNumber, IsOffset, IsRangeLength, IsValue}

pub same_option : {A : Type 0} (o : Option A) → option_map (λ x. x) o ≡ o
same_option None = refl
same_option (Some x) = refl

-- Entries by their words.

pub same_text : (a b : List ℕ) → bytes_eq a b ≡ true → a ≡ b
same_text a b same = (bytes_eq-Decides a b).0 same

find_step : {X : Type 0} (test : X → Bool) (y x : X) (ys : List X) (b : Bool) → test y ≡ b → cond b (Some y) (find test ys) ≡ Some x → (find test ys ≡ Some x → test x ≡ true) → test x ≡ true
find_step test y x ys true is found later = let one : Some y ≡ Some x = found in let e : y ≡ x = cc in subst (λ z. test z ≡ true) e is
find_step test y x ys false is found later = later found

-- what is found passes the test
found_passes : {X : Type 0} (test : X → Bool) (xs : List X) (x : X) → find test xs ≡ Some x → test x ≡ true
found_passes test [] x found = absurd (cc)
found_passes test (y ∷ ys) x found = find_step test y x ys (test y) refl found (found_passes test ys x)

pub command_named : (text : List ℕ) (command : CommandName) → command_of text ≡ Some command → text ≡ (row_of command).word
unfolding command_of
command_named text command is = sym (same_text (row_of command).word text (found_passes (λ (c : CommandName). bytes_eq (row_of c).word text) all_commands command is))

pub option_found : (name : OptionName) → option_of (option_row name).word ≡ Some name
option_found name = (is_found name).word

pub option_named : (text : List ℕ) (name : OptionName) → option_of text ≡ Some name → text ≡ (option_row name).word
unfolding option_of
option_named text name is = sym (same_text (option_row name).word text (found_passes (λ (o : OptionName). bytes_eq (option_row o).word text) all_options name is))

-- Options by their places.

pub same_self : (name : OptionName) → same name name ≡ true
same_self name = grind (arith, nat_tests)

same_places : (a b : OptionName) → same a b ≡ true → (option_row a).place ≡ (option_row b).place
same_places a b is = grind (arith, nat_tests)

pub same_is : (a b : OptionName) → same a b ≡ true → a ≡ b
same_is a b is = sym (is_found a).place ∙ ap (λ (i : ℕ). get_or all_options i options.KeyTemplate) (same_places a b is) ∙ (is_found b).place

-- Words that are cut at their equals sign.

pub own_plain : (name : OptionName) → own_value (option_row name).word ≡ None
unfolding own_value
own_plain name =
    let word = (option_row name).word in
    let e : nat_lt (position_or_len is_equals word) (length word) ≡ false = rw (is_found name).plain (let f : nat_lt (length word) (length word) ≡ false = grind (arith, nat_tests) in f) in
    rw e refl

-- a word with no equals sign, and one behind it, are cut there
cut_seam : (word value : List ℕ) → position_or_len is_equals word ≡ length word → position_or_len is_equals (word ++ (61 ∷ value)) ≡ length word
cut_seam word value plain = position_or_len_is is_equals (word ++ (61 ∷ value)) (length word) 0 (omega (arith, length-append word (61 ∷ value)))
    (λ k within. ap is_equals (get_or_append_left word (61 ∷ value) 0 k within) ∙ fails_before_first is_equals word k 0 (omega (arith, plain)))
    (λ within. ap is_equals (get_or-append_seam word 61 value 0))

pub own_joined : (name : OptionName) (value : List ℕ) → own_value ((option_row name).word ++ (61 ∷ value)) ≡ Some ((option_row name).word, value)
unfolding own_value
own_joined name value =
    let word = (option_row name).word in
    let at = cut_seam word value (is_found name).plain in
    let e : nat_lt (position_or_len is_equals (word ++ (61 ∷ value))) (length (word ++ (61 ∷ value))) ≡ true = rw (at, length-append word (61 ∷ value)) (let f : nat_lt (length word) (length word + length (61 ∷ value)) ≡ true = grind (arith, nat_tests) in f) in
    let front : before_first is_equals (word ++ (61 ∷ value)) ≡ word = rw at (take-append_seam word (61 ∷ value)) in
    let back : after_first is_equals (word ++ (61 ∷ value)) ≡ value = rw at (drop-append-add word (61 ∷ value) 1) in
    rw (e, front, back) refl

-- Values of their forms.

is_there : (o : Option ℕ) → is_some o ≡ true → (n : ℕ) × (o ≡ Some n)
is_there (Some n) is = (n, refl)
is_there None is = absurd (cc)

number_formed : (text : List ℕ) → is_some (number_in text) ≡ true → IsNumber text
number_formed text is =
    let there = is_there (number_in text) is in
    let tests = number_passes text there.0 there.1 in
    record { digits = tests.2; some = tests.0; short = tests.1; within = (let below = tests.3 in omega (arith, below)) }

number_is : (text : List ℕ) → IsNumber text → number_in text ≡ Some (digits_value 10 text)
number_is text formed = number_taken text formed.some formed.short formed.digits (let within = formed.within in omega (arith, within))

pub two_pass : (a b : Bool) → (a && b) ≡ true → (a ≡ true) × (b ≡ true)
two_pass true true is = (refl, refl)
two_pass true false is = absurd (cc)
two_pass false b is = absurd (cc)

three_pass : (a b c : Bool) → (a && b && c) ≡ true → (a ≡ true) × (b ≡ true) × (c ≡ true)
three_pass true true true is = (refl, refl, refl)
three_pass true true false is = absurd (cc)
three_pass true false c is = absurd (cc)
three_pass false b c is = absurd (cc)

count_taken : (text : List ℕ) → IsLineCount text → is_line_count (number_in text) ≡ true
count_taken text formed =
    let e : nat_le 1 (digits_value 10 text) ≡ true = grind (arith, nat_tests, formed.some') in
    let f : nat_le (digits_value 10 text) most_lines ≡ true = grind (arith, nat_tests, formed.most) in
    rw (number_is text formed.number, e, f) refl

count_formed : (text : List ℕ) → is_line_count (number_in text) ≡ true → IsLineCount text
count_formed text is = by (number_in text) refl is
  where
    by : (o : Option ℕ) → number_in text ≡ o → is_line_count o ≡ true → IsLineCount text
    by (Some n) there is =
        let tests = two_pass (nat_le 1 n) (nat_le n most_lines) is in
        let same : digits_value 10 text ≡ n = (number_passes text n there).4 in
        record {
          number = number_formed text (rw there refl);
          some' = (let e = tests.0 in grind (arith, nat_tests, same));
          most = (let e = tests.1 in grind (arith, nat_tests, same));
        }
    by None there is = absurd (cc)

range_taken : (text : List ℕ) → IsRangeLength text → is_range_length (number_in text) ≡ true
range_taken text formed =
    let e : nat_le (digits_value 10 text) most_range ≡ true = grind (arith, nat_tests, formed.most) in
    rw (number_is text formed.number, e) refl

range_formed : (text : List ℕ) → is_range_length (number_in text) ≡ true → IsRangeLength text
range_formed text is = by (number_in text) refl is
  where
    by : (o : Option ℕ) → number_in text ≡ o → is_range_length o ≡ true → IsRangeLength text
    by (Some n) there is =
        let same : digits_value 10 text ≡ n = (number_passes text n there).4 in
        record {
          number = number_formed text (rw there refl);
          most = grind (arith, nat_tests, same);
        }
    by None there is = absurd (cc)

offset_taken : (text : List ℕ) → IsOffset text → is_some (offset_in text) ≡ true
unfolding offset_in
offset_taken text formed = ap is_some (below_taken 19 (2 ^ 63) text formed.some formed.short formed.digits formed.within)

offset_formed : (text : List ℕ) → is_some (offset_in text) ≡ true → IsOffset text
unfolding offset_in
offset_formed text is =
    let there = is_there (offset_in text) is in
    let tests = below_passes 19 (2 ^ 63) text there.0 there.1 in
    record { digits = tests.2; some = tests.0; short = tests.1; within = tests.3 }

not_empty : (value : List ℕ) → value ≢ [] → nat_lt 0 (length value) ≡ true
not_empty [] some = absurd (some refl)
not_empty (b ∷ bs) some = grind (arith, nat_tests)

some_byte : (value : List ℕ) → nat_lt 0 (length value) ≡ true → value ≢ []
some_byte value is none = let zero : nat_lt 0 (length value) ≡ false = rw none refl in let clash : true ≡ false = sym is ∙ zero in absurd (cc)

-- a temporary name, and another one
pub temporary_is : (path : List ℕ) → is_temporary path ≡ true → IsTemporary path
unfolding is_temporary
temporary_is path is = by (path_file_name path) refl is
  where
    by : (last : Option (List ℕ)) → path_file_name path ≡ last → begins_temporary last ≡ true → IsTemporary path
    by None named is = absurd (cc)
    by (Some last) named is = (drop (length temporary) last, named ∙ ap (λ (text : List ℕ). Some text) ((starts_is Decides-eqb last temporary _ refl).0 is))

pub is_temporary' : (path : List ℕ) → IsTemporary path → is_temporary path ≡ true
unfolding is_temporary
is_temporary' path (rest, are) = ap begins_temporary are ∙ (starts_is Decides-eqb (temporary ++ rest) temporary _ refl).1 rest refl

-- a dash
pub dash_is : (text : List ℕ) → is_dash text ≡ true → text ≡ dash
dash_is text is = same_text text dash is

pub is_dash' : (text : List ℕ) → text ≡ dash → is_dash text ≡ true
is_dash' text is = (bytes_eq-Decides text dash).1 is

-- a test of what isn't so
is_off : {P : Type 0} (b : Bool) → (b ≡ true → P) → (P → ⊥) → b ≡ false
is_off true is none = absurd (none (is refl))
is_off false is none = refl

off_is : {P : Type 0} (b : Bool) → (P → b ≡ true) → not b ≡ true → P → ⊥
off_is true is off there = let clash : false ≡ true = off in cc
off_is false is off there = let clash : false ≡ true = is there in cc

file_taken : (value : List ℕ) → (value ≢ []) × (value ≢ dash) → (nat_lt 0 (length value) && not (is_dash value)) ≡ true
file_taken value formed = rw (not_empty value formed.0, is_off (is_dash value) (dash_is value) formed.1) refl

file_formed : (value : List ℕ) → (nat_lt 0 (length value) && not (is_dash value)) ≡ true → (value ≢ []) × (value ≢ dash)
file_formed value is =
    let tests = two_pass (nat_lt 0 (length value)) (not (is_dash value)) is in
    (some_byte value tests.0, off_is (is_dash value) (is_dash' value) tests.1)

output_taken : (value : List ℕ) → (value ≢ []) × (IsTemporary value → ⊥) → (nat_lt 0 (length value) && not (is_temporary value)) ≡ true
output_taken value formed = rw (not_empty value formed.0, is_off (is_temporary value) (temporary_is value) formed.1) refl

output_formed : (value : List ℕ) → (nat_lt 0 (length value) && not (is_temporary value)) ≡ true → (value ≢ []) × (IsTemporary value → ⊥)
output_formed value is =
    let tests = two_pass (nat_lt 0 (length value)) (not (is_temporary value)) is in
    (some_byte value tests.0, off_is (is_temporary value) (is_temporary' value) tests.1)

new_file_taken : (value : List ℕ) → (value ≢ []) × (value ≢ dash) × (IsTemporary value → ⊥) → (nat_lt 0 (length value) && not (is_dash value) && not (is_temporary value)) ≡ true
new_file_taken value formed =
    rw (not_empty value formed.0, is_off (is_dash value) (dash_is value) formed.1, is_off (is_temporary value) (temporary_is value) formed.2) refl

new_file_formed : (value : List ℕ) → (nat_lt 0 (length value) && not (is_dash value) && not (is_temporary value)) ≡ true → (value ≢ []) × (value ≢ dash) × (IsTemporary value → ⊥)
new_file_formed value is =
    let tests = three_pass (nat_lt 0 (length value)) (not (is_dash value)) (not (is_temporary value)) is in
    (some_byte value tests.0, off_is (is_dash value) (is_dash' value) tests.1, off_is (is_temporary value) (is_temporary' value) tests.2)

-- one of two names
one_of_both : {X : Type 0} (x y : X) (a b : Bool) → (a ≡ true) ⊎ (b ≡ true) → is_some (if a then Some x else (if b then Some y else None)) ≡ true
one_of_both x y true b one = refl
one_of_both x y false true one = refl
one_of_both x y false false (inl is) = absurd (cc)
one_of_both x y false false (inr is) = absurd (cc)

which_one : {X : Type 0} (x y : X) (a b : Bool) → is_some (if a then Some x else (if b then Some y else None)) ≡ true → (a ≡ true) ⊎ (b ≡ true)
which_one x y true b is = inl refl
which_one x y false true is = inr refl
which_one x y false false is = absurd (cc)

-- one of three names
one_of_three : {X : Type 0} (x y z : X) (a b c : Bool) → (a ≡ true) ⊎ (b ≡ true) ⊎ (c ≡ true) → is_some (if a then Some x else (if b then Some y else (if c then Some z else None))) ≡ true
one_of_three x y z true b c one = refl
one_of_three x y z false true c one = refl
one_of_three x y z false false true one = refl
one_of_three x y z false false false (inl is) = absurd (cc)
one_of_three x y z false false false (inr (inl is)) = absurd (cc)
one_of_three x y z false false false (inr (inr is)) = absurd (cc)

which_of_three : {X : Type 0} (x y z : X) (a b c : Bool) → is_some (if a then Some x else (if b then Some y else (if c then Some z else None))) ≡ true → (a ≡ true) ⊎ (b ≡ true) ⊎ (c ≡ true)
which_of_three x y z true b c is = inl refl
which_of_three x y z false true c is = inr (inl refl)
which_of_three x y z false false true is = inr (inr refl)
which_of_three x y z false false false is = absurd (cc)

lowered_is : (value name : List ℕ) → str_to_ascii_lowercase name ≡ name → str_to_ascii_lowercase value ≡ name → str_eq_ignore_ascii_case value name ≡ true
lowered_is value name low is = (bytes_eq-Decides (str_to_ascii_lowercase value) (str_to_ascii_lowercase name)).1 (is ∙ sym low)

is_lowered : (value name : List ℕ) → str_to_ascii_lowercase name ≡ name → str_eq_ignore_ascii_case value name ≡ true → str_to_ascii_lowercase value ≡ name
is_lowered value name low test = same_text (str_to_ascii_lowercase value) (str_to_ascii_lowercase name) test ∙ low

format_taken : (value : List ℕ) → IsValue forms.Format value → is_some (format_of value) ≡ true
unfolding format_of
format_taken value (inl json) = one_of_both formats.Json formats.Binary (str_eq_ignore_ascii_case value (codes "json")) (str_eq_ignore_ascii_case value (codes "binary")) (inl (lowered_is value (codes "json") refl json))
format_taken value (inr binary) = one_of_both formats.Json formats.Binary (str_eq_ignore_ascii_case value (codes "json")) (str_eq_ignore_ascii_case value (codes "binary")) (inr (lowered_is value (codes "binary") refl binary))

format_formed : (value : List ℕ) → is_some (format_of value) ≡ true → IsValue forms.Format value
unfolding format_of
format_formed value is = elim (which_one formats.Json formats.Binary (str_eq_ignore_ascii_case value (codes "json")) (str_eq_ignore_ascii_case value (codes "binary")) is) [
  | inl json ↦ inl (is_lowered value (codes "json") refl json)
  | inr binary ↦ inr (is_lowered value (codes "binary") refl binary)
]

sealed_taken : (value : List ℕ) → IsValue forms.SealedForm value → is_some (sealed_form_of value) ≡ true
unfolding sealed_form_of
sealed_taken value named = one_of_three sealed.Text sealed.Envelope sealed.Stream (str_eq_ignore_ascii_case value (codes "text")) (str_eq_ignore_ascii_case value (codes "envelope")) (str_eq_ignore_ascii_case value (codes "stream")) (by named)
  where
    by : IsValue forms.SealedForm value → (str_eq_ignore_ascii_case value (codes "text") ≡ true) ⊎ (str_eq_ignore_ascii_case value (codes "envelope") ≡ true) ⊎ (str_eq_ignore_ascii_case value (codes "stream") ≡ true)
    by (inl text) = inl (lowered_is value (codes "text") refl text)
    by (inr (inl envelope)) = inr (inl (lowered_is value (codes "envelope") refl envelope))
    by (inr (inr stream)) = inr (inr (lowered_is value (codes "stream") refl stream))

sealed_formed : (value : List ℕ) → is_some (sealed_form_of value) ≡ true → IsValue forms.SealedForm value
unfolding sealed_form_of
sealed_formed value is = by (which_of_three sealed.Text sealed.Envelope sealed.Stream (str_eq_ignore_ascii_case value (codes "text")) (str_eq_ignore_ascii_case value (codes "envelope")) (str_eq_ignore_ascii_case value (codes "stream")) is)
  where
    by : (str_eq_ignore_ascii_case value (codes "text") ≡ true) ⊎ (str_eq_ignore_ascii_case value (codes "envelope") ≡ true) ⊎ (str_eq_ignore_ascii_case value (codes "stream") ≡ true) → IsValue forms.SealedForm value
    by (inl text) = inl (is_lowered value (codes "text") refl text)
    by (inr (inl envelope)) = inr (inl (is_lowered value (codes "envelope") refl envelope))
    by (inr (inr stream)) = inr (inr (is_lowered value (codes "stream") refl stream))

-- a stream is named so, and what is named so is one
third_of : (a b c : Bool) → is_stream (known_sealed (if a then Some sealed.Text else (if b then Some sealed.Envelope else (if c then Some sealed.Stream else None)))) ≡ true → c ≡ true
third_of true b c is = let clash : false ≡ true = is in absurd (cc)
third_of false true c is = let clash : false ≡ true = is in absurd (cc)
third_of false false true is = refl
third_of false false false is = let clash : false ≡ true = is in absurd (cc)

pub stream_named : (value : List ℕ) → is_stream (sealed_in (Some value)) ≡ true → str_to_ascii_lowercase value ≡ codes "stream"
unfolding sealed_form_of
stream_named value is = is_lowered value (codes "stream") refl (third_of (str_eq_ignore_ascii_case value (codes "text")) (str_eq_ignore_ascii_case value (codes "envelope")) (str_eq_ignore_ascii_case value (codes "stream")) is)

pub named_stream : (value : List ℕ) → str_to_ascii_lowercase value ≡ codes "stream" → is_stream (sealed_in (Some value)) ≡ true
unfolding sealed_form_of
named_stream value low = rw low refl

command_taken : (value : List ℕ) → AsksForKeys value → is_some (primitive_named value) ≡ true
unfolding primitive_named
command_taken value asks =
    let found : command_of value ≡ Some asks.command = ap command_of asks.word ∙ command_found asks.command in
    ap (λ (o : Option CommandName). is_some (option_and_then primitive_of o)) found ∙ ap (λ (o : Option Primitive). is_some o) asks.asks

with_keys : (value : List ℕ) (command : CommandName) (o : Option Primitive) → value ≡ (row_of command).word → primitive_of command ≡ o → is_some o ≡ true → AsksForKeys value
with_keys value command (Some primitive) word asks is = record { command = command; primitive = primitive; word = word; asks = asks }
with_keys value command None word asks is = absurd (cc)

command_formed : (value : List ℕ) → is_some (primitive_named value) ≡ true → AsksForKeys value
unfolding primitive_named
command_formed value is = by (command_of value) refl is
  where
    by : (o : Option CommandName) → command_of value ≡ o → is_some (option_and_then primitive_of o) ≡ true → AsksForKeys value
    by (Some command) found is = with_keys value command (primitive_of command) (command_named value command found) refl is
    by None found is = absurd (cc)

hex_taken : (value : List ℕ) → IsHex value → is_hex value ≡ true
hex_taken value formed =
    let a : nat_le (length value) (2 * datum_limit) ≡ true = grind (arith, nat_tests, formed.short) in
    let b : (length value % 2 == 0) ≡ true = grind (arith, nat_tests, formed.even) in
    rw (a, b, formed.digits) refl

hex_formed : (value : List ℕ) → is_hex value ≡ true → IsHex value
hex_formed value is =
    let tests = three_pass (nat_le (length value) (2 * datum_limit)) (length value % 2 == 0) (list_all is_hex_digit value) is in
    record {
      digits = tests.2;
      even = (let e = tests.1 in grind (arith, nat_tests));
      short = (let e = tests.0 in grind (arith, nat_tests));
    }

pub odd_is : (value : List ℕ) → is_odd_hex value ≡ true → IsOddHex value
odd_is value is =
    let tests = three_pass (nat_le (length value) (2 * datum_limit)) (length value % 2 == 1) (list_all is_hex_digit value) is in
    record {
      digits = tests.2;
      odd = (let e = tests.1 in grind (arith, nat_tests));
      short = (let e = tests.0 in grind (arith, nat_tests));
    }

pub is_odd' : (value : List ℕ) → IsOddHex value → is_odd_hex value ≡ true
is_odd' value formed =
    let a : nat_le (length value) (2 * datum_limit) ≡ true = grind (arith, nat_tests, formed.short) in
    let b : (length value % 2 == 1) ≡ true = grind (arith, nat_tests, formed.odd) in
    rw (a, b, formed.digits) refl

datum_taken : (value : List ℕ) → length value ≤ datum_limit → nat_le (length value) datum_limit ≡ true
datum_taken value within = grind (arith, nat_tests)

datum_formed : (value : List ℕ) → nat_le (length value) datum_limit ≡ true → length value ≤ datum_limit
datum_formed value is = grind (arith, nat_tests)

-- that no word holds a flag's value, and every other value of its form
pub value_taken : (form : ValueForm) (value : List ℕ) → is_flag form ≡ false → IsValue form value → is_value form value ≡ true
unfolding is_value
value_taken forms.Text value other formed = refl
value_taken forms.FileName value other formed = file_taken value formed
value_taken forms.Input value other formed = not_empty value formed
value_taken forms.NewFile value other formed = new_file_taken value formed
value_taken forms.Output value other formed = output_taken value formed
value_taken forms.Number value other formed = rw (number_is value formed) refl
value_taken forms.LineCount value other formed = count_taken value formed
value_taken forms.RangeLength value other formed = range_taken value formed
value_taken forms.Offset value other formed = offset_taken value formed
value_taken forms.Format value other formed = format_taken value formed
value_taken forms.SealedForm value other formed = sealed_taken value formed
value_taken forms.Command value other formed = command_taken value formed
value_taken forms.Datum value other formed = datum_taken value formed
value_taken forms.Hex value other formed = hex_taken value formed
value_taken forms.Flag value other formed = absurd (cc)

pub value_formed : (form : ValueForm) (value : List ℕ) → is_value form value ≡ true → IsValue form value
unfolding is_value
value_formed forms.Text value is = tt
value_formed forms.FileName value is = file_formed value is
value_formed forms.Input value is = some_byte value is
value_formed forms.NewFile value is = new_file_formed value is
value_formed forms.Output value is = output_formed value is
value_formed forms.Number value is = number_formed value is
value_formed forms.LineCount value is = count_formed value is
value_formed forms.RangeLength value is = range_formed value is
value_formed forms.Offset value is = offset_formed value is
value_formed forms.Format value is = format_formed value is
value_formed forms.SealedForm value is = sealed_formed value is
value_formed forms.Command value is = command_formed value is
value_formed forms.Datum value is = datum_formed value is
value_formed forms.Hex value is = hex_formed value is
value_formed forms.Flag value is = absurd (cc)

pub value_other : (form : ValueForm) (value : List ℕ) → is_value form value ≡ true → is_flag form ≡ false
unfolding is_value
value_other forms.Text value is = refl
value_other forms.FileName value is = refl
value_other forms.Input value is = refl
value_other forms.NewFile value is = refl
value_other forms.Output value is = refl
value_other forms.Number value is = refl
value_other forms.LineCount value is = refl
value_other forms.RangeLength value is = refl
value_other forms.Offset value is = refl
value_other forms.Format value is = refl
value_other forms.SealedForm value is = refl
value_other forms.Command value is = refl
value_other forms.Datum value is = refl
value_other forms.Hex value is = refl
value_other forms.Flag value is = absurd (cc)

-- the value of a flag is empty
pub flag_is : (form : ValueForm) → is_flag form ≡ true → form ≡ forms.Flag
flag_is forms.Text is = absurd (cc)
flag_is forms.FileName is = absurd (cc)
flag_is forms.Input is = absurd (cc)
flag_is forms.NewFile is = absurd (cc)
flag_is forms.Output is = absurd (cc)
flag_is forms.Number is = absurd (cc)
flag_is forms.LineCount is = absurd (cc)
flag_is forms.RangeLength is = absurd (cc)
flag_is forms.Offset is = absurd (cc)
flag_is forms.Format is = absurd (cc)
flag_is forms.SealedForm is = absurd (cc)
flag_is forms.Command is = absurd (cc)
flag_is forms.Datum is = absurd (cc)
flag_is forms.Hex is = absurd (cc)
flag_is forms.Flag is = refl

pub flag_empty : (form : ValueForm) (value : List ℕ) → is_flag form ≡ true → IsValue form value → value ≡ []
flag_empty form value is formed = subst (λ (f : ValueForm). IsValue f value) (flag_is form is) formed

pub flag_formed : (form : ValueForm) → is_flag form ≡ true → IsValue form []
flag_formed form is = subst (λ (f : ValueForm). IsValue f []) (sym (flag_is form is)) refl
