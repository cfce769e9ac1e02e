-- What is parsed of decimal digits is the number that they write.
use Rattle.std.proofs.Common.{◌≡◌, ◌∙◌, refl, sym, ap, ℕ, ◌^◌, ◌<◌, ◌≤◌, Bool, true, false, ◌&&◌, List, [], ◌∷◌, length, Option, Some, None, Result, Ok, Err, nat_le, nat_lt, arith, if◌then◌else◌}
use Rattle.std.specs.Char.{is_ascii_digit}
use Rattle.std.specs.List.{list_all}
use Rattle.std.specs.Result.{OkIff, result_ok}
use Rattle.std.specs.Str.{all_ascii_digits}
use Rattle.std.specs.Str.Parse.{ParsesUnsigned, digits_value}
use Rattle.std.proofs.lemmas.Result.{OkIff-at_err, OkIff-at_ok}
use Rattle.std.proofs.lemmas.Bool.{le-leb, leb-true, lt-ltb, ltb-true, true≢false}
use Rattle.std.proofs.lemmas.Str.Parse.{IsNumeralModel, numerals_by_value, parse_digits, tells_all_ascii_digits}
use Rattle.tink_base.specs.Decimal.{number_in}

numerals : IsNumeralModel (λ ds. all_ascii_digits ds ≡ true) (digits_value 10)
numerals = numerals_by_value (λ ds. all_ascii_digits ds ≡ true) tells_all_ascii_digits

pub digits_all : (text : List ℕ) → list_all is_ascii_digit text ≡ all_ascii_digits text
digits_all [] = refl
digits_all (digit ∷ digits) = ap (λ (b : Bool). is_ascii_digit digit && b) (digits_all digits)

-- ---- texts of at most so many digits, of a number below a bound

-- 1 to `most` decimal digits, and no sign, of a number below the bound
abbrev pub is_below : (most bound : ℕ) → List ℕ → Bool
is_below most bound text =
    nat_lt 0 (length text) && nat_le (length text) most && all_ascii_digits text && nat_lt (digits_value 10 text) bound

-- the number that such a text is, or none
abbrev pub below_in : (most bound : ℕ) → List ℕ → Option ℕ
below_in most bound text = if is_below most bound text then Some (digits_value 10 text) else None

fails : {A : Type 0} (a b c d : Bool) (x : A) → ((a && b && c && d) ≡ true → ⊥) → (if a && b && c && d then Some x else None) ≡ None
fails false b c d x no' = refl
fails true false c d x no' = refl
fails true true false d x no' = refl
fails true true true false x no' = refl
fails true true true true x no' = absurd (no' refl)

four_pass : (a b c d : Bool) → (a && b && c && d) ≡ true → (a ≡ true) × (b ≡ true) × (c ≡ true) × (d ≡ true)
four_pass true true true true is = (refl, refl, refl, refl)
four_pass true true true false is = absurd (cc)
four_pass true true false d is = absurd (cc)
four_pass true false c d is = absurd (cc)
four_pass false b c d is = absurd (cc)

-- what such a text passes
passed : (most bound : ℕ) (text : List ℕ) → is_below most bound text ≡ true → (0 < length text) × (length text ≤ most) × (all_ascii_digits text ≡ true) × (digits_value 10 text < bound)
passed most bound text is =
    let tests = four_pass (nat_lt 0 (length text)) (nat_le (length text) most) (all_ascii_digits text) (nat_lt (digits_value 10 text) bound) is in
    (ltb-true _ _ tests.0, leb-true _ _ tests.1, tests.2, ltb-true _ _ tests.3)

-- the number of a text that passes all that
pub below_taken : (most bound : ℕ) (text : List ℕ) → 0 < length text → length text ≤ most → all_ascii_digits text ≡ true → digits_value 10 text < bound → below_in most bound text ≡ Some (digits_value 10 text)
below_taken most bound text some short digits below =
    let a : nat_lt 0 (length text) ≡ true = lt-ltb _ _ some in
    let b : nat_le (length text) most ≡ true = le-leb _ _ short in
    let d : nat_lt (digits_value 10 text) bound ≡ true = lt-ltb _ _ below in
    rw (a, b, digits, d) refl

-- what a text that is such a number passes, and which number it is
pub below_passes : (most bound : ℕ) (text : List ℕ) (n : ℕ) → below_in most bound text ≡ Some n → (0 < length text) × (length text ≤ most) × (all_ascii_digits text ≡ true) × (digits_value 10 text < bound) × (digits_value 10 text ≡ n)
below_passes most bound text n is = by (is_below most bound text) refl is
  where
    by : (b : Bool) → is_below most bound text ≡ b → (if b then Some (digits_value 10 text) else None) ≡ Some n → (0 < length text) × (length text ≤ most) × (all_ascii_digits text ≡ true) × (digits_value 10 text < bound) × (digits_value 10 text ≡ n)
    by true test is = let tests = passed most bound text test in (tests.0, tests.1, tests.2, tests.3, (cc))
    by false test is = absurd (cc)

not_below : (most bound : ℕ) (text : List ℕ) → (is_below most bound text ≡ true → ⊥) → below_in most bound text ≡ None
not_below most bound text no' = fails (nat_lt 0 (length text)) (nat_le (length text) most) (all_ascii_digits text) (nat_lt (digits_value 10 text) bound) (digits_value 10 text) no'

pub below_long : (most bound : ℕ) (text : List ℕ) → most < length text → below_in most bound text ≡ None
below_long most bound text long = not_below most bound text (λ is. let short = (passed most bound text is).1 in omega (arith, long, short))

pub below_other : (most bound : ℕ) (text : List ℕ) → all_ascii_digits text ≡ false → below_in most bound text ≡ None
below_other most bound text other = not_below most bound text (λ is. true≢false (sym (passed most bound text is).2 ∙ other))

-- what is parsed of a text of at most so many digits, where any number of its type will do
below_read : {E : Type 0} (most bound : ℕ) (text : List ℕ) (r : Result ℕ E) → OkIff r ((0 < length text) × (digits_value 10 text < bound)) (digits_value 10 text) → length text ≤ most → all_ascii_digits text ≡ true → result_ok r ≡ below_in most bound text
below_read most bound text (Ok x) is short digits = ap (λ (n : ℕ). Some n) is.1 ∙ sym (below_taken most bound text is.0.0 short digits is.0.1)
below_read most bound text (Err e) is short digits = sym (not_below most bound text (λ below. let tests = passed most bound text below in is (tests.0, tests.3)))

pub below_parsed : {E : Type 0} (most bits : ℕ) (text : List ℕ) (r : Result ℕ E) → ParsesUnsigned bits 10 text r → length text ≤ most → all_ascii_digits text ≡ true → result_ok r ≡ below_in most (2 ^ bits) text
below_parsed most bits text r parsed short digits = below_read most (2 ^ bits) text r (parse_digits numerals bits text r parsed digits) short digits

-- and where only a smaller one will: such a one, a greater one, and none
pub below_kept : {E : Type 0} (most bits bound : ℕ) (text : List ℕ) (r : Result ℕ E) (n : ℕ) → ParsesUnsigned bits 10 text r → all_ascii_digits text ≡ true → r ≡ Ok n → n < bound → length text ≤ most → Some n ≡ below_in most bound text
below_kept {E} most bits bound text r n parsed digits is below short =
    let read = OkIff-at_ok r _ _ n (parse_digits numerals bits text r parsed digits) is in
    let within : digits_value 10 text < bound = omega (arith, read.1, below) in
    below_read {E = E} most bound text (Ok n) ((read.0.0, within), read.1) short digits

pub below_past : {E : Type 0} (most bits bound : ℕ) (text : List ℕ) (r : Result ℕ E) (n : ℕ) → ParsesUnsigned bits 10 text r → all_ascii_digits text ≡ true → r ≡ Ok n → bound ≤ n → below_in most bound text ≡ None
below_past most bits bound text r n parsed digits is past =
    let read = OkIff-at_ok r _ _ n (parse_digits numerals bits text r parsed digits) is in
    not_below most bound text (λ below. let tests = passed most bound text below in omega (arith, read.1, past, tests.3))

pub below_unparsed : {E : Type 0} (most bits bound : ℕ) (text : List ℕ) (r : Result ℕ E) (e : E) → ParsesUnsigned bits 10 text r → all_ascii_digits text ≡ true → r ≡ Err e → bound ≤ 2 ^ bits → below_in most bound text ≡ None
below_unparsed most bits bound text r e parsed digits is within =
    let unread = OkIff-at_err r _ _ e (parse_digits numerals bits text r parsed digits) is in
    not_below most bound text (λ below. let tests = passed most bound text below in unread (tests.0, omega (arith, tests.3, within)))

-- ---- numbers of 32 bits

pub number_taken : (text : List ℕ) → 0 < length text → length text ≤ 10 → all_ascii_digits text ≡ true → digits_value 10 text < 2 ^ 32 → number_in text ≡ Some (digits_value 10 text)
unfolding number_in
number_taken text = below_taken 10 (2 ^ 32) text

pub number_passes : (text : List ℕ) (n : ℕ) → number_in text ≡ Some n → (0 < length text) × (length text ≤ 10) × (all_ascii_digits text ≡ true) × (digits_value 10 text < 2 ^ 32) × (digits_value 10 text ≡ n)
unfolding number_in
number_passes text = below_passes 10 (2 ^ 32) text
