-- Each text of a JSON value is UTF-8, where the source of the value is.
use Rattle.std.proofs.Common.{◌≡◌, ℕ, ◌+◌, ◌≤◌, ◌<◌, ◌&&◌, ◌||◌, ◌⊎◌, ◌==◌, nat_lt, nat_le, Bool, true, false, cond, List, [], ◌∷◌, ◌++◌, length, get_or, drop, Option, Some, None, inl, inr, refl, sym, subst, arith, append-nil, append_assoc}
use Rattle.std.specs.Char.{digit_value, is_digit, encode_utf8, IsScalar}
use Rattle.std.specs.Str.{IsUtf8}
use Rattle.std.proofs.Math.Seq.{get_or-append_seam}
use Rattle.std.proofs.Math.Utf8.{low_scalar}
use Rattle.std.proofs.lemmas.Bool.{and_cases, and_parts, cases_lt, cond_both, eqb-true, le-leb, le-ltb, leb-false, leb-true, lt-ltb, ltb-false, ltb-true, or_cases}
use Rattle.std.proofs.lemmas.List.{drop_at, length-append, take_at}
use Rattle.std.proofs.lemmas.Str.{IsCharBoundary-after_ascii, IsCharBoundary-before_ascii, IsUtf8-append, IsUtf8-drop, IsUtf8-encode, IsUtf8-take, encode_ascii}
use Rattle.json.specs.Lex.{quote, backslash, operator, space, other, class}
use Rattle.json.specs.Text.{code_unit, short_escape, is_high_surrogate, is_low_surrogate, surrogate_pair, Within, plain, after_backslash, after_u, after_high, prepend, content}
use Rattle.json.specs.Word.{is_operator, is_space}
use Rattle.serde_json.specs.Data.{Data}
use Rattle.serde_json.specs.Read.{read}
use Rattle.keyset_json.proofs.TextLemmas.{GivesTexts, Holds, IfThere, there_then, value_all}

-- ---- a text beside a byte of ASCII

one_utf8 : (x : ℕ) → x < 128 → IsUtf8 (x ∷ [])
one_utf8 x small = subst IsUtf8 (encode_ascii x small) (IsUtf8-encode x (low_scalar x (omega arith)))

module _ (front xs : List ℕ) (x : ℕ) (small : x < 128) (u : IsUtf8 (front ++ x ∷ xs)) where
  place : length front < length (front ++ x ∷ xs)
  place = omega (arith, length-append front (x ∷ xs))

  there : get_or (front ++ x ∷ xs) (length front) 0 < 128
  there = subst (λ b. b < 128) (sym (get_or-append_seam front x xs 0)) small

  before_ascii : IsUtf8 front
  before_ascii = subst IsUtf8 (take_at front (x ∷ xs) (length front) refl) (IsUtf8-take (front ++ x ∷ xs) (length front) u (IsCharBoundary-before_ascii (front ++ x ∷ xs) (length front) place there))

  behind_ascii : IsUtf8 xs
  behind_ascii =
      let one : length (front ++ x ∷ []) ≡ length front + 1 = length-append front (x ∷ []) in
      let whole : (front ++ x ∷ []) ++ xs ≡ front ++ x ∷ xs = append_assoc front (x ∷ []) xs in
      let cut = IsUtf8-drop (front ++ x ∷ xs) (length front + 1) u (IsCharBoundary-after_ascii (front ++ x ∷ xs) (length front) u place there) in
      subst IsUtf8 (drop_at (front ++ x ∷ []) xs (length front + 1) one) (subst (λ bs. IsUtf8 (drop (length front + 1) bs)) (sym whole) cut)

-- ---- what escapes stand for

digit_small : (a : ℕ) → is_digit a 16 ≡ true → (a < 128) × (digit_value a < 16)
digit_small a is = (elim (cases_lt a 128) [ inl low ↦ low | inr high ↦ absurd (too_high high) ], ltb-true (digit_value a) 16 is)
  where
    too_high : 128 ≤ a → ⊥
    too_high high =
        let none : digit_value a ≡ 36 = rw (le-ltb a 48 (omega arith), le-ltb a 58 (omega arith), le-ltb a 65 (omega arith), le-ltb a 91 (omega arith), le-ltb a 97 (omega arith), le-ltb a 123 (omega arith)) refl in
        omega (arith, none, ltb-true (digit_value a) 16 is)

-- a code unit whose last digit is d
abbrev IsUnit : ℕ → ℕ → Type 0
IsUnit d u = (u < 65536) × (d < 128)

unit_parts : (a b c d : ℕ) → IfThere (IsUnit d) (code_unit a b c d)
unfolding code_unit
unit_parts a b c d = cond_both (is_digit a 16 && is_digit b 16 && is_digit c 16 && is_digit d 16) _ _ (IfThere (IsUnit d))
    (λ e. let abc = and_parts _ _ e in
    let ab = and_parts _ _ abc.0 in
    let first = and_parts _ _ ab.0 in
    let sa = digit_small a first.0 in
    let sb = digit_small b first.1 in
    let sc = digit_small c ab.1 in
    let sd = digit_small d abc.1 in
    (omega arith, sd.0))
    (λ e. tt)

equal_small : (x n : ℕ) → n < 128 → (x == n) ≡ true → x < 128
equal_small x n small is = omega (arith, eqb-true x n is)

short_parts : (x : ℕ) → IfThere (λ c. (c < 128) × (x < 128)) (short_escape x)
unfolding short_escape
short_parts x =
    cond_both ((x == 34) || (x == 92) || (x == 47)) _ _ P (λ e. let small = itself e in (small, small)) (λ _.
    cond_both (x == 98) _ _ P (λ e. (omega arith, equal_small x 98 (omega arith) e)) (λ _.
    cond_both (x == 102) _ _ P (λ e. (omega arith, equal_small x 102 (omega arith) e)) (λ _.
    cond_both (x == 110) _ _ P (λ e. (omega arith, equal_small x 110 (omega arith) e)) (λ _.
    cond_both (x == 114) _ _ P (λ e. (omega arith, equal_small x 114 (omega arith) e)) (λ _.
    cond_both (x == 116) _ _ P (λ e. (omega arith, equal_small x 116 (omega arith) e)) (λ _. tt))))))
  where
    P : Option ℕ → Type 0
    P = IfThere (λ c. (c < 128) × (x < 128))

    two : ((x == 34) ≡ true) ⊎ ((x == 92) ≡ true) → x < 128
    two (inl is) = equal_small x 34 (omega arith) is
    two (inr is) = equal_small x 92 (omega arith) is

    three : (((x == 34) || (x == 92)) ≡ true) ⊎ ((x == 47) ≡ true) → x < 128
    three (inl is) = two (or_cases (x == 34) (x == 92) is)
    three (inr is) = equal_small x 47 (omega arith) is

    itself : ((x == 34) || (x == 92) || (x == 47)) ≡ true → x < 128
    itself e = three (or_cases ((x == 34) || (x == 92)) (x == 47) e)

high_scalar : (c : ℕ) → 57344 ≤ c → c < 1114112 → IsScalar c
high_scalar c low high = rw (le-ltb c 55296 (omega arith), le-leb 57344 c low, lt-ltb c 1114112 high) refl

-- outside a range, and not below it
past : (low high u : ℕ) → (nat_le low u && nat_lt u high) ≡ false → low ≤ u → high ≤ u
past low high u outside le = by_side (and_cases (nat_le low u) (nat_lt u high) outside)
  where
    by_side : (nat_le low u ≡ false) ⊎ (nat_lt u high ≡ false) → high ≤ u
    by_side (inl under) = let below = leb-false low u under in absurd (omega arith)
    by_side (inr over) = ltb-false u high over

unit_scalar : (u : ℕ) → u < 65536 → is_high_surrogate u ≡ false → is_low_surrogate u ≡ false → IsScalar u
unit_scalar u below no_high no_low = elim (cases_lt u 55296) [
  | inl low ↦ low_scalar u low
  | inr rest ↦ high_scalar u (past 0xdc00 0xe000 u no_low (past 0xd800 0xdc00 u no_high rest)) (omega arith)
]

pair_scalar : (h l : ℕ) → is_high_surrogate h ≡ true → is_low_surrogate l ≡ true → IsScalar (surrogate_pair h l)
pair_scalar h l high low =
    let ph = and_parts _ _ high in
    let pl = and_parts _ _ low in
    let a = leb-true 0xd800 h ph.0 in
    let b = ltb-true h 0xdc00 ph.1 in
    let c = leb-true 0xdc00 l pl.0 in
    let d = ltb-true l 0xe000 pl.1 in
    high_scalar (surrogate_pair h l) (omega arith) (omega arith)

-- ---- the content of a string

-- what the text read so far and the source that is left have between them
abbrev Fits : Within → (front xs : List ℕ) → Type 0
Fits plain front xs = IsUtf8 (front ++ xs)
Fits after_backslash front xs = IsUtf8 front × IsUtf8 xs
Fits after_u front xs = IsUtf8 front × IsUtf8 xs
Fits (after_high h) front xs = IsUtf8 front × IsUtf8 xs × (is_high_surrogate h ≡ true)

abbrev Joins : List ℕ → Option (List ℕ) → Type 0
Joins front = IfThere (λ s. IsUtf8 (front ++ s))

joins_behind : (front part : List ℕ) (read : Option (List ℕ)) → Joins (front ++ part) read → Joins front (prepend part read)
joins_behind front part None h = tt
joins_behind front part (Some s) h = subst IsUtf8 (append_assoc front part s) h

-- what an escape stands for, and the source behind it
escaped : (front part xs : List ℕ) → IsUtf8 front → IsUtf8 part → IsUtf8 xs → Fits plain (front ++ part) xs
escaped front part xs a b c = IsUtf8-append (front ++ part) xs (IsUtf8-append front part a b) c

content_utf8 : (w : Within) (xs front : List ℕ) → Fits w front xs → Joins front (content w xs)
unfolding content
content_utf8 plain [] front u = tt
content_utf8 plain (x ∷ xs) front u =
    cond_both (x == 34) _ _ (Joins front) (λ e. subst IsUtf8 (sym (append-nil front)) (before_ascii front xs x (equal_small x 34 (omega arith) e) u)) (λ _.
    cond_both (x == 92) _ _ (Joins front) (λ e. let small = equal_small x 92 (omega arith) e in content_utf8 after_backslash xs front (before_ascii front xs x small u, behind_ascii front xs x small u)) (λ _.
    cond_both (nat_lt x 32) _ _ (Joins front) (λ _. tt) (λ _. joins_behind front (x ∷ []) _ (content_utf8 plain xs (front ++ x ∷ []) (subst IsUtf8 (sym (append_assoc front (x ∷ []) xs)) u)))))
content_utf8 after_backslash [] front u = tt
content_utf8 after_backslash (x ∷ xs) front u =
    cond_both (x == 117) _ _ (Joins front) (λ e. content_utf8 after_u xs front (u.0, behind_ascii [] xs x (equal_small x 117 (omega arith) e) u.1)) (λ _.
    there_then (λ c. (c < 128) × (x < 128)) (λ s. IsUtf8 (front ++ s)) (λ c. prepend (c ∷ []) (content plain xs))
    (λ c p. joins_behind front (c ∷ []) _ (content_utf8 plain xs (front ++ c ∷ []) (escaped front (c ∷ []) xs u.0 (one_utf8 c p.0) (behind_ascii [] xs x p.1 u.1)))) (short_escape x) (short_parts x))
content_utf8 after_u [] front u = tt
content_utf8 after_u (a ∷ []) front u = tt
content_utf8 after_u (a ∷ b ∷ []) front u = tt
content_utf8 after_u (a ∷ b ∷ c ∷ []) front u = tt
content_utf8 after_u (a ∷ b ∷ c ∷ d ∷ xs) front u =
    there_then (IsUnit d) (λ s. IsUtf8 (front ++ s)) _
    (λ n p. let rest = behind_ascii (a ∷ b ∷ c ∷ []) xs d p.1 u.1 in
    cond_both (is_high_surrogate n) _ _ (Joins front) (λ high. content_utf8 (after_high n) xs front (u.0, rest, high)) (λ no_high.
    cond_both (is_low_surrogate n) _ _ (Joins front) (λ _. tt) (λ no_low.
    joins_behind front (encode_utf8 n) _ (content_utf8 plain xs (front ++ encode_utf8 n) (escaped front (encode_utf8 n) xs u.0 (IsUtf8-encode n (unit_scalar n p.0 no_high no_low)) rest)))))
    (code_unit a b c d) (unit_parts a b c d)
content_utf8 (after_high h) [] front u = tt
content_utf8 (after_high h) (s ∷ []) front u = tt
content_utf8 (after_high h) (s ∷ t ∷ []) front u = tt
content_utf8 (after_high h) (s ∷ t ∷ a ∷ []) front u = tt
content_utf8 (after_high h) (s ∷ t ∷ a ∷ b ∷ []) front u = tt
content_utf8 (after_high h) (s ∷ t ∷ a ∷ b ∷ c ∷ []) front u = tt
content_utf8 (after_high h) (s ∷ t ∷ a ∷ b ∷ c ∷ d ∷ xs) front u =
    cond_both ((s == 92) && (t == 117)) _ _ (Joins front) (λ _. there_then (IsUnit d) (λ s. IsUtf8 (front ++ s)) _
    (λ l p. let rest = behind_ascii (s ∷ t ∷ a ∷ b ∷ c ∷ []) xs d p.1 u.1 in
    cond_both (is_low_surrogate l) _ _ (Joins front) (λ low.
    let pair = surrogate_pair h l in
    joins_behind front (encode_utf8 pair) _ (content_utf8 plain xs (front ++ encode_utf8 pair) (escaped front (encode_utf8 pair) xs u.0 (IsUtf8-encode pair (pair_scalar h l u.2 low)) rest))) (λ _. tt))
    (code_unit a b c d) (unit_parts a b c d)) (λ _. tt)

-- ---- a value

quote_byte : (x : ℕ) → class x ≡ quote → x ≡ 34
quote_byte x is = eqb-true x 34 (first (x == 34) (x == 92) (is_operator x) (is_space x) is)
  where
    first : (a b c d : Bool) → cond a quote (cond b backslash (cond c operator (cond d space other))) ≡ quote → a ≡ true
    first true b c d is = refl
    first false true c d is = absurd (cc)
    first false false true d is = absurd (cc)
    first false false false true is = absurd (cc)
    first false false false false is = absurd (cc)

-- what is left of a text
abbrev IsRest : List ℕ → Type 0
IsRest xs = (front : List ℕ) × IsUtf8 (front ++ xs)

utf8_texts : GivesTexts IsUtf8 IsRest
utf8_texts = record {
  later = λ x xs h. (h.0 ++ x ∷ [], subst IsUtf8 (sym (append_assoc h.0 (x ∷ []) xs)) h.1);
  begins = λ x xs is h. content_utf8 plain xs [] (behind_ascii h.0 xs x (omega (arith, quote_byte x is)) h.1);
}

pub utf8_value : (text : List ℕ) (d : Data) → IsUtf8 text → read text ≡ Some d → Holds IsUtf8 d
utf8_value text d utf8 is = value_all IsUtf8 IsRest utf8_texts text d ([], utf8) is
