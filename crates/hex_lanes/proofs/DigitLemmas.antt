-- Texts of digits, cut in two, and what they decode to.
use Rattle.std.proofs.Common.{◌≡◌, ℕ, zero, suc, ◌+◌, ◌*◌, ◌/◌, ◌%◌, Bool, true, false, ◌&&◌, ltb, List, [], ◌∷◌, ◌++◌, length, take, drop, replicate, Option, Some, None, unwrap_or, Ok, refl, sym, append-nil, ap, ◌∙◌, arith}
use Rattle.std.specs.Simd.Lanes.{all_below}
use Rattle.std.proofs.lemmas.Bool.{and_parts}
use Rattle.std.proofs.Math.Bool.{and-false}
use Rattle.std.proofs.lemmas.List.{drop_all, length-drop, length-map, map-append, take-append-drop}
use Rattle.std.specs.Prelude.{slice_index}
use borrow.Rule.Slice.PartMut.{put_mid}
use Rattle.hex.specs.Hex.{decode_of, decode_pairs, digit_or_error, encode_lower, encode_with, hex_digit_value, lower_digits, pair_value, value_at}
use Rattle.hex.proofs.HexLemmas.{decode_of-even, length-encode_with}
use Rattle.hex.proofs.Pairs.{cons_byte, decode_pairs-ok_pair}
use Rattle.hex_lanes.specs.Digits.{all_digits, joined, value, values}

-- ---- two parts

and-assoc : (a b c : Bool) → ((a && b) && c) ≡ (a && (b && c))
and-assoc true b c = refl
and-assoc false b c = refl

all_below-append : (n : ℕ) (xs ys : List ℕ)
    → all_below n (xs ++ ys) ≡ (all_below n xs && all_below n ys)
all_below-append n [] ys = refl
all_below-append n (x ∷ xs) ys =
    ap (λ b. ltb x n && b) (all_below-append n xs ys)
    ∙ sym (and-assoc (ltb x n) (all_below n xs) (all_below n ys))

pub all_digits-append : (s t : List ℕ) → all_digits (s ++ t) ≡ (all_digits s && all_digits t)
all_digits-append s t =
    ap (all_below 16) (map-append value s t) ∙ all_below-append 16 (values s) (values t)

and-true : (b : Bool) → (b && true) ≡ b
and-true true = refl
and-true false = refl

-- digits behind a text change nothing
all_digits-before : (s t : List ℕ) → all_digits t ≡ true → all_digits (s ++ t) ≡ all_digits s
all_digits-before s t h = all_digits-append s t ∙ ap (λ b. all_digits s && b) h ∙ and-true (all_digits s)

-- the end of a text of digits
all_digits-drop : (n : ℕ) (s : List ℕ) → all_digits s ≡ true → all_digits (drop n s) ≡ true
all_digits-drop n s h =
    (and_parts (all_digits (take n s)) (all_digits (drop n s))
    (sym (all_digits-append (take n s) (drop n s)) ∙ ap all_digits (take-append-drop n s) ∙ h)).1

-- a text that zeros fill up
pub all_digits-filled : (n : ℕ) (s : List ℕ) → all_digits (s ++ drop n (replicate 32 48)) ≡ all_digits s
all_digits-filled n s =
    all_digits-before s (drop n (replicate 32 48)) (all_digits-drop n (replicate 32 48) refl)

-- a text with a part that isn't of digits
pub all_digits-part : (s t u : List ℕ) → all_digits t ≡ false → all_digits (s ++ (t ++ u)) ≡ false
all_digits-part s t u h =
    all_digits-append s (t ++ u)
    ∙ ap (λ b. all_digits s && b) (all_digits-append t u ∙ ap (λ b. b && all_digits u) h)
    ∙ and-false (all_digits s)

joined-append : (xs ys : List ℕ) → length xs % 2 ≡ 0 → joined (xs ++ ys) ≡ joined xs ++ joined ys
unfolding joined
joined-append [] ys even = refl
joined-append (a ∷ []) ys even = absurd (omega arith)
joined-append (a ∷ b ∷ xs) ys even = ap (λ l. (a * 16 + b) ∷ l) (joined-append xs ys (omega arith))

pub joined_values-append : (s t : List ℕ) → length s % 2 ≡ 0
    → joined (values (s ++ t)) ≡ joined (values s) ++ joined (values t)
joined_values-append s t even =
    ap joined (map-append value s t)
    ∙ joined-append (values s) (values t) (omega (arith, length-map s value))

pub length-joined : (xs : List ℕ) (n : ℕ) → length xs ≡ 2 * n → length (joined xs) ≡ n
unfolding joined
length-joined [] n e = omega arith
length-joined (a ∷ []) n e = absurd (omega arith)
length-joined (a ∷ b ∷ xs) (suc n) e = ap suc (length-joined xs n (omega arith))
length-joined (a ∷ b ∷ xs) zero e = absurd (omega arith)

-- ---- decoding

some_value : (o : Option ℕ) → ltb (unwrap_or o 255) 16 ≡ true → o ≡ Some (unwrap_or o 255)
some_value (Some v) h = refl
some_value None h = cc h

value_at-digit : (c i : ℕ) → ltb (value c) 16 ≡ true → value_at c i ≡ Ok (value c)
value_at-digit c i h = ap (digit_or_error c i) (some_value (hex_digit_value c) h)

decode_pairs-digits : (i : ℕ) (s : List ℕ) → length s % 2 ≡ 0 → all_digits s ≡ true
    → decode_pairs i s ≡ Ok (joined (values s))
unfolding decode_pairs joined
decode_pairs-digits i [] even h = refl
decode_pairs-digits i (a ∷ []) even h = absurd (omega arith)
decode_pairs-digits i (a ∷ b ∷ rest) even h =
    let high = and_parts (ltb (value a) 16) (all_digits (b ∷ rest)) h in
    let low = and_parts (ltb (value b) 16) (all_digits rest) high.1 in
    let pair : pair_value a b i ≡ Ok (value a * 16 + value b) =
    rw (value_at-digit a i high.0, value_at-digit b (i + 1) low.0) refl in
    decode_pairs-ok_pair i a b _ rest pair
    ∙ ap (cons_byte (value a * 16 + value b)) (decode_pairs-digits (i + 2) rest (omega arith) low.1)

-- a text of digits decodes to what their values give
pub decode_of-digits : (s : List ℕ) → length s % 2 ≡ 0 → all_digits s ≡ true
    → decode_of s ≡ Ok (joined (values s))
decode_of-digits s even h = decode_of-even s even ∙ decode_pairs-digits 0 s even h

-- ---- encoding

pub encode_lower-append : (xs ys : List ℕ) → encode_lower (xs ++ ys) ≡ encode_lower xs ++ encode_lower ys
unfolding encode_with
encode_lower-append [] ys = refl
encode_lower-append (b ∷ xs) ys =
    ap (λ l. slice_index lower_digits (b / 16) ∷ slice_index lower_digits (b % 16) ∷ l) (encode_lower-append xs ys)

pub length-encode_lower : (xs : List ℕ) → length (encode_lower xs) ≡ 2 * length xs
length-encode_lower = length-encode_with lower_digits

-- a write of all behind a place
pub put_end : (a k : ℕ) (xs ys : List ℕ) → a + k ≡ length xs → put_mid a k xs ys ≡ take a xs ++ ys
put_end a k xs ys e =
    ap (λ l. take a xs ++ (ys ++ l)) (drop_all k (drop a xs) (omega (arith, e, length-drop a xs)))
    ∙ ap (λ l. take a xs ++ l) (append-nil ys)
