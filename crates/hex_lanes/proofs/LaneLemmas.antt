-- The lanes of a block of 32 characters.
use Rattle.std.proofs.Common.{◌≡◌, ℕ, ◌+◌, ◌-◌, ◌*◌, ◌/◌, ◌%◌, ◌^◌, ◌<◌, Bool, true, false, ◌&&◌, cond, eqb, ltb, leb, eqb-true, List, [], ◌∷◌, ◌++◌, length, map, replicate, get_or, bit_and, bit_or, refl, sym, ap, subst, ◌∙◌, arith, w8, Fits}
use Rattle.std.specs.Simd.Lanes.{Each1, all_below, mask_l, pick_l, sel_l, top, zip2}
use Rattle.std.specs.List.{range_with_len}
use Rattle.std.proofs.lemmas.Bool.{agree_below_at, and_parts, eq-eqb, eqb-false, ltb-true, lt-ltb, le-ltb, leb-false, leb-true, ne_eqb}
use Rattle.std.proofs.lemmas.List.{length-map}
use Rattle.std.proofs.lemmas.Simd.{mask_l-mod, pick_l_whole, splat_is_map, tops_compared, zip2_of_maps, zip2_splat, zip2_splat_left}
use Rattle.std.specs.Prelude.{slice_index}
use Rattle.std.proofs.lemmas.Nat.{and_mask}
use Rattle.hex.specs.Hex.{encode_lower, encode_with, lower_digits}
use Rattle.hex_lanes.specs.Digits.{joined, value, values}

-- ---- the value of each character

-- what the code computes of a character: modulo 256, 208 is -48, and 159 is -97
abbrev pub number : ℕ → ℕ
number c = (c + 208) % 256

abbrev pub letter : ℕ → ℕ
letter c = (bit_or c 32 + 159) % 256

abbrev pub lane : ℕ → ℕ
lane c = cond (ltb (number c) 10) (number c) (cond (ltb (letter c) 6) ((letter c + 10) % 256) 255)

lane_is : (c : ℕ) → c < 256 → lane c ≡ value c
lane_is c h =
    eqb-true (lane c) (value c) (agree_below_at (λ x. eqb (lane x) (value x)) (λ _. true) 256 c refl h)

lanes_are : (v : List ℕ) → Each1 (Fits w8) v → map lane v ≡ values v
lanes_are [] fits = refl
lanes_are (c ∷ v) fits = λ i. lane_is c fits.0.fits i ∷ lanes_are v fits.1 i

-- a choice by lanes, of what was computed lane by lane
sel_l-maps : (t : ℕ → Bool) (f g : ℕ → ℕ) (v : List ℕ)
    → sel_l (map t v) (map f v) (map g v) ≡ map (λ c. cond (t c) (f c) (g c)) v
sel_l-maps t f g [] = refl
sel_l-maps t f g (c ∷ v) = ap (λ l. cond (t c) (f c) (g c) ∷ l) (sel_l-maps t f g v)

abbrev subtracted : ℕ → ℕ → ℕ
subtracted a b = (a + (256 - b)) % 256

abbrev added : ℕ → ℕ → ℕ
added a b = (a + b) % 256

-- a choice by whether lanes are below k
chosen : (k : ℕ) (f g h : ℕ → ℕ) (v xs ys zs : List ℕ) → length v ≡ 32
    → xs ≡ map f v → ys ≡ map g v → zs ≡ map h v
    → sel_l (map (top 7) (zip2 (λ a b. cond (ltb a b) 255 0) xs (replicate 32 k))) ys zs
    ≡ map (λ c. cond (ltb (f c) k) (g c) (h c)) v
chosen k f g h v xs ys zs long ex ey ez =
    let tests = tops_compared w8 ltb xs (replicate 32 k)
    ∙ zip2_of_maps ltb f (λ _. k) v ex (splat_is_map v 32 k long) in
    rw (tests, ey, ez) (sel_l-maps (λ c. ltb (f c) k) g h v)

pub values_are : (v : List ℕ) → length v ≡ 32 → Each1 (Fits w8) v
    → sel_l (map (top 7) (zip2 (λ a b. cond (ltb a b) 255 0) (zip2 subtracted v (replicate 32 48)) (replicate 32 10)))
    (zip2 subtracted v (replicate 32 48))
    (sel_l (map (top 7) (zip2 (λ a b. cond (ltb a b) 255 0) (zip2 subtracted (zip2 bit_or v (replicate 32 32)) (replicate 32 97)) (replicate 32 6)))
    (zip2 added (zip2 subtracted (zip2 bit_or v (replicate 32 32)) (replicate 32 97)) (replicate 32 10))
    (replicate 32 255)) ≡ values v
values_are v long fits =
    let numbers = zip2_splat subtracted v 32 48 long in
    let letters = zip2_of_maps subtracted (λ c. bit_or c 32) (λ _. 97) v (zip2_splat bit_or v 32 32 long) (splat_is_map v 32 97 long) in
    let more = zip2_of_maps added letter (λ _. 10) v letters (splat_is_map v 32 10 long) in
    chosen 10 number number _ v _ _ _ long numbers numbers
    (chosen 6 letter (λ c. (letter c + 10) % 256) (λ _. 255) v _ _ _ long letters more (splat_is_map v 32 255 long))
    ∙ lanes_are v fits

-- ---- whether all are digits

none_high-cons : (x m : ℕ) → eqb (cond (leb 16 x) 1 0 + 2 * m) 0 ≡ (ltb x 16 && eqb m 0)
none_high-cons x m = go (leb 16 x) refl
  where
    halves : (b : Bool) → eqb m 0 ≡ b → eqb (0 + 2 * m) 0 ≡ b
    halves true e = eq-eqb (0 + 2 * m) 0 (omega (arith, eqb-true m 0 e))
    halves false e = ne_eqb (0 + 2 * m) 0 (λ none. eqb-false m 0 e (omega arith))

    go : (b : Bool) → leb 16 x ≡ b → eqb (cond (leb 16 x) 1 0 + 2 * m) 0 ≡ (ltb x 16 && eqb m 0)
    go true e =
        let high : ltb x 16 ≡ false = le-ltb x 16 (leb-true 16 x e) in
        rw (e, high) (ne_eqb (1 + 2 * m) 0 (λ none. omega arith))
    go false e =
        let low : ltb x 16 ≡ true = lt-ltb x 16 (leb-false 16 x e) in
        rw (e, low) (halves (eqb m 0) refl)

none_high : (v : List ℕ) → eqb (mask_l (map (leb 16) v)) 0 ≡ all_below 16 v
none_high [] = refl
none_high (x ∷ v) = none_high-cons x (mask_l (map (leb 16) v)) ∙ ap (λ b. ltb x 16 && b) (none_high v)

pub digits_are : (v : List ℕ) → length v ≡ 32
    → eqb (mask_l (map (top 7) (zip2 (λ a b. cond (leb a b) 255 0) (replicate 32 16) v)) % 2 ^ 64) 0
    ≡ all_below 16 v
digits_are v long =
    ap (λ ms. eqb (mask_l ms % 2 ^ 64) 0)
    (tops_compared w8 leb (replicate 32 16) v ∙ zip2_splat_left leb 16 32 v long)
    ∙ ap (λ m. eqb m 0) (mask_l-mod (map (leb 16) v) 64 (omega (arith, length-map v (leb 16))))
    ∙ none_high v

-- ---- the bytes of pairs

-- what the code computes of pairs
unfoldable packed : List ℕ → List ℕ
packed [] = []
packed (a ∷ []) = []
packed (a ∷ b ∷ rest) = ((a * 16 % 256 + b) % 256) ∷ packed rest

packed_is : (v : List ℕ) → all_below 16 v ≡ true → packed v ≡ joined v
unfolding packed joined
packed_is [] h = refl
packed_is (a ∷ []) h = refl
packed_is (a ∷ b ∷ rest) h =
    let high = and_parts (ltb a 16) (all_below 16 (b ∷ rest)) h in
    let low = and_parts (ltb b 16) (all_below 16 rest) high.1 in
    let la = ltb-true a 16 high.0 in
    let lb = ltb-true b 16 low.0 in
    let byte : (a * 16 % 256 + b) % 256 ≡ a * 16 + b = omega arith in
    λ i. byte i ∷ packed_is rest low.1 i

-- what holds of all blocks that are written out
of_block : (P : List ℕ → Type 0) → ((f : ℕ → ℕ) → P (map f (range_with_len 0 32))) → (v : List ℕ)
    → length v ≡ 32 → P v
of_block P p v long = subst P (pick_l_whole 0 v 32 long) (p (λ k. get_or v k 0))

places_packed : (v : List ℕ) → length v ≡ 32
    → zip2 added (zip2 (λ a b. a * b % 256)
    (pick_l 0 (v ++ v) (0 ∷ 2 ∷ 4 ∷ 6 ∷ 8 ∷ 10 ∷ 12 ∷ 14 ∷ 16 ∷ 18 ∷ 20 ∷ 22 ∷ 24 ∷ 26 ∷ 28 ∷ 30 ∷ []))
    (replicate 16 16))
    (pick_l 0 (v ++ v) (1 ∷ 3 ∷ 5 ∷ 7 ∷ 9 ∷ 11 ∷ 13 ∷ 15 ∷ 17 ∷ 19 ∷ 21 ∷ 23 ∷ 25 ∷ 27 ∷ 29 ∷ 31 ∷ []))
    ≡ packed v
unfolding packed
places_packed = of_block _ (λ f. refl)

pub bytes_are : (v : List ℕ) → length v ≡ 32 → all_below 16 v ≡ true
    → zip2 added (zip2 (λ a b. a * b % 256)
    (pick_l 0 (v ++ v) (0 ∷ 2 ∷ 4 ∷ 6 ∷ 8 ∷ 10 ∷ 12 ∷ 14 ∷ 16 ∷ 18 ∷ 20 ∷ 22 ∷ 24 ∷ 26 ∷ 28 ∷ 30 ∷ []))
    (replicate 16 16))
    (pick_l 0 (v ++ v) (1 ∷ 3 ∷ 5 ∷ 7 ∷ 9 ∷ 11 ∷ 13 ∷ 15 ∷ 17 ∷ 19 ∷ 21 ∷ 23 ∷ 25 ∷ 27 ∷ 29 ∷ 31 ∷ []))
    ≡ joined v
bytes_are v long digits = places_packed v long ∙ packed_is v digits

-- ---- the digits of 16 bytes

-- the high and the low four bits of each byte
unfoldable nibbles : List ℕ → List ℕ
nibbles [] = []
nibbles (b ∷ rest) = b / 16 ∷ b % 16 ∷ nibbles rest

-- what the code computes of a number below 16
abbrev digit : ℕ → ℕ
digit n = cond (ltb n 10) ((n + 48) % 256) ((n + 87) % 256)

digit_is : (n : ℕ) → n < 16 → digit n ≡ slice_index lower_digits n
digit_is n h =
    eqb-true (digit n) (slice_index lower_digits n)
    (agree_below_at (λ x. eqb (digit x) (slice_index lower_digits x)) (λ _. true) 16 n refl h)

digits_of_nibbles : (v : List ℕ) → Each1 (Fits w8) v → map digit (nibbles v) ≡ encode_lower v
unfolding nibbles encode_with
digits_of_nibbles [] fits = refl
digits_of_nibbles (b ∷ v) fits =
    let below : b < 256 = fits.0.fits in
    λ i. digit_is (b / 16) (omega arith) i ∷ digit_is (b % 16) (omega arith) i ∷ digits_of_nibbles v fits.1 i

length-nibbles : (v : List ℕ) → length (nibbles v) ≡ 2 * length v
unfolding nibbles
length-nibbles [] = refl
length-nibbles (b ∷ v) = omega (arith, length-nibbles v)

places_nibbles : (v : List ℕ) → length v ≡ 16
    → pick_l 0 (map (λ x. x / 16) v ++ map (λ x. x % 16) v) (0 ∷ 16 ∷ 1 ∷ 17 ∷ 2 ∷ 18 ∷ 3 ∷ 19 ∷ 4 ∷ 20 ∷ 5 ∷ 21
    ∷ 6 ∷ 22 ∷ 7 ∷ 23 ∷ 8 ∷ 24 ∷ 9 ∷ 25 ∷ 10 ∷ 26 ∷ 11 ∷ 27 ∷ 12 ∷ 28 ∷ 13 ∷ 29 ∷ 14 ∷ 30 ∷ 15 ∷ 31 ∷ [])
    ≡ nibbles v
unfolding nibbles
places_nibbles v long = subst (λ l. pick_l 0 (map (λ x. x / 16) l ++ map (λ x. x % 16) l) (0 ∷ 16 ∷ 1 ∷ 17 ∷ 2 ∷ 18 ∷ 3 ∷ 19 ∷ 4 ∷ 20 ∷ 5 ∷ 21
    ∷ 6 ∷ 22 ∷ 7 ∷ 23 ∷ 8 ∷ 24 ∷ 9 ∷ 25 ∷ 10 ∷ 26 ∷ 11 ∷ 27 ∷ 12 ∷ 28 ∷ 13 ∷ 29 ∷ 14 ∷ 30 ∷ 15 ∷ 31 ∷ [])
    ≡ nibbles l) (pick_l_whole 0 v 16 long) refl

numbers_are : (v : List ℕ) → length v ≡ 16
    → pick_l 0 (zip2 (λ a b. a / 2 ^ b) v (replicate 16 4) ++ zip2 bit_and v (replicate 16 15)) (0 ∷ 16 ∷ 1 ∷ 17 ∷ 2 ∷ 18 ∷ 3 ∷ 19 ∷ 4 ∷ 20 ∷ 5 ∷ 21
    ∷ 6 ∷ 22 ∷ 7 ∷ 23 ∷ 8 ∷ 24 ∷ 9 ∷ 25 ∷ 10 ∷ 26 ∷ 11 ∷ 27 ∷ 12 ∷ 28 ∷ 13 ∷ 29 ∷ 14 ∷ 30 ∷ 15 ∷ 31 ∷ [])
    ≡ nibbles v
numbers_are v long =
    let high = zip2_splat (λ a b. a / 2 ^ b) v 16 4 long in
    let low = zip2_splat bit_and v 16 15 long ∙ low_bits v in
    rw (high, low) (places_nibbles v long)
  where
    low_bits : (l : List ℕ) → map (λ x. bit_and x 15) l ≡ map (λ x. x % 16) l
    low_bits [] = refl
    low_bits (b ∷ l) = λ i. and_mask b 4 i ∷ low_bits l i

pub digits_of_block : (v : List ℕ) → length v ≡ 16 → Each1 (Fits w8) v → (numbers : List ℕ)
    → numbers ≡ pick_l 0 (zip2 (λ a b. a / 2 ^ b) v (replicate 16 4) ++ zip2 bit_and v (replicate 16 15)) (0 ∷ 16 ∷ 1 ∷ 17 ∷ 2 ∷ 18 ∷ 3 ∷ 19 ∷ 4 ∷ 20 ∷ 5 ∷ 21
    ∷ 6 ∷ 22 ∷ 7 ∷ 23 ∷ 8 ∷ 24 ∷ 9 ∷ 25 ∷ 10 ∷ 26 ∷ 11 ∷ 27 ∷ 12 ∷ 28 ∷ 13 ∷ 29 ∷ 14 ∷ 30 ∷ 15 ∷ 31 ∷ [])
    → sel_l (map (top 7) (zip2 (λ a b. cond (ltb a b) 255 0) numbers (replicate 32 10)))
    (zip2 added numbers (replicate 32 48)) (zip2 added numbers (replicate 32 87)) ≡ encode_lower v
digits_of_block v long fits numbers e =
    let n = nibbles v in
    let size : length n ≡ 32 = length-nibbles v ∙ omega (arith, long) in
    let same : numbers ≡ map (λ x. x) n = e ∙ numbers_are v long ∙ sym (map_same n) in
    chosen 10 (λ x. x) (λ x. (x + 48) % 256) (λ x. (x + 87) % 256) n _ _ _ size same
    (zip2_of_maps added (λ x. x) (λ _. 48) n same (splat_is_map n 32 48 size))
    (zip2_of_maps added (λ x. x) (λ _. 87) n same (splat_is_map n 32 87 size))
    ∙ digits_of_nibbles v fits
  where
    map_same : (l : List ℕ) → map (λ x. x) l ≡ l
    map_same [] = refl
    map_same (x ∷ l) = ap (λ k. x ∷ k) (map_same l)
