-- The keys of the rounds, four words at a time, against the words of the expansion (FIPS 197, 5.2).
use Rattle.std.proofs.Common.{◌≡◌, ◌⊎◌, inl, inr, ℕ, ◌+◌, ◌-◌, ◌*◌, ◌/◌, ◌%◌, ◌<◌, ◌≤◌, ◌==◌, ◌&&◌, nat_lt, if◌then◌else◌, List, [], ◌∷◌, ◌++◌, length, drop, get_or, slice_index, map, replicate, refl, sym, ap, ◌∙◌, arith, zero-add}
use Rattle.std.proofs.lemmas.Bool.{cases_lt, cond_both, eq-eqb, le-ltb, lt-ltb, ne_eqb}
use Rattle.std.proofs.lemmas.List.{ext_get_or}
use Rattle.std.proofs.lemmas.List.FromFn.{get_or-map-range_with_len}
use Rattle.std.proofs.lemmas.Simd.{get_or-chunk, length-chunk}
use Rattle.std.specs.List.{range_with_len}
use Rattle.std.specs.Simd.Lanes.{chunk, pick_l, zip2}
use lib.Bits.{bit_xor, xor_assoc, xor_zero_r}
use Rattle.aes_core.specs.Aes.{expanded_words, key_expansion, key_word, mixed_word, power, rot_word, round_constant, round_count, sbox, sub_word, word, word_count, xor_word}
use Rattle.aes_core.specs.Nibbles.{followed, four_times, round_key}
use Rattle.aes_core.proofs.KeyExpansion.{word-expanded_words}
use Rattle.aes_core.proofs.KeyWords.{four_is, four_of, key_word-round_key, length-word}
use Rattle.aes_core.proofs.Vectors.{of_vector, vector}

-- ---- what is XORed to the first word of a round

abbrev pub last_places : List ℕ
last_places =
    12 ∷ 13 ∷ 14 ∷ 15 ∷ 12 ∷ 13 ∷ 14 ∷ 15 ∷ 12 ∷ 13 ∷ 14 ∷ 15 ∷ 12 ∷ 13 ∷ 14 ∷ 15 ∷ []

abbrev pub rotated_places : List ℕ
rotated_places =
    13 ∷ 14 ∷ 15 ∷ 12 ∷ 13 ∷ 14 ∷ 15 ∷ 12 ∷ 13 ∷ 14 ∷ 15 ∷ 12 ∷ 13 ∷ 14 ∷ 15 ∷ 12 ∷ []

abbrev pub constant_lanes : ℕ → List ℕ
constant_lanes c =
    c ∷ 0 ∷ 0 ∷ 0 ∷ c ∷ 0 ∷ 0 ∷ 0 ∷ c ∷ 0 ∷ 0 ∷ 0 ∷ c ∷ 0 ∷ 0 ∷ 0 ∷ []

pub rotated_is : (before bytes : List ℕ) (c j : ℕ) → length before ≡ 16 → bytes ≡ map sbox before
    → c ≡ power 2 (j - 1)
    → zip2 bit_xor (pick_l 0 (bytes ++ bytes) rotated_places) (constant_lanes c)
    ≡ four_times (xor_word (sub_word (rot_word (drop 12 before))) (round_constant j))
rotated_is before bytes c j long e is =
    rw (e, is) (of_vector (λ v. zip2 bit_xor (pick_l 0 (map sbox v ++ map sbox v) rotated_places)
    (constant_lanes (power 2 (j - 1)))
    ≡ four_times (xor_word (sub_word (rot_word (drop 12 v))) (round_constant j)))
    (λ f. refl) before long)

pub substituted_last : (before bytes : List ℕ) → length before ≡ 16 → bytes ≡ map sbox before
    → pick_l 0 (bytes ++ bytes) last_places ≡ four_times (sub_word (drop 12 before))
substituted_last before bytes long e =
    rw e (of_vector (λ v. pick_l 0 (map sbox v ++ map sbox v) last_places
    ≡ four_times (sub_word (drop 12 v))) (λ f. refl) before long)

-- the three cases of a word
pub mixed_first : (nk i : ℕ) (a : List ℕ) → i % nk ≡ 0
    → mixed_word nk i a ≡ xor_word (sub_word (rot_word a)) (round_constant (i / nk))
mixed_first nk i a e = rw (eq-eqb (i % nk) 0 e) refl

pub mixed_fourth : (nk i : ℕ) (a : List ℕ) → 6 < nk → i % nk ≡ 4 → mixed_word nk i a ≡ sub_word a
mixed_fourth nk i a long e =
    rw (ne_eqb (i % nk) 0 (λ z. absurd (omega arith)), lt-ltb 6 nk long, eq-eqb (i % nk) 4 e) refl

mixed_other : (nk i : ℕ) (a : List ℕ) → (i % nk ≡ 0 → ⊥) → (i % nk ≡ 4 → ⊥)
    → mixed_word nk i a ≡ a
mixed_other nk i a first fourth =
    elim (cases_lt 6 nk) [
      | inl lt ↦
          rw (ne_eqb (i % nk) 0 first, lt-ltb 6 nk lt, ne_eqb (i % nk) 4 fourth) refl
      | inr le ↦ rw (ne_eqb (i % nk) 0 first, le-ltb 6 nk le) refl
    ]

-- the same at the first word of a round, for keys of one block and of two
pub mixed_short : (blocks round : ℕ) (a : List ℕ) → blocks ≡ 1
    → mixed_word (4 * blocks) (4 * round) a
    ≡ xor_word (sub_word (rot_word a)) (round_constant round)
mixed_short blocks round a e =
    let number : 4 * round / 4 ≡ round = omega arith in
    rw e (mixed_first 4 (4 * round) a (omega arith)
    ∙ ap (λ (j : ℕ). xor_word (sub_word (rot_word a)) (round_constant j)) number)

pub mixed_long : (blocks round : ℕ) (a : List ℕ) → blocks ≡ 2 → round % 2 ≡ 0
    → mixed_word (4 * blocks) (4 * round) a
    ≡ xor_word (sub_word (rot_word a)) (round_constant (round / 2))
mixed_long blocks round a e even =
    let number : 4 * round / 8 ≡ round / 2 = omega arith in
    rw e (mixed_first 8 (4 * round) a (omega arith)
    ∙ ap (λ (j : ℕ). xor_word (sub_word (rot_word a)) (round_constant j)) number)

pub mixed_alone : (blocks round : ℕ) (a : List ℕ) → blocks ≡ 2 → (round % 2 ≡ 0 → ⊥)
    → mixed_word (4 * blocks) (4 * round) a ≡ sub_word a
mixed_alone blocks round a e odd =
    let place : 4 * round % 8 ≡ 4 =
    elim (cases_lt 0 (round % 2)) [ inl lt ↦ omega arith | inr le ↦ absurd (odd (omega arith)) ] in
    rw e (mixed_fourth 8 (4 * round) a (omega arith) place)

length-mixed_word : (nk i : ℕ) (a : List ℕ) → length a ≡ 4 → length (mixed_word nk i a) ≡ 4
length-mixed_word nk i a e =
    cond_both (i % nk == 0) (xor_word (sub_word (rot_word a)) (round_constant (i / nk)))
    (if nat_lt 6 nk && i % nk == 4 then sub_word a else a) (λ w. length w ≡ 4) (λ z. refl) (λ z.
    cond_both (nat_lt 6 nk && i % nk == 4) (sub_word a) a (λ w. length w ≡ 4) (λ z2. refl)
    (λ z2. e))

-- ---- four words, each from the word before it

abbrev pub moved_by_one : List ℕ
moved_by_one =
    0 ∷ 1 ∷ 2 ∷ 3 ∷ 16 ∷ 17 ∷ 18 ∷ 19 ∷ 20 ∷ 21 ∷ 22 ∷ 23 ∷ 24 ∷ 25 ∷ 26 ∷ 27 ∷ []

abbrev pub moved_by_two : List ℕ
moved_by_two =
    0 ∷ 1 ∷ 2 ∷ 3 ∷ 4 ∷ 5 ∷ 6 ∷ 7 ∷ 16 ∷ 17 ∷ 18 ∷ 19 ∷ 20 ∷ 21 ∷ 22 ∷ 23 ∷ []

abbrev pub sum_lanes : List ℕ → List ℕ → List ℕ
sum_lanes back mixed =
    let none : List ℕ = replicate 16 0 in
    let two : List ℕ = zip2 bit_xor back (pick_l 0 (none ++ back) moved_by_one) in
    zip2 bit_xor (zip2 bit_xor two (pick_l 0 (none ++ two) moved_by_two)) mixed

first_sum : (a m : ℕ) → bit_xor (bit_xor (bit_xor a 0) 0) m ≡ bit_xor a m
first_sum a m = ap (λ (x : ℕ). bit_xor x m) (xor_zero_r (bit_xor a 0) ∙ xor_zero_r a)

second_sum : (a b m : ℕ) → bit_xor (bit_xor (bit_xor b a) 0) m ≡ bit_xor b (bit_xor a m)
second_sum a b m = ap (λ (x : ℕ). bit_xor x m) (xor_zero_r (bit_xor b a)) ∙ xor_assoc b a m

third_sum : (a b c m : ℕ) → bit_xor (bit_xor (bit_xor c b) (bit_xor a 0)) m
    ≡ bit_xor c (bit_xor b (bit_xor a m))
third_sum a b c m =
    (λ i. bit_xor (bit_xor (bit_xor c b) (xor_zero_r a i)) m)
    ∙ xor_assoc (bit_xor c b) a m ∙ xor_assoc c b (bit_xor a m)

fourth_sum : (a b c d m : ℕ) → bit_xor (bit_xor (bit_xor d c) (bit_xor b a)) m
    ≡ bit_xor d (bit_xor c (bit_xor b (bit_xor a m)))
fourth_sum a b c d m =
    xor_assoc (bit_xor d c) (bit_xor b a) m
    ∙ ap (bit_xor (bit_xor d c)) (xor_assoc b a m) ∙ xor_assoc d c (bit_xor b (bit_xor a m))

four : (ℕ → ℕ) → List ℕ
four f = map f (range_with_len 0 4)

followed_lanes : (m : List ℕ) (f : ℕ → ℕ)
    → sum_lanes (vector f) (four_times (four_of m)) ≡ followed (vector f) (four_of m)
unfolding four
followed_lanes m f j =
    four (λ k. first_sum (f k) (get_or m k 0) j)
    ++ four (λ k. second_sum (f k) (f (4 + k)) (get_or m k 0) j)
    ++ four (λ k. third_sum (f k) (f (4 + k)) (f (8 + k)) (get_or m k 0) j)
    ++ four (λ k. fourth_sum (f k) (f (4 + k)) (f (8 + k)) (f (12 + k)) (get_or m k 0) j)

pub followed_is : (back mixed m : List ℕ) → length back ≡ 16 → length m ≡ 4 → mixed ≡ four_times m
    → sum_lanes back mixed ≡ followed back m
followed_is back mixed m long word e =
    ap (sum_lanes back) (e ∙ ap four_times (sym (four_is m word)))
    ∙ of_vector (λ v. sum_lanes v (four_times (four_of m)) ≡ followed v (four_of m))
    (followed_lanes m) back long
    ∙ ap (followed back) (four_is m word)

-- ---- the key of a round

-- of four words, each of four bytes
round_key_of : (words : List (List ℕ)) (r : ℕ) (a b c d : List ℕ) → word words (4 * r + 0) ≡ a
    → word words (4 * r + 1) ≡ b → word words (4 * r + 2) ≡ c → word words (4 * r + 3) ≡ d
    → round_key words r ≡ four_of a ++ four_of b ++ four_of c ++ four_of d
unfolding round_key
round_key_of words r a b c d ea eb ec ed =
    λ i. four_of (ea i) ++ four_of (eb i) ++ four_of (ec i) ++ four_of (ed i)

-- the size of a key by the rounds whose keys it is
abbrev pub Blocks : List ℕ → ℕ → Type 0
Blocks key blocks = ((blocks ≡ 1) ⊎ (blocks ≡ 2)) × (word_count key ≡ 4 * blocks)

-- a word past the key's own
later_word : (key : List ℕ) (n nk i : ℕ) → word_count key ≡ nk → 0 < nk → nk ≤ i → i < n
    → word (expanded_words key n) i ≡ xor_word (word (expanded_words key n) (i - nk)) (mixed_word nk i
    (word (expanded_words key n) (i - 1)))
later_word key n nk i e some le lt =
    word-expanded_words key n i (omega arith) lt
    ∙ rw (e, le-ltb i nk le) refl

-- where words of a round are
same_word : (blocks r j : ℕ) → blocks ≤ r → 4 * r + j - 4 * blocks ≡ 4 * (r - blocks) + j
same_word blocks r j le = omega arith

word_before : (r : ℕ) → 0 < r → 4 * r + 0 - 1 ≡ 4 * (r - 1) + 3
word_before r some = omega arith

one_before : (r j : ℕ) → 4 * r + (j + 1) - 1 ≡ 4 * r + j
one_before r j = omega arith

not_first : (blocks r j : ℕ) → (blocks ≡ 1) ⊎ (blocks ≡ 2) → 0 < j → j < 4
    → (4 * r + j) % (4 * blocks) ≡ 0 → ⊥
not_first blocks r j size lo hi z =
    elim size [
      | inl e ↦ let at : (4 * r + j) % 4 ≡ 0 = rw e at z in absurd (omega arith)
      | inr e ↦ let at : (4 * r + j) % 8 ≡ 0 = rw e at z in absurd (omega arith)
    ]

not_fourth : (blocks r j : ℕ) → (blocks ≡ 1) ⊎ (blocks ≡ 2) → 0 < j → j < 4
    → (4 * r + j) % (4 * blocks) ≡ 4 → ⊥
not_fourth blocks r j size lo hi z =
    elim size [
      | inl e ↦ let at : (4 * r + j) % 4 ≡ 4 = rw e at z in absurd (omega arith)
      | inr e ↦ let at : (4 * r + j) % 8 ≡ 4 = rw e at z in absurd (omega arith)
    ]

-- the same in a column of a round
column : (key : List ℕ) (nk r j : ℕ) (b m : List ℕ) → word_count key ≡ nk → 0 < nk → nk ≤ 4 * r + j
    → 4 * r + j < 4 * (round_count key + 1)
    → word (key_expansion key) (4 * r + j - nk) ≡ b
    → mixed_word nk (4 * r + j) (word (key_expansion key) (4 * r + j - 1)) ≡ m
    → word (key_expansion key) (4 * r + j) ≡ xor_word b m
column key nk r j b m e some le lt eb em =
    later_word key (4 * (round_count key + 1)) nk (4 * r + j) e some le lt
    ∙ (λ i. xor_word (eb i) (em i))

last_word : (words : List (List ℕ)) (r : ℕ)
    → drop 12 (round_key words r) ≡ four_of (word words (4 * r + 3))
unfolding round_key
last_word words r = refl

length_last : (words : List (List ℕ)) (r : ℕ) → length (drop 12 (round_key words r)) ≡ 4
unfolding round_key
length_last words r = refl

pub next_round_key : (key : List ℕ) (blocks r : ℕ) → Blocks key blocks → blocks ≤ r
    → r ≤ round_count key
    → followed (round_key (key_expansion key) (r - blocks)) (mixed_word (4 * blocks) (4 * r) (drop 12
    (round_key (key_expansion key) (r - 1))))
    ≡ round_key (key_expansion key) r
next_round_key key blocks r size le within =
    let n : ℕ = 4 * (round_count key + 1) in
    let nk : ℕ = 4 * blocks in
    let words : List (List ℕ) = key_expansion key in
    let w = λ (i : ℕ). word words i in
    let back : List ℕ = round_key words (r - blocks) in
    let first : List ℕ = mixed_word nk (4 * r) (drop 12 (round_key words (r - 1))) in
    let count : word_count key ≡ nk = size.1 in
    let some : 0 < nk = elim size.0 [ inl e ↦ omega arith | inr e ↦ omega arith ] in
    let whole = λ (i : ℕ) (h : i < n). four_is (w i) (length-word key n i h) in
    let behind = λ (j : ℕ) (h : j < 4).
    (ap w (same_word blocks r j le)
    ∙ sym (whole (4 * (r - blocks) + j) (omega arith))
    ∙ sym (key_word-round_key words (r - blocks) j h)) in
    let before : w (4 * r + 0 - 1) ≡ drop 12 (round_key words (r - 1)) =
    ap w (word_before r (omega arith)) ∙ sym (whole (4 * (r - 1) + 3) (omega arith))
    ∙ sym (last_word words (r - 1)) in
    let zero_more : 4 * r + 0 ≡ 4 * r = omega arith in
    let ea : w (4 * r + 0) ≡ xor_word (key_word back 0) first =
    column key nk r 0 (key_word back 0) first count some (omega arith) (omega arith)
    (behind 0 (omega arith)) (λ i. mixed_word nk (zero_more i) (before i)) in
    let next = λ (j : ℕ) (prev : List ℕ) (lo : 0 < j) (hi : j < 4) (e : w (4 * r + j - 1) ≡ prev).
    column key nk r j (key_word back j) prev count some (omega arith) (omega arith) (behind j hi)
    (mixed_other nk (4 * r + j) (w (4 * r + j - 1)) (not_first blocks r j size.0 lo hi)
    (not_fourth blocks r j size.0 lo hi) ∙ e) in
    let eb = next 1 (xor_word (key_word back 0) first) (omega arith) (omega arith)
    (ap w (one_before r 0) ∙ ea) in
    let ec = next 2 _ (omega arith) (omega arith) (ap w (one_before r 1) ∙ eb) in
    let ed = next 3 _ (omega arith) (omega arith) (ap w (one_before r 2) ∙ ec) in
    sym (round_key_of words r _ _ _ _ ea eb ec ed)

-- the key of a round that the key itself is
pub own_round_key : (key : List ℕ) (blocks r : ℕ) → Blocks key blocks → r < blocks
    → 16 * blocks ≤ length key
    → chunk (16 * r) 16 key ≡ round_key (key_expansion key) r
unfolding round_key
own_round_key key blocks r size h long =
    let n : ℕ = 4 * (round_count key + 1) in
    let words : List (List ℕ) = key_expansion key in
    let count : word_count key ≡ 4 * blocks = size.1 in
    ext_get_or 0 (chunk (16 * r) 16 key) (round_key words r)
    (length-chunk (16 * r) 16 key (omega arith)) (λ k lt.
    let low : k < 16 = omega (arith, length-chunk (16 * r) 16 key (omega arith)) in
    let i : ℕ = 4 * r + k / 4 in
    let own : word words i ≡ key_word key i =
    word-expanded_words key n i (omega arith) (omega arith)
    ∙ rw (lt-ltb i (word_count key) (omega arith)) refl in
    let place : 16 * r + k ≡ 4 * i + k % 4 = omega arith in
    get_or-chunk (16 * r) 16 key k 0 low
    ∙ ap (λ (j : ℕ). get_or key j 0) place
    ∙ sym (get_or-map-range_with_len (λ j. slice_index key (4 * i + j)) 0 4 (k % 4) (k % 4) 0
    (omega arith) (zero-add (k % 4)))
    ∙ ap (λ (w : List ℕ). get_or w (k % 4) 0) (sym own)
    ∙ sym (get_or-map-range_with_len (λ j. slice_index (word words (4 * r + j / 4)) (j % 4)) 0 16 k
    k 0 low (zero-add k)))

-- what a step of the code gives
pub next_key_is : (key : List ℕ) (blocks r : ℕ) (last back : List ℕ) (mixed given : List ℕ)
    → Blocks key blocks → blocks ≤ r → r ≤ round_count key
    → last ≡ round_key (key_expansion key) (r - 1)
    → back ≡ round_key (key_expansion key) (r - blocks)
    → mixed ≡ four_times (mixed_word (4 * blocks) (4 * r) (drop 12 last))
    → ((m : List ℕ) → length m ≡ 4 → mixed ≡ four_times m → given ≡ followed back m)
    → given ≡ round_key (key_expansion key) r
next_key_is key blocks r last back mixed given size le within el eb em each =
    let first : List ℕ = mixed_word (4 * blocks) (4 * r) (drop 12 last) in
    let four_bytes : length (drop 12 last) ≡ 4 =
    ap (λ (l : List ℕ). length (drop 12 l)) el ∙ length_last (key_expansion key) (r - 1) in
    each first (length-mixed_word (4 * blocks) (4 * r) (drop 12 last) four_bytes) em
    ∙ (λ i. followed (eb i) (mixed_word (4 * blocks) (4 * r) (drop 12 (el i))))
    ∙ next_round_key key blocks r size le within
