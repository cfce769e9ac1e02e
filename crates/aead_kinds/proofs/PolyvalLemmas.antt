-- The field of POLYVAL is that of GHASH with x^-1 for x. A block of bytes is one number in both, whose
-- bits are the coefficients in the one order and in the other: so the step of the one field undoes that
-- of the other, and its product is the other's with a factor that is moved by many steps.
use Rattle.std.proofs.Common.{◌≡◌, ℕ, zero, suc, ◌+◌, ◌-◌, ◌*◌, ◌/◌, ◌%◌, ◌^◌, ◌<◌, List, [], ◌∷◌, length, map, reverse, get_or, inl, inr, refl, sym, ◌∙◌, ap, arith, bit_xor, lit<}
use Rattle.std.proofs.lemmas.List.{get_or-reverse, length-map}
use Rattle.std.proofs.lemmas.List.Elements.{All-get_or, All-head, All-tail}
use Rattle.std.proofs.lemmas.Nat.{xor_block, xor_lt, xor_mod, xor_shr}
use Rattle.std.specs.Int.Bits.{xor_assoc, xor_zero_l, xor_zero_r}
use Rattle.std.specs.Int.{w128, bit_at, from_be_bytes, from_le_bytes, to_be_bytes}
use Rattle.std.specs.List.{All}
use Rattle.ghash.specs.Field as field
use Rattle.ghash.specs.Field.{block_bit, one, prod, reduction, shifted_factor}
use Rattle.ghash.specs.Ghash.{ghash, running_value}
use Rattle.ghash.proofs.FieldLemmas.{linear-shifted_factor, parity, partial_product-off, partial_product-on, prod_below, prod_linear, prod-one_right, times_x-even, times_x-odd, xor_left, xor_right}
use Rattle.ghash.proofs.FieldLemmas as field_lemmas
use Rattle.ghash.proofs.GhashLemmas.{running_value-ghash}
use Rattle.aead_kinds.specs.Polyval.{IsBlock, accumulated, dot, element, inverse_of_x128, mulx, partial_product, polyval, polyval_by_dot, product, rev, shifted, times_x, turned}

-- ---- a block read from its other end

pub reversed_read : (t : List ℕ) → length t ≡ 16
    → from_be_bytes w128 (reverse t) ≡ from_le_bytes w128 t
reversed_read t l =
    let at = λ (k : ℕ) (h : k < 16). get_or-reverse t k 0 (omega arith)
    ∙ ap (λ n. get_or t (n - 1 - k) 0) l in
    omega (
      arith,
      at 0 (lit< tt),
      at 1 (lit< tt),
      at 2 (lit< tt),
      at 3 (lit< tt),
      at 4 (lit< tt),
      at 5 (lit< tt),
      at 6 (lit< tt),
      at 7 (lit< tt),
      at 8 (lit< tt),
      at 9 (lit< tt),
      at 10 (lit< tt),
      at 11 (lit< tt),
      at 12 (lit< tt),
      at 13 (lit< tt),
      at 14 (lit< tt),
      at 15 (lit< tt),
    )

-- ---- the step

abbrev folded : ℕ
folded = 2 ^ 127 + 2 ^ 126 + 2 ^ 121 + 1

times_x-off : (a : ℕ) → bit_at a 127 ≡ 0 → times_x a ≡ a * 2 % 2 ^ 128
times_x-off a e = rw e

times_x-on : (a : ℕ) → bit_at a 127 ≡ 1 → times_x a ≡ bit_xor (a * 2 % 2 ^ 128) folded
times_x-on a e = rw e

times_x_below : (a : ℕ) → times_x a < 2 ^ 128
times_x_below a =
    let low : a * 2 % 2 ^ 128 < 2 ^ 128 = omega arith in
    elim (parity (a / 2 ^ 127)) [
      | inl e ↦ rw (times_x-off a e) low
      | inr e ↦ rw (times_x-on a e) (xor_lt 128 (a * 2 % 2 ^ 128) folded low (lit< tt))
    ]

-- the highest bit, added to what is below it
with_highest : (low : ℕ) → low < 2 ^ 127 → bit_xor low (2 ^ 127) ≡ low + 2 ^ 127
with_highest low h =
    let left : low ≡ 0 * 2 ^ 127 + low = omega arith in
    ap (λ n. bit_xor n (2 ^ 127)) left ∙ xor_block 127 0 1 low 0 h (lit< tt)
    ∙ rw (xor_zero_r low) (omega arith)

-- the step of GHASH's field undoes it
step_back : (a : ℕ) → a < 2 ^ 128 → field.times_x (times_x a) ≡ a
step_back a h =
    let shift : ℕ = a * 2 % 2 ^ 128 in
    let even : shift % 2 ≡ 0 = omega arith in
    elim (parity (a / 2 ^ 127)) [
      | inl e ↦ ap field.times_x (times_x-off a e) ∙ times_x-even shift even ∙ omega arith
      | inr e ↦
          let odd : bit_xor shift folded % 2 ≡ 1
          = xor_mod shift folded 1 ∙ ap (λ n. bit_xor n (folded % 2)) even in
          let low : shift / 2 ≡ a - 2 ^ 127 = omega arith in
          ap field.times_x (times_x-on a e) ∙ times_x-odd (bit_xor shift folded) odd
          ∙ ap (λ n. bit_xor n reduction) (xor_shr shift folded 1)
          ∙ xor_assoc (shift / 2) (folded / 2) reduction
          ∙ ap (λ n. bit_xor n (2 ^ 127)) low
          ∙ with_highest (a - 2 ^ 127) (omega arith) ∙ omega arith
    ]

shifted_below : (a i : ℕ) → a < 2 ^ 128 → shifted a i < 2 ^ 128
unfolding shifted
shifted_below a zero h = h
shifted_below a (suc i) h = times_x_below (shifted a i)

-- so many of the one after so many more of the other
back_shifted : (b m i k : ℕ) → b < 2 ^ 128 → i + k ≡ m
    → shifted_factor (shifted b m) i ≡ shifted b k
unfolding shifted shifted_factor
back_shifted b m zero k h e =
    let same : m ≡ k = omega arith in ap (shifted b) same
back_shifted b m (suc i) k h e =
    ap field.times_x (back_shifted b m i (suc k) h (omega arith))
    ∙ step_back (shifted b k) (shifted_below b k h)

-- ---- the product

partial-off : (a b i : ℕ) → bit_at a i ≡ 0 → partial_product a b (suc i) ≡ partial_product a b i
unfolding partial_product
partial-off a b i e = rw e

partial-on : (a b i : ℕ) → bit_at a i ≡ 1
    → partial_product a b (suc i) ≡ bit_xor (partial_product a b i) (shifted b i)
unfolding partial_product
partial-on a b i e = rw e

-- the products by the n lowest bits of the first factor, and by the i highest
partial_products : (a b i n : ℕ) → b < 2 ^ 128 → i + n ≡ 128
    → partial_product a b 128
    ≡ bit_xor (partial_product a b n) (field.partial_product a (shifted b 127) i)
unfolding field.partial_product
partial_products a b zero n h e =
    let all : 128 ≡ n = omega arith in
    ap (partial_product a b) all ∙ sym (xor_zero_r (partial_product a b n))
partial_products a b (suc i) n h e =
    let y : ℕ = shifted b 127 in
    let place : 127 - i ≡ n = omega arith in
    let bit : block_bit a i ≡ bit_at a n = ap (bit_at a) place in
    let low : ℕ = partial_product a b n in
    let high : ℕ = field.partial_product a y i in
    partial_products a b i (suc n) h (omega arith)
    ∙ elim (parity (a / 2 ^ n)) [
      | inl off ↦ (λ t. bit_xor (partial-off a b n off t)
          (sym (partial_product-off a y i (bit ∙ off)) t))
      | inr on ↦ ap (λ u. bit_xor u high) (partial-on a b n on)
          ∙ xor_left low high (shifted b n) ∙ sym (xor_right low high (shifted b n))
          ∙ ap (λ u. bit_xor low (bit_xor high u)) (sym (back_shifted b 127 i n h (omega arith)))
          ∙ ap (bit_xor low) (sym (partial_product-on a y i (bit ∙ on)))
    ]

product-prod : (a b : ℕ) → b < 2 ^ 128 → product a b ≡ prod a (shifted b 127)
unfolding product partial_product prod
product-prod a b h =
    partial_products a b 128 0 h refl ∙ xor_zero_l (field.partial_product a (shifted b 127) 128)

-- x^-128 after 127 steps is x^-1, which is GHASH's x^128
inverse_shifted : shifted inverse_of_x128 127 ≡ shifted_factor one 128
unfolding shifted shifted_factor
inverse_shifted = refl

shifted_factor-suc : (y i : ℕ) → shifted_factor y (suc i) ≡ field.times_x (shifted_factor y i)
unfolding shifted_factor
shifted_factor-suc y i = refl

shifted-none : (b : ℕ) → shifted b 0 ≡ b
unfolding shifted
shifted-none b = refl

pub dot-prod : (a b : ℕ) → b < 2 ^ 128 → dot a b ≡ prod a (field.times_x b)
unfolding dot
dot-prod a b h =
    let y : ℕ = shifted b 127 in
    let below : prod a y < 2 ^ 128 = prod_below a y (shifted_below b 127 h) in
    product-prod (product a b) inverse_of_x128 (lit< tt)
    ∙ (λ t. prod (product-prod a b h t) (inverse_shifted t))
    ∙ linear-shifted_factor (prod (prod a y)) (prod_linear (prod a y)) one 128
    ∙ ap (λ u. shifted_factor u 128) (prod-one_right (prod a y) below)
    ∙ sym (linear-shifted_factor (prod a) (prod_linear a) y 128)
    ∙ ap (prod a) (shifted_factor-suc y 127
    ∙ ap field.times_x (back_shifted b 127 127 0 h refl ∙ shifted-none b))

-- ---- POLYVAL

accumulated-running : (h : ℕ) (xs : List ℕ) (j : ℕ) → h < 2 ^ 128
    → accumulated h xs j ≡ running_value (field.times_x h) xs j
unfolding accumulated running_value
accumulated-running h xs zero below = refl
accumulated-running h xs (suc j) below =
    dot-prod (bit_xor (accumulated h xs j) (get_or xs j 0)) h below
    ∙ ap (λ u. prod (bit_xor u (get_or xs j 0)) (field.times_x h)) (accumulated-running h xs j below)

elements : (blocks : List (List ℕ)) → All IsBlock blocks → map turned blocks ≡ map element blocks
elements [] all = refl
elements (block ∷ later) all =
    let first : turned block ≡ element block
    = reversed_read block (All-head IsBlock block later all).0 in
    let rest : map turned later ≡ map element later
    = elements later (All-tail IsBlock block later all) in
    λ t. first t ∷ rest t

element_below : (block : List ℕ) → IsBlock block → element block < 2 ^ 128
element_below block is =
    let at = λ (i : ℕ) (h : i < 16).
    All-get_or (λ b. b < 256) block i 0 (omega (arith, is.0)) is.1 in
    omega (
      arith,
      at 0 (lit< tt),
      at 1 (lit< tt),
      at 2 (lit< tt),
      at 3 (lit< tt),
      at 4 (lit< tt),
      at 5 (lit< tt),
      at 6 (lit< tt),
      at 7 (lit< tt),
      at 8 (lit< tt),
      at 9 (lit< tt),
      at 10 (lit< tt),
      at 11 (lit< tt),
      at 12 (lit< tt),
      at 13 (lit< tt),
      at 14 (lit< tt),
      at 15 (lit< tt),
    )

pub polyval-dot : (h : List ℕ) (blocks : List (List ℕ)) → IsBlock h → All IsBlock blocks
    → polyval h blocks ≡ polyval_by_dot h blocks
unfolding polyval polyval_by_dot
polyval-dot h blocks is all =
    let key : turned h ≡ element h = reversed_read h is.0 in
    let factor : ℕ = mulx (element h) in
    let below : element h < 2 ^ 128 = element_below h is in
    let xs : List ℕ = map element blocks in
    let same : map turned blocks ≡ xs = elements blocks all in
    ap (λ n. rev (to_be_bytes w128 n))
    ((λ t. ghash (mulx (key t)) (same t))
    ∙ sym (running_value-ghash factor xs (field_lemmas.times_x_below (element h) below))
    ∙ ap (running_value factor xs) (length-map blocks element)
    ∙ sym (accumulated-running (element h) xs (length blocks) below))

pub inverse_is : product inverse_of_x128 (shifted 1 128) ≡ 1
unfolding product partial_product shifted
inverse_is = refl
