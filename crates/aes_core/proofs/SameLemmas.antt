-- Tags compared byte by byte.
use Rattle.std.proofs.Common.{◌≡◌, ◌↔◌, ℕ, ◌+◌, ◌<◌, List, length, take, get_or, sym, ap, ◌∙◌, arith}
use Rattle.std.proofs.lemmas.List.{get_or-take, take-take, take_more_same}
use Rattle.std.proofs.lemmas.Nat.{le_or_l, le_or_r}
use Rattle.std.specs.Int.Bits.{bit_or, or_zero_l, xor_assoc, xor_self, xor_zero_l, xor_zero_r}
use lib.Bits.{bit_xor}

-- numbers without a difference are the same
zero-xor : (a b : ℕ) → bit_xor a b ≡ 0 → a ≡ b
zero-xor a b e =
    sym (xor_zero_r a) ∙ ap (λ n. bit_xor a n) (sym (xor_self b)) ∙ sym (xor_assoc a b b)
    ∙ ap (λ n. bit_xor n b) e ∙ xor_zero_l b

xor_of_same-zero : (a b : ℕ) → a ≡ b → bit_xor a b ≡ 0
xor_of_same-zero a b e = ap (λ n. bit_xor a n) (sym e) ∙ xor_self a

-- there is no difference up to the next byte exactly where there was none, and that byte is the same
pub same-step : (a b : List ℕ) (i d : ℕ) → i < length a → i < length b
    → (d ≡ 0) ↔ (take i a ≡ take i b)
    → (bit_or d (bit_xor (get_or a i 0) (get_or b i 0)) ≡ 0) ↔ (take (i + 1) a ≡ take (i + 1) b)
same-step a b i d ha hb so_far =
    let x = get_or a i 0 in
    let y = get_or b i 0 in
    let new = bit_xor x y in (
      λ e. take_more_same a b i 0 ha hb (so_far.0 (omega (arith, le_or_l d new, e)))
          (zero-xor x y (omega (arith, le_or_r d new, e))),
      λ e.
          let front : take i a ≡ take i b
          = sym (take-take i (i + 1) a (omega arith)) ∙ ap (λ l. take i l) e
          ∙ take-take i (i + 1) b (omega arith) in
          let last : x ≡ y
          = sym (get_or-take (i + 1) a i 0 (omega arith)) ∙ ap (λ l. get_or l i 0) e
          ∙ get_or-take (i + 1) b i 0 (omega arith) in
          ap (λ k. bit_or k new) (so_far.1 front) ∙ or_zero_l new ∙ xor_of_same-zero x y last,
    )
