-- The XOR of two blocks, byte by byte.
use Rattle.std.proofs.Common.{◌≡◌, ◌+◌, ◌<◌, ◌++◌, ◌∷◌, ◌∙◌, [], ℕ, zero, suc, List, ap, arith, drop, get_or, length, refl, sym, take}
use Rattle.std.specs.Prelude.{bit_xor}
use Rattle.std.proofs.Math.ListN.{set}
use Rattle.aes_core.specs.Bytes.{xor_bytes}

-- where the first i are XORed, the byte in place i is as it was
xor-at : (xs ys : List ℕ) (i : ℕ) → i < length xs → i < length ys
    → get_or (xor_bytes (take i xs) (take i ys) ++ drop i xs) i 0 ≡ get_or xs i 0
unfolding xor_bytes
xor-at [] ys i within other = absurd (omega arith)
xor-at (x ∷ xs) [] i within other = absurd (omega arith)
xor-at (x ∷ xs) (y ∷ ys) zero within other = refl
xor-at (x ∷ xs) (y ∷ ys) (suc i) within other = xor-at xs ys i (omega arith) (omega arith)

xor-more : (xs ys : List ℕ) (i : ℕ) → i < length xs → i < length ys
    → set (xor_bytes (take i xs) (take i ys) ++ drop i xs) i
    (bit_xor (get_or xs i 0) (get_or ys i 0))
    ≡ xor_bytes (take (suc i) xs) (take (suc i) ys) ++ drop (suc i) xs
unfolding xor_bytes
xor-more [] ys i within other = absurd (omega arith)
xor-more (x ∷ xs) [] i within other = absurd (omega arith)
xor-more (x ∷ xs) (y ∷ ys) zero within other = refl
xor-more (x ∷ xs) (y ∷ ys) (suc i) within other =
    ap (λ (l : List ℕ). bit_xor x y ∷ l) (xor-more xs ys i (omega arith) (omega arith))

-- one byte more
pub xor-step : (xs ys sum : List ℕ) (i : ℕ) → i < length xs → i < length ys
    → sum ≡ xor_bytes (take i xs) (take i ys) ++ drop i xs
    → set sum i (bit_xor (get_or sum i 0) (get_or ys i 0))
    ≡ xor_bytes (take (i + 1) xs) (take (i + 1) ys) ++ drop (i + 1) xs
xor-step xs ys sum i within other so_far =
    let next : i + 1 ≡ suc i = omega arith in
    let before = xor_bytes (take i xs) (take i ys) ++ drop i xs in
    ap (λ (b : List ℕ). set b i (bit_xor (get_or b i 0) (get_or ys i 0))) so_far
    ∙ ap (λ v. set before i (bit_xor v (get_or ys i 0))) (xor-at xs ys i within other)
    ∙ xor-more xs ys i within other
    ∙ ap (λ n. xor_bytes (take n xs) (take n ys) ++ drop n xs) (sym next)
