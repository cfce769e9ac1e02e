-- A block of 16 bytes as a number, and its bytes again.
use Rattle.std.proofs.Common.{◌≡◌, ℕ, ◌+◌, ◌*◌, ◌/◌, ◌%◌, ◌^◌, ◌-◌, ◌<◌, List, length, get_or, map, refl, sym, ◌∙◌, arith}
use Rattle.std.proofs.Math.Nat as nat
use Rattle.std.proofs.lemmas.List.FromFn.{fill_by_all}
use Rattle.std.specs.List.{range_with_len}
use Rattle.std.specs.Int.{w128, byte_worth, from_be_bytes, sum_through, to_be_bytes}

-- a digit, and what is above it
digit_of : (x p q b : ℕ) → x / p ≡ q * 256 + b → b < 256 → (x / (p * 256) ≡ q) × (x / p % 256 ≡ b)
digit_of x p q b e small = (sym (nat.div-div-eq-div-mul x p 256) ∙ omega arith, omega arith)

-- a block of bytes as a number, and back
digits_16 : (x : ℕ) (b : ℕ → ℕ) → ((i : ℕ) → b i < 256)
    → x ≡ sum_through (λ i. byte_worth (15 - i) (b i)) 15
    → to_be_bytes w128 x ≡ map b (range_with_len 0 16)
digits_16 x b small is =
    let q15 : ℕ = b 0 in
    let q14 : ℕ = q15 * 256 + b 1 in
    let q13 : ℕ = q14 * 256 + b 2 in
    let q12 : ℕ = q13 * 256 + b 3 in
    let q11 : ℕ = q12 * 256 + b 4 in
    let q10 : ℕ = q11 * 256 + b 5 in
    let q9 : ℕ = q10 * 256 + b 6 in
    let q8 : ℕ = q9 * 256 + b 7 in
    let q7 : ℕ = q8 * 256 + b 8 in
    let q6 : ℕ = q7 * 256 + b 9 in
    let q5 : ℕ = q6 * 256 + b 10 in
    let q4 : ℕ = q5 * 256 + b 11 in
    let q3 : ℕ = q4 * 256 + b 12 in
    let q2 : ℕ = q3 * 256 + b 13 in
    let q1 : ℕ = q2 * 256 + b 14 in
    let above : x / 256 ≡ q1 = omega (arith, small 15) in
    let d0 : x % 256 ≡ b 15 = omega (arith, small 15) in
    let d1 = digit_of x (256 ^ 1) q2 (b 14) above (small 14) in
    let d2 = digit_of x (256 ^ 2) q3 (b 13) d1.0 (small 13) in
    let d3 = digit_of x (256 ^ 3) q4 (b 12) d2.0 (small 12) in
    let d4 = digit_of x (256 ^ 4) q5 (b 11) d3.0 (small 11) in
    let d5 = digit_of x (256 ^ 5) q6 (b 10) d4.0 (small 10) in
    let d6 = digit_of x (256 ^ 6) q7 (b 9) d5.0 (small 9) in
    let d7 = digit_of x (256 ^ 7) q8 (b 8) d6.0 (small 8) in
    let d8 = digit_of x (256 ^ 8) q9 (b 7) d7.0 (small 7) in
    let d9 = digit_of x (256 ^ 9) q10 (b 6) d8.0 (small 6) in
    let d10 = digit_of x (256 ^ 10) q11 (b 5) d9.0 (small 5) in
    let d11 = digit_of x (256 ^ 11) q12 (b 4) d10.0 (small 4) in
    let d12 = digit_of x (256 ^ 12) q13 (b 3) d11.0 (small 3) in
    let d13 = digit_of x (256 ^ 13) q14 (b 2) d12.0 (small 2) in
    let d14 = digit_of x (256 ^ 14) q15 (b 1) d13.0 (small 1) in
    let d15 : x / 256 ^ 15 % 256 ≡ b 0 = omega (arith, d14.0, small 0) in
    rw (
      d15,
      d14.1,
      d13.1,
      d12.1,
      d11.1,
      d10.1,
      d9.1,
      d8.1,
      d7.1,
      d6.1,
      d5.1,
      d4.1,
      d3.1,
      d2.1,
      d1.1,
      d0,
    )
    refl

pub to_be_bytes-from_be_bytes_16 : (t : List ℕ) → length t ≡ 16 → ((i : ℕ) → get_or t i 0 < 256)
    → to_be_bytes w128 (from_be_bytes w128 t) ≡ t
to_be_bytes-from_be_bytes_16 t l small =
    digits_16 (from_be_bytes w128 t) (λ i. get_or t i 0) small refl
    ∙ sym (fill_by_all (λ i. get_or t i 0) t 16 0 l (λ k h. refl))
