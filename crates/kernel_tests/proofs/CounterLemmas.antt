-- The counters of SP 800-38A, B.1, as the plain body counts: its step is one of the standard's, and no
-- step leaves a block as it is.
use Rattle.std.proofs.Common.{◌≡◌, ℕ, ◌+◌, ◌%◌, ◌^◌, ◌<◌, List, [], ◌∷◌, ◌++◌, length, take, drop, get_or, refl, sym, ap, ◌∙◌, add-zero, arith, inl, inr, lit<}
use Rattle.std.proofs.Math.Nat as nat
use Rattle.std.proofs.lemmas.List.{append-nil, drop_all, get_or-drop, get_or-take, get_or_past, length-drop, length-take, length-take-le, take-append-drop}
use Rattle.std.proofs.lemmas.Bool.{cases_lt}
use Rattle.std.proofs.lemmas.Nat.{be_bytes_4, le_bytes_4}
use Rattle.std.proofs.lemmas.Slice.{drop-put_mid, take-put_mid}
use Rattle.std.specs.Int.{w32, w128, from_be_bytes, from_le_bytes, to_be_bytes, to_le_bytes}
use borrow.Rule.Slice.PartMut.{put_mid}
use Rattle.aes_core.specs.Counter.{counter_plus}
use Rattle.aes_core.specs.declared.counter.CtrKind.{CtrKind}
use Rattle.aes_core.specs.declared.counter.CtrKind.TheVariants.{Low32, First32, All128}
use Rattle.tink_spec.proofs.BlockBytes.{to_be_bytes-from_be_bytes_16}

-- a block whose last four bytes were written
written_last : (t part : List ℕ) → length t ≡ 16 → length part ≡ 4
    → put_mid 12 4 t part ≡ take 12 t ++ part
written_last t part l k =
    let front : take 16 (put_mid 12 4 t part) ≡ take 12 t ++ part =
    take-put_mid 12 4 t part 16 (omega arith) (omega arith) in
    let back : drop 16 (put_mid 12 4 t part) ≡ [] =
    drop-put_mid 12 4 t part 16 (omega arith) (omega arith) k ∙ drop_all 16 t (omega arith) in
    sym (take-append-drop 16 (put_mid 12 4 t part))
    ∙ ap (λ (xs : List ℕ). xs ++ drop 16 (put_mid 12 4 t part)) front
    ∙ ap (λ (xs : List ℕ). take 12 t ++ part ++ xs) back
    ∙ append-nil (take 12 t ++ part)

-- the last four bytes, read one by one
abbrev last_four : List ℕ → List ℕ
last_four t = get_or t 12 0 ∷ get_or t 13 0 ∷ get_or t 14 0 ∷ get_or t 15 0 ∷ []

read_last : (t : List ℕ) → from_be_bytes w32 (last_four t) ≡ from_be_bytes w32 (drop 12 t)
read_last t =
    rw (get_or-drop 12 t 0 0, get_or-drop 12 t 1 0, get_or-drop 12 t 2 0, get_or-drop 12 t 3 0) refl

-- the code's step at Low32
pub next_low : (t : List ℕ) (count : ℕ) (bytes part : List ℕ) → length t ≡ 16
    → count ≡ from_be_bytes w32 (get_or t 12 0 ∷ get_or t 13 0 ∷ get_or t 14 0 ∷ get_or t 15 0 ∷ [])
    → bytes ≡ to_be_bytes w32 ((count + 1) % 2 ^ 32) → part ≡ bytes
    → put_mid 12 4 t part ≡ counter_plus Low32 t 1
unfolding counter_plus
next_low t count bytes part l is written same =
    let e : part ≡ to_be_bytes w32 ((from_be_bytes w32 (drop 12 t) + 1) % 2 ^ 32) =
    same ∙ written ∙ ap (λ (x : ℕ). to_be_bytes w32 ((x + 1) % 2 ^ 32)) (is ∙ read_last t) in
    written_last t part l (ap length e) ∙ ap (λ (low : List ℕ). take 12 t ++ low) e

-- a block whose first four bytes were written
written_first : (t part : List ℕ) → length t ≡ 16 → length part ≡ 4
    → put_mid 0 4 t part ≡ part ++ drop 4 t
written_first t part l k =
    sym (take-append-drop 4 (put_mid 0 4 t part))
    ∙ (λ i. take-put_mid 0 4 t part 4 (omega arith) (omega arith) i
    ++ drop-put_mid 0 4 t part 4 (omega arith) (omega arith) k i)

-- the code's step at First32
pub next_first : (t : List ℕ) (count : ℕ) (bytes part : List ℕ) → length t ≡ 16
    → count ≡ from_le_bytes w32 (get_or t 0 0 ∷ get_or t 1 0 ∷ get_or t 2 0 ∷ get_or t 3 0 ∷ [])
    → bytes ≡ to_le_bytes w32 ((count + 1) % 2 ^ 32) → part ≡ bytes
    → put_mid 0 4 t part ≡ counter_plus First32 t 1
unfolding counter_plus
next_first t count bytes part l is written same =
    let read : from_le_bytes w32 (get_or t 0 0 ∷ get_or t 1 0 ∷ get_or t 2 0 ∷ get_or t 3 0 ∷ [])
    ≡ from_le_bytes w32 (take 4 t) = rw (get_or-take 4 t 0 0 (lit< tt), get_or-take 4 t 1 0 (lit< tt), get_or-take 4 t 2 0 (lit< tt), get_or-take 4 t 3 0 (lit< tt)) refl in
    let e : part ≡ to_le_bytes w32 ((from_le_bytes w32 (take 4 t) + 1) % 2 ^ 32) =
    same ∙ written ∙ ap (λ (x : ℕ). to_le_bytes w32 ((x + 1) % 2 ^ 32)) (is ∙ read) in
    written_first t part l (ap length e) ∙ ap (λ (low : List ℕ). low ++ drop 4 t) e

last_small : (t : List ℕ) → ((i : ℕ) → get_or t i 0 < 256) → (i : ℕ) → get_or (drop 12 t) i 0 < 256
last_small t small i = rw (get_or-drop 12 t i 0) (small (12 + i))

first_small : (t : List ℕ) → ((i : ℕ) → get_or t i 0 < 256) → (i : ℕ)
    → get_or (take 4 t) i 0 < 256
first_small t small i = elim (cases_lt i 4) [
  | inl lt ↦ rw (get_or-take 4 t i 0 lt) (small i)
  | inr le ↦ rw (get_or_past (take 4 t) i 0 (omega (arith, length-take 4 t))) (lit< tt)
]

same_mod : (v m : ℕ) → v < m → (v + 0) % m ≡ v
same_mod v m h = rw (add-zero v) (nat.mod-eq_of_lt h)

value_below_32 : (bytes : List ℕ) → ((i : ℕ) → get_or bytes i 0 < 256)
    → from_be_bytes w32 bytes < 2 ^ 32
value_below_32 bytes small = omega (arith, small 0, small 1, small 2, small 3)

le_value_below_32 : (bytes : List ℕ) → ((i : ℕ) → get_or bytes i 0 < 256)
    → from_le_bytes w32 bytes < 2 ^ 32
le_value_below_32 bytes small = omega (arith, small 0, small 1, small 2, small 3)

value_below_128 : (bytes : List ℕ) → ((i : ℕ) → get_or bytes i 0 < 256)
    → from_be_bytes w128 bytes < 2 ^ 128
value_below_128 bytes small =
    omega (
      arith,
      small 0,
      small 1,
      small 2,
      small 3,
      small 4,
      small 5,
      small 6,
      small 7,
      small 8,
      small 9,
      small 10,
      small 11,
      small 12,
      small 13,
      small 14,
      small 15,
    )

-- no step leaves a block of bytes as it is
pub counter_plus-zero : (kind : CtrKind) (t : List ℕ) → length t ≡ 16
    → ((i : ℕ) → get_or t i 0 < 256) → counter_plus kind t 0 ≡ t
unfolding counter_plus
counter_plus-zero Low32 t l small =
    let low : List ℕ = drop 12 t in
    let last : (i : ℕ) → get_or low i 0 < 256 = last_small t small in
    let four : length low ≡ 4 = length-drop 12 t ∙ omega arith in
    let value : (from_be_bytes w32 low + 0) % 2 ^ 32 ≡ from_be_bytes w32 low =
    same_mod (from_be_bytes w32 low) (2 ^ 32) (value_below_32 low last) in
    ap (λ (xs : List ℕ). take 12 t ++ xs)
    (be_bytes_4 low ((from_be_bytes w32 low + 0) % 2 ^ 32) four last value)
    ∙ take-append-drop 12 t
counter_plus-zero First32 t l small =
    let low : List ℕ = take 4 t in
    let first : (i : ℕ) → get_or low i 0 < 256 = first_small t small in
    let four : length low ≡ 4 = length-take-le 4 t (omega arith) in
    let value : (from_le_bytes w32 low + 0) % 2 ^ 32 ≡ from_le_bytes w32 low =
    same_mod (from_le_bytes w32 low) (2 ^ 32) (le_value_below_32 low first) in
    ap (λ (xs : List ℕ). xs ++ drop 4 t)
    (le_bytes_4 low ((from_le_bytes w32 low + 0) % 2 ^ 32) four first value)
    ∙ take-append-drop 4 t
counter_plus-zero All128 t l small =
    ap (to_be_bytes w128) (same_mod (from_be_bytes w128 t) (2 ^ 128) (value_below_128 t small))
    ∙ to_be_bytes-from_be_bytes_16 t l small
