-- The blocks of a string of bytes, turned round for GHASH.
use Rattle.std.proofs.Common.{◌≡◌, ℕ, ◌+◌, ◌-◌, ◌*◌, ◌/◌, ◌%◌, ◌^◌, ◌<◌, ◌≤◌, List, [], ◌∷◌, ◌++◌, length, min, take, drop, map, replicate, reverse, get_or, inl, inr, refl, sym, ap, ◌∙◌, append-nil, append_assoc, arith, lit<}
use Rattle.std.proofs.lemmas.Bool.{cases_lt}
use Rattle.std.proofs.lemmas.List.{drop_all, get_or-replicate, get_or-reverse, get_or_append_left, get_or_past, length-append, length-replicate, length-reverse, length-take-le, map-append, nil_from_length, take-append-drop, take_all, take_at}
use Rattle.std.proofs.Math.Seq.{get_or-append_right}
use Rattle.std.proofs.lemmas.List.FromFn.{fill_by_all}
use Rattle.std.proofs.lemmas.Simd.{take_more_put_chunk}
use Rattle.std.proofs.lemmas.Slice.{drop-put_mid, take-put_mid}
use Rattle.std.specs.Int.{w32, w128, from_be_bytes, to_be_bytes, to_le_bytes}
use Rattle.std.specs.Simd.Lanes.{pick_l, put_chunk}
use Rattle.std.specs.List.{range_with_len}
use borrow.Rule.Slice.PartMut.{put_mid}
use Rattle.aes_core.specs.Chain.{whole_blocks}
use Rattle.aes_core.proofs.ChainLemmas.{whole_blocks-append}
use Rattle.ghash.specs.Ghash.{padded_blocks}
use Rattle.ghash.specs.Places.{IsBlock}
use Rattle.ghash.proofs.BlockBytes.{padded_blocks-block}
use Rattle.ghash.proofs.BlockXor.{block_below}
use Rattle.ghash.proofs.GhashLemmas.{padded_blocks-append}
use Rattle.tink_spec.proofs.BlockBytes.{to_be_bytes-from_be_bytes_16}
use Rattle.aead_kinds.specs.GcmSiv.{right_padded}
use Rattle.aead_kinds.specs.Polyval.{turned}

-- the blocks that GHASH takes for a string of bytes
abbrev pub numbers : List ℕ → List ℕ
numbers text = map turned (whole_blocks (right_padded text))

-- ---- zeros behind bytes

right_padded-whole : (front : List ℕ) → length front % 16 ≡ 0 → right_padded front ≡ front
right_padded-whole front whole =
    ap (λ n. front ++ replicate ((16 - n) % 16) 0) whole ∙ append-nil front

right_padded-append : (front rest : List ℕ) → length front % 16 ≡ 0
    → right_padded (front ++ rest) ≡ front ++ right_padded rest
right_padded-append front rest whole =
    let same : length (front ++ rest) % 16 ≡ length rest % 16
    = omega (arith, length-append front rest) in
    append_assoc front rest (replicate ((16 - length (front ++ rest) % 16) % 16) 0)
    ∙ ap (λ n. front ++ (rest ++ replicate ((16 - n) % 16) 0)) same

pub length-right_padded : (bytes : List ℕ) → length (right_padded bytes) % 16 ≡ 0
length-right_padded bytes =
    let zeros : ℕ = (16 - length bytes % 16) % 16 in
    omega (arith, length-append bytes (replicate zeros 0), length-replicate {A = ℕ} zeros 0)

-- ---- the blocks

numbers-append : (front rest : List ℕ) → length front % 16 ≡ 0
    → numbers (front ++ rest) ≡ numbers front ++ numbers rest
numbers-append front rest whole =
    ap (λ l. map turned (whole_blocks l)) (right_padded-append front rest whole)
    ∙ ap (map turned) (whole_blocks-append front (right_padded rest) whole)
    ∙ map-append turned (whole_blocks front) (whole_blocks (right_padded rest))
    ∙ ap (λ l. map turned (whole_blocks l) ++ numbers rest) (sym (right_padded-whole front whole))

pub numbers-nil : (bytes : List ℕ) → length bytes ≡ 0 → numbers bytes ≡ []
unfolding whole_blocks
numbers-nil bytes none = ap numbers (nil_from_length bytes none)

-- where a piece of n bytes, or all, comes off the front
pub numbers-cut : (bytes piece rest : List ℕ) (n : ℕ) → bytes ≡ piece ++ rest
    → length piece ≡ min n (length bytes) → n % 16 ≡ 0
    → numbers piece ++ numbers rest ≡ numbers bytes
numbers-cut bytes piece rest n parts size whole =
    let sum : length bytes ≡ length piece + length rest
    = ap length parts ∙ length-append piece rest in
    elim (cases_lt (length bytes) n) [
      | inl short ↦
          let none : rest ≡ [] = nil_from_length rest (omega arith) in
          ap (λ (u : List ℕ). numbers piece ++ u) (numbers-nil rest (ap length none))
          ∙ append-nil (numbers piece)
          ∙ ap numbers (sym (parts ∙ ap (λ (u : List ℕ). piece ++ u) none ∙ append-nil piece))
      | inr long ↦
          let all : length piece ≡ n = omega arith in
          sym (numbers-append piece rest (ap (λ m. m % 16) all ∙ whole)) ∙ ap numbers (sym parts)
    ]

-- a piece of at most 16 bytes with zeros after it
abbrev pub padded : List ℕ → List ℕ
padded piece = piece ++ replicate (16 - length piece) 0

pub length-padded : (piece : List ℕ) → length piece ≤ 16 → length (padded piece) ≡ 16
length-padded piece h =
    length-append piece (replicate (16 - length piece) 0)
    ∙ omega (arith, length-replicate {A = ℕ} (16 - length piece) 0)

one_block : (block : List ℕ) → length block ≡ 16 → whole_blocks block ≡ block ∷ []
unfolding whole_blocks
one_block block l =
    ap (λ n. map (λ i. take 16 (drop (16 * i) block)) (range_with_len 0 (n / 16))) l
    ∙ ap (λ (b : List ℕ). b ∷ []) (take_all 16 block (omega arith))

pub numbers-one : (piece : List ℕ) → 0 < length piece → length piece ≤ 16
    → numbers piece ≡ turned (padded piece) ∷ []
numbers-one piece some h =
    let count : (16 - length piece % 16) % 16 ≡ 16 - length piece = omega arith in
    let l : length (padded piece) ≡ 16 = length-padded piece h in
    ap (λ n. map turned (whole_blocks (piece ++ replicate n 0))) count
    ∙ ap (map turned) (one_block (padded piece) l)

-- ---- the copy that is turned round

-- 16 lanes, from the last to the first
pub reversed_lanes : (x : List ℕ) → length x ≡ 16
    → pick_l 0 (x ++ x)
    (15 ∷ 14 ∷ 13 ∷ 12 ∷ 11 ∷ 10 ∷ 9 ∷ 8 ∷ 7 ∷ 6 ∷ 5 ∷ 4 ∷ 3 ∷ 2 ∷ 1 ∷ 0 ∷ [])
    ≡ reverse x
reversed_lanes x l =
    let r : List ℕ = reverse x in
    let at = λ (k : ℕ) (h : k < 16).
    get_or_append_left x x 0 (15 - k) (omega arith)
    ∙ sym (get_or-reverse x k 0 (omega arith) ∙ ap (λ n. get_or x (n - 1 - k) 0) l) in
    (λ i. at 0 (lit< tt) i ∷ at 1 (lit< tt) i ∷ at 2 (lit< tt) i ∷ at 3 (lit< tt) i
    ∷ at 4 (lit< tt) i ∷ at 5 (lit< tt) i ∷ at 6 (lit< tt) i ∷ at 7 (lit< tt) i
    ∷ at 8 (lit< tt) i ∷ at 9 (lit< tt) i ∷ at 10 (lit< tt) i ∷ at 11 (lit< tt) i
    ∷ at 12 (lit< tt) i ∷ at 13 (lit< tt) i ∷ at 14 (lit< tt) i ∷ at 15 (lit< tt) i ∷ [])
    ∙ sym (fill_by_all (λ i. get_or r i 0) r 16 0 (length-reverse x ∙ l) (λ k h. refl))

all_small : (t : List ℕ) → IsBlock t → (i : ℕ) → get_or t i 0 < 256
all_small t is i = elim (cases_lt i 16) [
  | inl lt ↦ is.1 i lt
  | inr le ↦ omega (arith, get_or_past t i 0 (omega (arith, is.0)))
]

-- bytes behind each other are as small as they are, and so in the other order
pub reversed_is_block : (piece : List ℕ) → length piece ≤ 16 → ((i : ℕ) → get_or piece i 0 < 256)
    → IsBlock (reverse (padded piece))
reversed_is_block piece h small =
    let p : List ℕ = padded piece in
    let zeros : List ℕ = replicate (16 - length piece) 0 in
    let l : length p ≡ 16 = length-padded piece h in
    let each : (i : ℕ) → i < 16 → get_or p i 0 < 256 = λ i lt. elim (cases_lt i (length piece)) [
      | inl front ↦ omega (arith, get_or_append_left piece zeros 0 i front, small i)
      | inr back ↦ omega (
        arith,
        get_or-append_right piece zeros i 0 back,
        get_or-replicate {A = ℕ} (16 - length piece) (i - length piece) 0 0 (omega arith),
      )
    ] in (
      length-reverse p ∙ l,
      λ i lt. rw (get_or-reverse p i 0 (omega arith)) (each (length p - 1 - i) (omega arith)),
    )

-- a block more
pub copied-more : (copy bytes block : List ℕ) (size : ℕ) → size + 16 ≤ length copy → size % 16 ≡ 0
    → IsBlock bytes → bytes ≡ reverse block
    → padded_blocks (take (size + 16) (put_chunk size copy bytes))
    ≡ padded_blocks (take size copy) ++ turned block ∷ []
copied-more copy bytes block size room whole is same =
    let front : length (take size copy) ≡ size = length-take-le size copy (omega arith) in
    let n : ℕ = from_be_bytes w128 bytes in
    let long : length bytes ≡ 16 = is.0 in
    ap padded_blocks (take_more_put_chunk size copy bytes (size + 16) (omega arith) room
    ∙ ap (λ (u : List ℕ). take size copy ++ u)
    (sym (to_be_bytes-from_be_bytes_16 bytes long (all_small bytes is))))
    ∙ padded_blocks-append (take size copy) (to_be_bytes w128 n) (ap (λ m. m % 16) front ∙ whole)
    ∙ ap (λ (u : List ℕ). padded_blocks (take size copy) ++ u)
    (padded_blocks-block n (block_below bytes is))
    ∙ ap (λ (u : List ℕ). padded_blocks (take size copy) ++ from_be_bytes w128 u ∷ []) same

-- ---- what is hashed, and what is put together

pub hashed_blocks : (ad plain lengths : List ℕ) → length lengths ≡ 16
    → numbers ad ++ numbers plain ++ numbers lengths
    ≡ map turned (whole_blocks (right_padded ad ++ right_padded plain ++ lengths))
hashed_blocks ad plain lengths l =
    let a : List ℕ = right_padded ad in
    let p : List ℕ = right_padded plain in
    let la : length a % 16 ≡ 0 = length-right_padded ad in
    let lp : length p % 16 ≡ 0 = length-right_padded plain in
    let both : length (a ++ p) % 16 ≡ 0 = omega (arith, length-append a p) in
    let whole : length lengths % 16 ≡ 0 = ap (λ n. n % 16) l in
    sym (ap (map turned) (whole_blocks-append (a ++ p) lengths both
    ∙ ap (λ (u : List (List ℕ)). u ++ whole_blocks lengths) (whole_blocks-append a p la))
    ∙ map-append turned (whole_blocks a ++ whole_blocks p) (whole_blocks lengths)
    ∙ ap (λ (u : List ℕ). u ++ map turned (whole_blocks lengths))
    (map-append turned (whole_blocks a) (whole_blocks p))
    ∙ ap (λ (u : List ℕ). numbers ad ++ numbers plain ++ map turned (whole_blocks u))
    (sym (right_padded-whole lengths whole)))

-- two halves that are written one after the other
pub halves_written : (n : ℕ) (a zeros b : List ℕ) → length a ≡ n → length zeros ≡ n
    → length b ≡ n → put_mid n n (a ++ zeros) b ≡ a ++ b
halves_written n a zeros b la lz lb =
    let all : List ℕ = a ++ zeros in
    let l : length all ≡ n + n = omega (arith, length-append a zeros) in
    let front : take (n + n) (put_mid n n all b) ≡ a ++ b
    = take-put_mid n n all b (n + n) (omega arith) (omega arith)
    ∙ ap (λ (u : List ℕ). u ++ b) (take_at a zeros n la) in
    let back : drop (n + n) (put_mid n n all b) ≡ []
    = drop-put_mid n n all b (n + n) (omega arith) (omega arith) lb
    ∙ drop_all (n + n) all (omega arith) in
    sym (take-append-drop (n + n) (put_mid n n all b))
    ∙ (λ i. front i ++ back i) ∙ append-nil (a ++ b)

-- a number below 256 in four bytes
pub le_bytes-small : (n : ℕ) → n < 256 → to_le_bytes w32 n ≡ n ∷ 0 ∷ 0 ∷ 0 ∷ []
le_bytes-small n h =
    let b0 : n % 256 ≡ n = omega arith in
    let b1 : n / 256 ^ 1 % 256 ≡ 0 = omega arith in
    let b2 : n / 256 ^ 2 % 256 ≡ 0 = omega arith in
    let b3 : n / 256 ^ 3 % 256 ≡ 0 = omega arith in
    λ i. b0 i ∷ b1 i ∷ b2 i ∷ b3 i ∷ []
