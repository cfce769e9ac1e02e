-- The range of a stream that was begun, by its final piece and the run of those that cover it.
use Rattle.std.proofs.Common.{◌≡◌, ℕ, ◌+◌, ◌-◌, ◌*◌, ◌/◌, ◌<◌, ◌≤◌, List, map, refl, sym, ◌∙◌, ap, arith, inl, inr}
use Rattle.std.specs.Prelude.{Bool, true, false, ◌==◌, Option, Some, None, Contains, IfSome, if◌then◌else◌}
use Rattle.std.specs.List.{AllByRecursion}
use Rattle.std.proofs.lemmas.Bool.{cases_lt}
use Rattle.std.proofs.lemmas.Bool.Decides.{nat_tests}
use Rattle.std.proofs.lemmas.Nat.{div_below}
use Rattle.std.proofs.lemmas.List.{length-map, get_or-map}
use Rattle.segment_stream.specs.Cipher.{SegmentCipher}
use Rattle.segment_stream.specs.Opening.{Choice, chosen, choose}
use Rattle.segment_stream.specs.Range.{range_under, range_by, range_of}
use Rattle.segment_stream.proofs.SealingLemmas.{ends_within}
use Rattle.segment_stream.proofs.First.{all_at}

-- ---- the numbers of the covering pieces

not_same : (a b : ℕ) → a < b → (a == b) ≡ false
not_same a b lt = grind (arith, nat_tests)

is_same : (a b : ℕ) → a ≡ b → (a == b) ≡ true
is_same a b e = grind (arith, nat_tests)

-- how many there are, as the code counts them
pub record Counted (segment header tag from to first count : ℕ) : Type 0 where
  pub starts : first ≡ (from + header) / (segment - tag)
  pub counts : count ≡ (if from == to then 0 else (to - 1 + header) / (segment - tag) + 1 - (from + header) / (segment - tag))

counted_none : (segment header tag from to first count : ℕ) → Counted segment header tag from to first count → from ≡ to → count ≡ 0
counted_none segment header tag from to first count c e = c.counts ∙ ap (λ (b : Bool). if b then 0 else (to - 1 + header) / (segment - tag) + 1 - (from + header) / (segment - tag)) (is_same from to e)

counted_some : (segment header tag from to first count : ℕ) → Counted segment header tag from to first count → from < to → count ≡ (to - 1 + header) / (segment - tag) + 1 - (from + header) / (segment - tag)
counted_some segment header tag from to first count c lt = c.counts ∙ ap (λ (b : Bool). if b then 0 else (to - 1 + header) / (segment - tag) + 1 - (from + header) / (segment - tag)) (not_same from to lt)

-- the last one is at most the final one
last_within : (size segment header tag to : ℕ) → header + tag < segment → 0 < to → to ≤ size - header - ((size - 1) / segment + 1) * tag → (to - 1 + header) / (segment - tag) ≤ (size - 1) / segment
last_within size segment header tag to room some within =
    let f = (size - 1) / segment in
    let ends = ends_within segment size (omega arith) in
    let width : segment ≡ segment - tag + tag = omega arith in
    let rows : (f + 1) * segment ≡ (f + 1) * (segment - tag) + (f + 1) * tag = ap (λ k. (f + 1) * k) width ∙ times_sum (f + 1) (segment - tag) tag in
    let below = div_below (to - 1 + header) (segment - tag) (f + 1) (omega arith) (omega (arith, ends, rows, within, some)) in
    omega (arith, below)
  where
    times_sum : (a b c : ℕ) → a * (b + c) ≡ a * b + a * c
    times_sum a b c = omega arith

pub numbers_within : (size segment header tag from to first count : ℕ) → Counted segment header tag from to first count → header + tag < segment → from ≤ to → to ≤ size - header - ((size - 1) / segment + 1) * tag
    → (i : ℕ) → i < count → first + i ≤ (size - 1) / segment
numbers_within size segment header tag from to first count c room order within i lt = elim (cases_lt from to) [
  | inl some ↦
      let last = last_within size segment header tag to room (omega arith) within in
      omega (arith, last, c.starts, counted_some segment header tag from to first count c some)
  | inr none ↦ absurd (omega (arith, counted_none segment header tag from to first count c (omega arith)))
]

-- ---- the answer under the key

-- ---- how many bytes are given

pub given_all : (old mid new front size largest covers : ℕ) → mid ≤ old + front → front ≤ largest → new ≤ mid + (covers + 1) * size → size ≤ largest → new ≤ old + (covers + 2) * largest
given_all old mid new front size largest covers h f k s =
    let a : (covers + 1) * size ≤ (covers + 1) * largest = grind (arith, times_le (covers + 1) size largest s) in
    let b : (covers + 2) * largest ≡ (covers + 1) * largest + largest = omega arith in
    omega (arith, a, b)
  where
    times_le : (n a b : ℕ) → a ≤ b → n * a ≤ n * b
    times_le n a b le = grind arith

-- ---- the key chosen among the keys

pub holds_of : {X : Type 0} (P : X → Type 0) (xs : List X) (x : X) → AllByRecursion P xs → Contains xs x → P x
holds_of P xs x all there = all_at P xs there.0 x all there.1 (sym there.2)

pub contains_map : {X Y : Type 0} (f : X → Y) (xs : List X) (x : X) → Contains xs x → Contains (map f xs) (f x)
contains_map f xs x there = (there.0, omega (arith, there.1, length-map xs f), get_or-map f xs there.0 x (f x) there.1 ∙ ap f there.2)

pub range_chosen : (keys : List SegmentCipher) (bytes : List ℕ) (from to : ℕ) (key : SegmentCipher) → choose keys bytes true ≡ chosen key → range_of keys bytes from to ≡ range_under key bytes from to
range_chosen keys bytes from to key e = ap (λ (x : Choice). range_by x bytes from to) e

-- where the bytes are told
pub if_told : (told : Option (List ℕ)) (P : List ℕ → Type 0) → ((bytes : List ℕ) → told ≡ Some bytes → P bytes) → IfSome told P
if_told None P f = tt
if_told (Some bytes) P f = f bytes refl
