-- A range of a stream that opens to its end.
use Rattle.std.proofs.Common.{◌≡◌, ℕ, zero, suc, ◌+◌, ◌-◌, ◌*◌, ◌/◌, ◌<◌, ◌≤◌, List, [], ◌∷◌, ◌++◌, length, take, drop, refl, sym, ◌∙◌, ap, subst, arith, inl, inr, append_assoc, ◌⊎◌}
use Rattle.std.specs.Prelude.{Bool, true, false, Option, Some, None, Result, Ok, Err, ◌==◌, ◌&&◌, nat_lt, nat_le, if◌then◌else◌, All}
use Rattle.std.specs.List.{concat}
use Rattle.std.specs.Option.{is_some}
use Rattle.std.proofs.lemmas.Bool.{cases_lt}
use Rattle.std.proofs.lemmas.Bool.Decides.{nat_tests}
use Rattle.std.proofs.lemmas.Nat.{le-div}
use Rattle.std.proofs.lemmas.List.{length-append, length-take, length-take-le, length-drop, drop-drop, drop_at, take-append-le, drop-append-le}
use Rattle.segment_stream.specs.Pieces.{piece, followed, settled, leading, before}
use Rattle.segment_stream.specs.Cipher.{SegmentCipher, IsCipher, most_segments, behind_header}
use Rattle.segment_stream.specs.Opening.{Choice, undecided, no_key, chosen, choose, fits, opened, opens_at, piece_opens, has_header, released_by, decides_by, refusal_of, stream_answer, StreamRefusal, too_many, failed}
use Rattle.segment_stream.specs.Sealing.{plain_size}
use Rattle.segment_stream.specs.Range.{RangeRefusal, stream_failed, past_end, plain_length, plain_start, piece_of, covering, cut_range, range_under, range_by, range_of}
use Rattle.segment_stream.proofs.Runs.{leading-length, leading-joined, joined}
use Rattle.segment_stream.proofs.Joins.{joined-drop, joined-length, joined-same, headed, headed-later, joined-headed}
use Rattle.segment_stream.proofs.Places.{followed-ends, quotient_le, rows_le}
use Rattle.segment_stream.proofs.PassedKeys.{pieces-all}
use Rattle.segment_stream.proofs.SealingLemmas.{ends_within}
use Rattle.segment_stream.proofs.OpeningLemmas.{chosen-is}
use Rattle.segment_stream.proofs.Standing.{long_header}
use Rattle.segment_stream.proofs.Trials.{opens_has}

-- where a run is whole each result is there
before-some : {A : Type 0} (o : Option A) (rest : List A) (n : ℕ) → length rest ≤ n → length (before o rest) ≡ suc n → (x : A) × (o ≡ Some x) × (length rest ≡ n)
before-some None rest n le e = absurd (omega arith)
before-some (Some x) rest n le e = (x, refl, omega arith)

run_some : (f : ℕ → Option (List ℕ)) (first count : ℕ) → length (leading f first count) ≡ count → (i : ℕ) → first ≤ i → i < first + count → (x : List ℕ) × (f i ≡ Some x)
unfolding leading
run_some f first zero e i le lt = absurd (omega arith)
run_some f first (suc count) e i le lt =
    let h = before-some (f first) (leading f (suc first) count) count (leading-length f (suc first) count) e in
    elim (cases_lt first i) [
      | inl later ↦ run_some f (suc first) count h.2 i (omega arith) (omega arith)
      | inr here ↦ let same : first ≡ i = omega arith in subst (λ k. (x : List ℕ) × (f k ≡ Some x)) same (h.0, h.1)
    ]

given : Option (List ℕ) → List ℕ
given None = []
given (Some x) = x

given_some : (o : Option (List ℕ)) (x : List ℕ) → o ≡ Some x → o ≡ Some (given o)
unfolding given
given_some None x e = absurd cc
given_some (Some y) x e = refl

-- the bytes that a piece opens
part_opens : (key : SegmentCipher) (bytes p : List ℕ) (i : ℕ) (last : Bool) → piece_opens key bytes i last ≡ Some p → key.opens (take key.header bytes) i last (behind_header key.header i (piece key.size bytes i)) ≡ Some p
unfolding piece_opens
part_opens key bytes p i last e = by_test (has_header key bytes && nat_lt i most_segments) e
  where
    by_test : (b : Bool) → (if b then key.opens (take key.header bytes) i last (behind_header key.header i (piece key.size bytes i)) else None) ≡ Some p → key.opens (take key.header bytes) i last (behind_header key.header i (piece key.size bytes i)) ≡ Some p
    by_test true h = h
    by_test false h = absurd cc

-- every piece has opened
record Whole (key : SegmentCipher) (bytes plain : List ℕ) : Type 0 where
  is : IsCipher key
  opens : (i : ℕ) → i ≤ followed key.size bytes → opens_at key bytes i ≡ Some (given (opens_at key bytes i))
  joins : joined (λ i. given (opens_at key bytes i)) 0 (followed key.size bytes + 1) ≡ plain
  header : key.header ≤ length bytes

plain_at : SegmentCipher → List ℕ → ℕ → List ℕ
plain_at key bytes i = given (opens_at key bytes i)

-- with the header, a piece is a tag longer than its plaintext
piece-longer : (key : SegmentCipher) (bytes plain : List ℕ) (h : Whole key bytes plain) (i : ℕ) → i ≤ followed key.size bytes → length (piece key.size bytes i) ≡ length (headed (take key.header bytes) (plain_at key bytes) i) + key.tag
unfolding headed plain_at
piece-longer key bytes plain h zero le =
    let o = part_opens key bytes (plain_at key bytes 0) 0 _ (h.opens 0 le) in
    let s = h.is.shortens (take key.header bytes) 0 _ (drop key.header (piece key.size bytes 0)) (plain_at key bytes 0) o in
    let first : 0 * key.size ≡ 0 = omega arith in
    let size : length (piece key.size bytes 0) ≡ length (take key.size bytes) = ap (λ n. length (take key.size (drop n bytes))) first in
    omega (arith, s, size, length-take key.size bytes, length-drop key.header (piece key.size bytes 0), length-append (take key.header bytes) (plain_at key bytes 0), length-take-le key.header bytes h.header, h.header, h.is.room)
piece-longer key bytes plain h (suc i) le =
    h.is.shortens (take key.header bytes) (suc i) _ (piece key.size bytes (suc i)) (plain_at key bytes (suc i)) (part_opens key bytes (plain_at key bytes (suc i)) (suc i) _ (h.opens (suc i) le))

-- header and plaintext, which are the pieces without their tags
whole_of : (key : SegmentCipher) (bytes plain : List ℕ) (h : Whole key bytes plain) → joined (headed (take key.header bytes) (plain_at key bytes)) 0 (followed key.size bytes + 1) ≡ take key.header bytes ++ plain
unfolding plain_at
whole_of key bytes plain h = sym (joined-headed (take key.header bytes) (plain_at key bytes) (followed key.size bytes)) ∙ ap (λ (l : List ℕ). take key.header bytes ++ l) h.joins

full_piece : (key : SegmentCipher) (bytes plain : List ℕ) (h : Whole key bytes plain) (i : ℕ) → i < followed key.size bytes → length (headed (take key.header bytes) (plain_at key bytes) i) ≡ plain_size key
full_piece key bytes plain h i lt =
    let some : 0 < key.size = omega (arith, h.is.some, h.is.room) in
    let ends = followed-ends key.size bytes i some lt in
    omega (arith, piece-longer key bytes plain h i (omega arith), length-take key.size (drop (i * key.size) bytes), length-drop (i * key.size) bytes, ends, h.is.room)

bytes_long : (key : SegmentCipher) (bytes plain : List ℕ) (h : Whole key bytes plain) → length bytes ≡ key.header + length plain + (followed key.size bytes + 1) * key.tag
bytes_long key bytes plain h =
    let some : 0 < key.size = omega (arith, h.is.some, h.is.room) in
    let all = pieces-all key.size bytes some in
    let first : 0 * key.size ≡ 0 = omega arith in
    let cut : joined (piece key.size bytes) 0 (followed key.size bytes + 1) ≡ bytes = sym ((leading-joined (λ i. Some (piece key.size bytes i)) (piece key.size bytes) 0 (followed key.size bytes + 1) (λ i a b. refl)).1) ∙ all.0 in
    let l = joined-length (piece key.size bytes) (headed (take key.header bytes) (plain_at key bytes)) key.tag 0 (followed key.size bytes + 1) (λ i a b. piece-longer key bytes plain h i (omega arith)) in
    omega (arith, l, ap length cut, ap length (whole_of key bytes plain h), length-append (take key.header bytes) plain, length-take-le key.header bytes h.header)

-- the pieces from one on hold the plaintext from its start on
from_piece : (key : SegmentCipher) (bytes plain : List ℕ) (h : Whole key bytes plain) (first n : ℕ) → first + suc n ≡ followed key.size bytes + 1 → drop (first * plain_size key) (take key.header bytes ++ plain) ≡ joined (headed (take key.header bytes) (plain_at key bytes)) first (suc n)
from_piece key bytes plain h first n e =
    let place : 0 + first ≡ first = omega arith in
    ap (drop (first * plain_size key)) (sym (whole_of key bytes plain h) ∙ ap (joined (headed (take key.header bytes) (plain_at key bytes)) 0) (sym e))
    ∙ joined-drop (plain_size key) (headed (take key.header bytes) (plain_at key bytes)) 0 first (suc n) (λ i a b. full_piece key bytes plain h i (omega arith))
    ∙ ap (λ k. joined (headed (take key.header bytes) (plain_at key bytes)) k (suc n)) place

joined-split : (c : ℕ → List ℕ) (first a b : ℕ) → joined c first (a + b) ≡ joined c first a ++ joined c (first + a) b
unfolding joined
joined-split c first zero b =
    let e : 0 + b ≡ b = omega arith in let k : first ≡ first + 0 = omega arith in ap (joined c first) e ∙ ap (λ n. joined c n b) k
joined-split c first (suc a) b =
    let e : suc a + b ≡ suc (a + b) = omega arith in let k : suc first + a ≡ first + suc a = omega arith in
    ap (joined c first) e ∙ ap (λ (l : List ℕ). c first ++ l) (joined-split c (suc first) a b ∙ ap (λ n. joined c (suc first) a ++ joined c n b) k) ∙ sym (append_assoc (c first) (joined c (suc first) a) (joined c (first + suc a) b))

full_length : (c : ℕ → List ℕ) (size first count : ℕ) → ((i : ℕ) → first ≤ i → i < first + count → length (c i) ≡ size) → length (joined c first count) ≡ count * size
unfolding joined
full_length c size first zero full = omega arith
full_length c size first (suc count) full =
    let here = full first (omega arith) (omega arith) in
    let rest = full_length c size (suc first) count (λ i h k. full i (omega arith) (omega arith)) in
    omega (arith, here, rest, length-append (c first) (joined c (suc first) count))

-- a part of a list, from its front
part_in : (x n : ℕ) (front rest : List ℕ) → x + n ≤ length front → take n (drop x (front ++ rest)) ≡ take n (drop x front)
part_in x n front rest le = ap (take n) (drop-append-le x front rest (omega arith)) ∙ take-append-le n (drop x front) rest (omega (arith, length-drop x front))

-- the same place in the plaintexts of these pieces, without the header
part_at : (header : List ℕ) (c : ℕ → List ℕ) (size from first n : ℕ) → length header < size → first * size ≤ from + length header
    → drop (from + length header - first * size) (joined (headed header c) first (suc n)) ≡ drop (from - (first * size - length header)) (joined c first (suc n))
part_at header c size from zero n room le =
    let one : suc n ≡ n + 1 = omega arith in
    let x : from + length header - 0 * size ≡ length header + from = omega arith in
    let y : from - (0 * size - length header) ≡ from = omega arith in
    ap (λ k. drop k (joined (headed header c) 0 (suc n))) x
    ∙ ap (drop (length header + from)) (ap (joined (headed header c) 0) one ∙ sym (joined-headed header c n) ∙ ap (λ k. header ++ joined c 0 k) (sym one))
    ∙ sym (drop-drop from (length header) (header ++ joined c 0 (suc n)))
    ∙ ap (drop from) (drop_at header (joined c 0 (suc n)) (length header) refl)
    ∙ ap (λ k. drop k (joined c 0 (suc n))) (sym y)
part_at header c size from (suc first) n room le =
    let a = rows_le 1 (suc first) size (omega arith) in
    let x : from + length header - suc first * size ≡ from - (suc first * size - length header) = omega (arith, a) in
    ap (λ k. drop k (joined (headed header c) (suc first) (suc n))) x
    ∙ ap (drop (from - (suc first * size - length header))) (joined-same (headed header c) c (suc first) (suc n) (λ i h k. headed-later header c i (omega arith)))

rows_sum : (a b c n : ℕ) → a + b ≡ c → a * n + b * n ≡ c * n
rows_sum a b c n e = let both : a * n + b * n ≡ (a + b) * n = omega arith in both ∙ ap (λ k. k * n) e

-- the range in the pieces from first to last
slice_is : (key : SegmentCipher) (bytes plain : List ℕ) (h : Whole key bytes plain) (from to first last : ℕ) → from < to → to ≤ length plain → first ≤ last → last ≤ followed key.size bytes
    → first * plain_size key ≤ from + key.header → to + key.header ≤ (last + 1) * plain_size key
    → take (to - from) (drop (from - (first * plain_size key - key.header)) (joined (plain_at key bytes) first (suc (last - first)))) ≡ take (to - from) (drop from plain)
slice_is key bytes plain h from to first last some within order final low high =
    let hd = take key.header bytes in
    let size : length hd ≡ key.header = length-take-le key.header bytes h.header in
    let n = last - first in
    let j = joined (headed hd (plain_at key bytes)) first (suc n) in
    let others = followed key.size bytes - last in
    let rest = joined (headed hd (plain_at key bytes)) (first + suc n) others in
    let x = from + key.header - first * plain_size key in
    let split : drop (first * plain_size key) (hd ++ plain) ≡ j ++ rest = from_piece key bytes plain h first (n + others) (omega arith) ∙ ap (joined (headed hd (plain_at key bytes)) first) (count_is n others) ∙ joined-split (headed hd (plain_at key bytes)) first (suc n) others in
    let all : length (j ++ rest) ≡ length (hd ++ plain) - first * plain_size key = ap length (sym split) ∙ length-drop (first * plain_size key) (hd ++ plain) in
    let long : to + key.header ≤ first * plain_size key + length j = by_last (cases_lt last (followed key.size bytes)) in
    let there : x + (to - from) ≤ length j = omega (arith, long, low) in
    let e : first * plain_size key + x ≡ key.header + from = omega (arith, low) in
    let behind : drop from plain ≡ drop x (j ++ rest) = ap (drop from) (sym (drop_at hd plain key.header size)) ∙ drop-drop from key.header (hd ++ plain) ∙ ap (λ k. drop k (hd ++ plain)) (sym e) ∙ sym (drop-drop x (first * plain_size key) (hd ++ plain)) ∙ ap (drop x) split in
    let place = part_at hd (plain_at key bytes) (plain_size key) from first n (omega (arith, size, h.is.room)) (omega (arith, size, low)) in
    sym (ap (take (to - from)) behind ∙ part_in x (to - from) j rest there
    ∙ ap (take (to - from)) (ap (λ k. drop (from + k - first * plain_size key) j) (sym size) ∙ place ∙ ap (λ k. drop (from - (first * plain_size key - k)) (joined (plain_at key bytes) first (suc n))) size))
  where
    count_is : (n m : ℕ) → suc (n + m) ≡ suc n + m
    count_is n m = omega arith

    by_last : (last < followed key.size bytes) ⊎ (followed key.size bytes ≤ last) → to + key.header ≤ first * plain_size key + length (joined (headed (take key.header bytes) (plain_at key bytes)) first (suc (last - first)))
    by_last (inl lt) =
        let full = full_length (headed (take key.header bytes) (plain_at key bytes)) (plain_size key) first (suc (last - first)) (λ i a b. full_piece key bytes plain h i (omega arith)) in
        let sum : first * plain_size key + suc (last - first) * plain_size key ≡ (last + 1) * plain_size key = rows_sum first (suc (last - first)) (last + 1) (plain_size key) (omega arith) in
        omega (arith, full, sum, high)
    by_last (inr ge) =
        let rest = from_piece key bytes plain h first (last - first) (omega (arith, ge, final, order)) in
        omega (arith, ap length rest, length-drop (first * plain_size key) (take key.header bytes ++ plain), length-append (take key.header bytes) plain, length-take-le key.header bytes h.header, within, low)

slice_plain : (key : SegmentCipher) (bytes plain : List ℕ) (h : Whole key bytes plain) (from to first last : ℕ) → from < to → to ≤ length plain → first ≤ last → last ≤ followed key.size bytes
    → first * plain_size key ≤ from + key.header → to + key.header ≤ (last + 1) * plain_size key
    → take (to - from) (drop (from - (first * plain_size key - key.header)) (joined (λ i. given (opens_at key bytes i)) first (suc (last - first)))) ≡ take (to - from) (drop from plain)
unfolding plain_at
slice_plain key bytes plain h from to first last some within order final low high = slice_is key bytes plain h from to first last some within order final low high

never_waits : (keys : List SegmentCipher) (bytes : List ℕ) → choose keys bytes true ≡ undecided → ⊥
never_waits [] bytes e = absurd cc
never_waits (key ∷ keys) bytes e = by_fit (fits key bytes) (never_waits keys bytes) e
  where
    by_fit : (f : Bool) → (choose keys bytes true ≡ undecided → ⊥) → (if f then chosen key else choose keys bytes true) ≡ undecided → ⊥
    by_fit true later h = absurd cc
    by_fit false later h = later h

none_refused : (f s n : ℕ) → refusal_of f s n ≡ None → s ≤ n
none_refused f s n e = elim (cases_lt n s) [
  | inl lt ↦ let t : nat_lt n s ≡ true = grind (arith, nat_tests) in absurd (by_many (nat_le most_segments f && nat_le most_segments (n + 1)) (nat_lt n s) t e)
  | inr le ↦ le
]
  where
    by_many : (a b : Bool) → b ≡ true → (if a then Some too_many else (if b then Some (failed n) else None)) ≡ None → ⊥
    by_many true b t h = absurd cc
    by_many false true t h = absurd cc
    by_many false false t h = absurd cc

-- a stream that opens to its end
whole_from : (key : SegmentCipher) (bytes plain : List ℕ) → IsCipher key → decides_by (chosen key) bytes true ≡ None → released_by (chosen key) bytes true ≡ plain → Whole key bytes plain
whole_from key bytes plain is d r =
    let most = leading-length (opens_at key bytes) 0 (settled key.size bytes true) in
    let least = none_refused (followed key.size bytes) (settled key.size bytes true) (length (opened key bytes true)) d in
    let opens : (i : ℕ) → i ≤ followed key.size bytes → opens_at key bytes i ≡ Some (given (opens_at key bytes i)) = λ i le. let x = run_some (opens_at key bytes) 0 (settled key.size bytes true) (omega (arith, most, least)) i (omega arith) (omega arith) in given_some (opens_at key bytes i) x.0 x.1 in
    record {
      is = is;
      opens = opens;
      joins = sym ((leading-joined (opens_at key bytes) (λ i. given (opens_at key bytes i)) 0 (followed key.size bytes + 1) (λ i a b. opens i (omega arith))).1) ∙ r;
      header = long_header key bytes (opens_has key bytes _ 0 _ (opens 0 (omega arith)));
    }

is_less : (a b : ℕ) → a < b → nat_lt a b ≡ true
is_less a b h = grind (arith, nat_tests)

not_less : (a b : ℕ) → b ≤ a → nat_lt a b ≡ false
not_less a b h = grind (arith, nat_tests)

-- the slice, where the range is within the plaintext
range_within : (key : SegmentCipher) (bytes plain : List ℕ) (h : Whole key bytes plain) (from to : ℕ) → from ≤ to → to ≤ length plain → cut_range key from to (leading (opens_at key bytes) (piece_of key from) (covering key from to)) ≡ Ok (take (to - from) (drop from plain))
range_within key bytes plain h from to order within = elim (cases_lt from to) [
  | inl some ↦
      let w = plain_size key in
      let wide : 0 < w = omega (arith, h.is.some, h.is.room) in
      let first = piece_of key from in
      let last = piece_of key (to - 1) in
      let low = quotient_le (from + key.header) w in
      let ordered : first ≤ last = le-div first (to - 1 + key.header) w wide (omega (arith, low, some)) in
      let same : to - 1 + key.header ≡ to + key.header - 1 = omega arith in
      let high : to + key.header ≤ (last + 1) * w = subst (λ k. to + key.header ≤ (k / w + 1) * w) (sym same) (ends_within w (to + key.header) wide) in
      let under = quotient_le (to - 1 + key.header) w in
      let ends = (pieces-all key.size bytes (omega (arith, h.is.some, h.is.room))).1 in
      let size : key.size ≡ w + key.tag = omega (arith, h.is.room) in
      let rows : (followed key.size bytes + 1) * key.size ≡ (followed key.size bytes + 1) * w + (followed key.size bytes + 1) * key.tag = ap (λ k. (followed key.size bytes + 1) * k) size ∙ times_sum (followed key.size bytes + 1) w key.tag in
      let final : last ≤ followed key.size bytes = by_final (cases_lt (followed key.size bytes) last) w under ends rows some in
      let count : covering key from to ≡ suc (last - first) = ap (λ (b : Bool). if b then 0 else last + 1 - first) (not_same from to some) ∙ one_less first last ordered in
      let run = leading-joined (opens_at key bytes) (λ i. given (opens_at key bytes i)) first (suc (last - first)) (λ i a b. h.opens i (omega (arith, final, ordered))) in
      let full : nat_lt (length (leading (opens_at key bytes) first (suc (last - first)))) (suc (last - first)) ≡ false = not_less _ _ (omega (arith, run.0)) in
      ap (λ n. if nat_lt (length (leading (opens_at key bytes) first n)) n then Err (stream_failed (first + length (leading (opens_at key bytes) first n))) else Ok (take (to - from) (drop (from - plain_start key first) (concat (leading (opens_at key bytes) first n))))) count
      ∙ ap (λ (b : Bool). if b then Err (stream_failed (first + length (leading (opens_at key bytes) first (suc (last - first))))) else Ok (take (to - from) (drop (from - plain_start key first) (concat (leading (opens_at key bytes) first (suc (last - first))))))) full
      ∙ ap Ok (ap (λ (l : List ℕ). take (to - from) (drop (from - plain_start key first) l)) run.1 ∙ pieces_slice first last some ordered final low high)
  | inr none ↦
      let same : from ≡ to = omega arith in
      let zero_long : to - from ≡ 0 = omega arith in
      let empty : covering key from to ≡ 0 = ap (λ (b : Bool). if b then 0 else piece_of key (to - 1) + 1 - piece_of key from) (is_same from to same) in
      ap (λ n. if nat_lt (length (leading (opens_at key bytes) (piece_of key from) n)) n then Err (stream_failed (piece_of key from + length (leading (opens_at key bytes) (piece_of key from) n))) else Ok (take (to - from) (drop (from - plain_start key (piece_of key from)) (concat (leading (opens_at key bytes) (piece_of key from) n))))) empty
      ∙ ap (λ (b : Bool). if b then Err (stream_failed (piece_of key from + length (leading (opens_at key bytes) (piece_of key from) 0))) else Ok (take (to - from) (drop (from - plain_start key (piece_of key from)) (concat (leading (opens_at key bytes) (piece_of key from) 0))))) (not_less (length (leading (opens_at key bytes) (piece_of key from) 0)) 0 (omega arith))
      ∙ ap Ok (ap (λ n. take n (drop (from - plain_start key (piece_of key from)) (concat (leading (opens_at key bytes) (piece_of key from) 0)))) zero_long ∙ ap (λ n. take n (drop from plain)) (sym zero_long))
]
  where
    not_same : (a b : ℕ) → a < b → (a == b) ≡ false
    not_same a b lt = grind (arith, nat_tests)

    is_same : (a b : ℕ) → a ≡ b → (a == b) ≡ true
    is_same a b e = grind (arith, nat_tests)

    one_less : (a b : ℕ) → a ≤ b → b + 1 - a ≡ suc (b - a)
    one_less a b le = omega arith

    times_sum : (a b c : ℕ) → a * (b + c) ≡ a * b + a * c
    times_sum a b c = omega arith

    by_final : (followed key.size bytes < piece_of key (to - 1)) ⊎ (piece_of key (to - 1) ≤ followed key.size bytes) → (w : ℕ) → piece_of key (to - 1) * w ≤ to - 1 + key.header → length bytes ≤ (followed key.size bytes + 1) * key.size
        → (followed key.size bytes + 1) * key.size ≡ (followed key.size bytes + 1) * w + (followed key.size bytes + 1) * key.tag → from < to → piece_of key (to - 1) ≤ followed key.size bytes
    by_final (inl gt) w under ends rows some = let r = rows_le (followed key.size bytes + 1) (piece_of key (to - 1)) w (omega arith) in absurd (omega (arith, r, under, ends, rows, bytes_long key bytes plain h, within, some))
    by_final (inr le) w under ends rows some = le

    pieces_slice : (first last : ℕ) → from < to → first ≤ last → last ≤ followed key.size bytes → first * plain_size key ≤ from + key.header → to + key.header ≤ (last + 1) * plain_size key
        → take (to - from) (drop (from - (first * plain_size key - key.header)) (joined (λ i. given (opens_at key bytes i)) first (suc (last - first)))) ≡ take (to - from) (drop from plain)
    pieces_slice first last some ordered final low high = slice_plain key bytes plain h from to first last some within ordered final low high

pub range-slice : (keys : List SegmentCipher) (bytes plain : List ℕ) (from to : ℕ) → All IsCipher keys → stream_answer keys bytes ≡ (plain, None) → from ≤ to
    → range_of keys bytes from to ≡ (if nat_lt (length plain) to then Err past_end else Ok (take (to - from) (drop from plain)))
range-slice keys bytes plain from to all e order =
    by_choice (choose keys bytes true) refl (ap (λ (p : List ℕ × Option StreamRefusal). p.0) e) (ap (λ (p : List ℕ × Option StreamRefusal). p.1) e)
  where
    by_key : (key : SegmentCipher) → Whole key bytes plain → range_under key bytes from to ≡ (if nat_lt (length plain) to then Err past_end else Ok (take (to - from) (drop from plain)))
    by_key key h =
        let final : is_some (opens_at key bytes (followed key.size bytes)) ≡ true = ap is_some (h.opens (followed key.size bytes) (omega arith)) in
        let size : plain_length key bytes ≡ length plain = omega (arith, bytes_long key bytes plain h) in
        ap (λ (b : Bool). if b then (if nat_lt (plain_length key bytes) to then Err past_end else cut_range key from to (leading (opens_at key bytes) (piece_of key from) (covering key from to))) else Err (stream_failed (followed key.size bytes))) final
        ∙ ap (λ n. if nat_lt n to then Err past_end else cut_range key from to (leading (opens_at key bytes) (piece_of key from) (covering key from to))) size
        ∙ elim (cases_lt (length plain) to) [
          | inl past ↦ let t = is_less (length plain) to past in
              ap (λ (b : Bool). if b then Err past_end else cut_range key from to (leading (opens_at key bytes) (piece_of key from) (covering key from to))) t ∙ sym (ap (λ (b : Bool). if b then Err past_end else Ok (take (to - from) (drop from plain))) t)
          | inr within ↦ ap (λ (r : Result (List ℕ) RangeRefusal). if nat_lt (length plain) to then Err past_end else r) (range_within key bytes plain h from to order within)
        ]

    by_choice : (c : Choice) → choose keys bytes true ≡ c → released_by (choose keys bytes true) bytes true ≡ plain → decides_by (choose keys bytes true) bytes true ≡ None
        → range_by (choose keys bytes true) bytes from to ≡ (if nat_lt (length plain) to then Err past_end else Ok (take (to - from) (drop from plain)))
    by_choice undecided c r d = absurd (never_waits keys bytes c)
    by_choice no_key c r d = let h : Some (failed 0) ≡ None = sym (ap (λ (x : Choice). decides_by x bytes true) c) ∙ d in absurd cc
    by_choice (chosen key) c r d =
        ap (λ (x : Choice). range_by x bytes from to) c
        ∙ by_key key (whole_from key bytes plain (chosen-is keys bytes true key all c) (sym (ap (λ (x : Choice). decides_by x bytes true) c) ∙ d) (sym (ap (λ (x : Choice). released_by x bytes true) c) ∙ r))
