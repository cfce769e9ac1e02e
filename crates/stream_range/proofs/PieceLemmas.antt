-- A piece that lies in a buffer, as it was read.
use Rattle.std.proofs.Common.{◌≡◌, ℕ, zero, suc, ◌+◌, ◌-◌, ◌*◌, ◌/◌, ◌<◌, ◌≤◌, ◌^◌, min, List, ◌++◌, length, take, drop, refl, sym, ◌∙◌, ap, arith, inl, inr}
use Rattle.std.specs.Prelude.{Bool, true, ◌==◌, ◌&&◌, nat_lt, Option, Some, None, IfSome, IfOk, Result, Ok, Err, if◌then◌else◌}
use Rattle.std.proofs.lemmas.Bool.{cases_lt}
use Rattle.std.proofs.lemmas.Bool.Decides.{nat_tests}
use Rattle.std.proofs.lemmas.List.{length-append, length-take-le, length-drop, drop-drop, take_all, take-append-le, drop-append-le}
use Rattle.std.proofs.Math.Seq.{take-add}
use borrow.Rule.Slice.PartMut.{put_mid}
use Rattle.segment_stream.specs.Cipher.{SegmentCipher, most_segments, behind_header}
use Rattle.segment_stream.specs.Opening.{has_header, opens_at, piece_opens}
use Rattle.segment_stream.specs.Pieces.{followed, piece}
use Rattle.segment_stream.specs.Segments.{opens_under}
use Rattle.segment_stream.proofs.Buffers.{put_front}
use Rattle.segment_stream.proofs.OpeningLemmas.{opens_at-past}
use Rattle.stream_range.specs.Skipped.{skipped}
use Rattle.stream_range.specs.Reading.{Begins, IsPiece}
use Rattle.stream_range.specs.declared.piece.PieceFault.{PieceFault}
use Rattle.stream_range.specs.declared.piece.PieceFault.TheVariants as faults
use Rattle.stream_range.specs.declared.sizes.Begun.{Begun}

-- bytes that were read behind others
pub reads_on : (bytes : Option (List ℕ)) (at done n : ℕ) (out new : List ℕ) → done ≤ length out → n ≤ length new
    → IfSome bytes (λ b. take (length (take n new)) (drop (at + done) b) ≡ take n new)
    → IfSome bytes (λ b. take (length (take done out)) (drop at b) ≡ take done out)
    → IfSome bytes (λ b. take (length (take (done + n) (put_mid done (length out - done) out new))) (drop at b) ≡ take (done + n) (put_mid done (length out - done) out new))
reads_on None at done n out new fits le more first = tt
reads_on (Some b) at done n out new fits le more first =
    let whole = put_front done (length out - done) n out new le fits in
    let front : length (take done out) ≡ done = length-take-le done out fits in
    let back : length (take n new) ≡ n = length-take-le n new le in
    let long : length (take done out ++ take n new) ≡ done + n = omega (arith, length-append (take done out) (take n new), front, back) in
    let here : take done (drop at b) ≡ take done out = ap (λ k. take k (drop at b)) (sym front) ∙ first in
    let there : take n (drop done (drop at b)) ≡ take n new = ap (take n) (drop-drop done at b) ∙ ap (λ k. take k (drop (at + done) b)) (sym back) ∙ more in
    ap (λ (l : List ℕ). take (length l) (drop at b)) whole
    ∙ ap (λ k. take k (drop at b)) long
    ∙ take-add done n (drop at b)
    ∙ ap (λ (l : List ℕ). l ++ take n (drop done (drop at b))) here
    ∙ ap (λ (l : List ℕ). take done out ++ l) there
    ∙ sym whole

take_short : (size len : ℕ) (rest : List ℕ) → len ≡ min size (length rest) → take size rest ≡ take len rest
take_short size len rest e = elim (cases_lt (length rest) size) [
  | inl short ↦ take_all size rest (omega arith) ∙ sym (take_all len rest (omega arith))
  | inr long ↦ let same : size ≡ len = omega arith in ap (λ n. take n rest) same
]

behind_is : (header i : ℕ) (part : List ℕ) → behind_header header i part ≡ drop (skipped header i) part
behind_is header zero part = refl
behind_is header (suc i) part = refl

-- what a piece opens to, of its bytes
pub piece_is : (key : SegmentCipher) (bytes part : List ℕ) (i len : ℕ) (last : Bool) → has_header key bytes ≡ true → i < most_segments
    → len ≡ min key.size (length bytes - i * key.size) → part ≡ take len (drop (i * key.size) bytes)
    → piece_opens key bytes i last ≡ key.opens (take key.header bytes) i last (drop (skipped key.header i) part)
unfolding piece_opens
piece_is key bytes part i len last has below e is =
    let small : nat_lt i most_segments ≡ true = grind (arith, nat_tests) in
    let cut : piece key.size bytes i ≡ part = take_short key.size len (drop (i * key.size) bytes) (omega (arith, e, length-drop (i * key.size) bytes)) ∙ sym is in
    ap (λ (b : Bool). if b && nat_lt i most_segments then key.opens (take key.header bytes) i last (behind_header key.header i (piece key.size bytes i)) else None) has
    ∙ ap (λ (b : Bool). if b then key.opens (take key.header bytes) i last (behind_header key.header i (piece key.size bytes i)) else None) small
    ∙ ap (λ (l : List ℕ). key.opens (take key.header bytes) i last l) (ap (behind_header key.header i) cut ∙ behind_is key.header i part)

-- the same under the keys of the stream that was begun
pub begun_opens : (begun : Begun) (key : SegmentCipher) (bytes part : List ℕ) (i len : ℕ) (last : Bool) → Begins begun key bytes → i < 2 ^ 32
    → len ≡ min begun.sizes.segment (length bytes - i * begun.sizes.segment) → part ≡ take len (drop (i * begun.sizes.segment) bytes)
    → piece_opens key bytes i last ≡ opens_under begun.stream.keys begun.stream.prefix i last (drop (skipped begun.sizes.header i) part)
begun_opens begun key bytes part i len last b below e is =
    let s = b.sizes.segment in
    piece_is key bytes part i len last b.has below
    (e ∙ ap (λ n. min n (length bytes - i * n)) s)
    (is ∙ ap (λ n. take len (drop (i * n) bytes)) s)
    ∙ ap (λ n. key.opens (take key.header bytes) i last (drop (skipped n i) part)) (sym b.sizes.header)
    ∙ sym (b.under.opens i last (drop (skipped begun.sizes.header i) part))

in_front : (from n : ℕ) (after rest : List ℕ) → from + n ≤ length after → take n (drop from (after ++ rest)) ≡ take n (drop from after)
in_front from n after rest le =
    ap (take n) (drop-append-le from after rest (omega arith))
    ∙ take-append-le n (drop from after) rest (omega (arith, length-drop from after))

by_result : (result : Result (ℕ × ℕ) PieceFault) (after rest : List ℕ) (number : ℕ) (a b : Option (List ℕ)) → a ≡ b → IfOk result (λ place. place.0 + place.1 ≤ length after) → IsPiece result after number b → IsPiece result (after ++ rest) number a
by_result (Ok place) after rest number a b e le h = e ∙ h ∙ ap (λ (l : List ℕ). Some l) (sym (in_front place.0 place.1 after rest le))
by_result (Err (faults.StreamFailed n)) after rest number a b e le h = (h.0, e ∙ h.1)
by_result (Err faults.ReadFault) after rest number a b e le h = tt

-- the piece that was read into the front of the buffer
pub piece_opened : (result : Result (ℕ × ℕ) PieceFault) (begun : Begun) (key : SegmentCipher) (bytes part after rest : List ℕ) (number len final size : ℕ) → Begins begun key bytes → length bytes ≡ size → number < 2 ^ 32
    → len ≡ min begun.sizes.segment (size - number * begun.sizes.segment) → final ≡ (size - 1) / begun.sizes.segment
    → length part ≡ len → take (length part) (drop (number * begun.sizes.segment) bytes) ≡ part → IfOk result (λ place. place.0 + place.1 ≤ length after)
    → IsPiece result after number (opens_under begun.stream.keys begun.stream.prefix number (number == final) (drop (skipped begun.sizes.header number) part))
    → IsPiece result (after ++ rest) number (opens_at key bytes number)
piece_opened result begun key bytes part after rest number len final size b long below e f p is le h =
    let last : (number == followed key.size bytes) ≡ (number == final) = ap (λ n. number == n) (ap (λ n. (n - 1) / key.size) long ∙ ap (λ n. (size - 1) / n) (sym b.sizes.segment) ∙ sym f) in
    by_result result after rest number _ _
    (ap (piece_opens key bytes number) last
    ∙ begun_opens begun key bytes part number len (number == final) b below (e ∙ ap (λ n. min begun.sizes.segment (n - number * begun.sizes.segment)) (sym long)) (sym is ∙ ap (λ n. take n (drop (number * begun.sizes.segment) bytes)) p))
    le h

-- a number from 2^32 on opens nothing
pub past_opens : (key : SegmentCipher) (bytes : List ℕ) (number : ℕ) → 2 ^ 32 ≤ number → opens_at key bytes number ≡ None
past_opens key bytes number le = opens_at-past key bytes number le
