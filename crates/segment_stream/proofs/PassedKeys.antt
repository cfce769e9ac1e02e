-- Pieces, joined, and keys that are passed.
use Rattle.std.proofs.Common.{◌≡◌, ℕ, suc, ◌+◌, ◌-◌, ◌*◌, ◌<◌, ◌≤◌, List, [], ◌∷◌, ◌++◌, length, take, drop, refl, ◌∙◌, ap, arith}
use Rattle.std.specs.Prelude.{Bool, true, false, Some, if◌then◌else◌, All}
use Rattle.std.specs.List.{concat}
use Rattle.std.proofs.lemmas.List.{take_all}
use Rattle.segment_stream.specs.Pieces.{piece, followed, leading}
use Rattle.segment_stream.specs.Cipher.{SegmentCipher}
use Rattle.segment_stream.specs.Opening.{choose, chosen, undecided, is_decided, fits}
use Rattle.segment_stream.proofs.Runs.{leading-joined}
use Rattle.segment_stream.proofs.Joins.{joined-pieces}
use Rattle.segment_stream.proofs.Places.{quotient_le}
use Rattle.segment_stream.proofs.SealingLemmas.{ends_within}

pub pieces-all : (size : ℕ) (bytes : List ℕ) → 0 < size
    → (concat (leading (λ i. Some (piece size bytes i)) 0 (followed size bytes + 1)) ≡ bytes)
    × (length bytes ≤ (followed size bytes + 1) * size) × (0 < length bytes → followed size bytes * size < length bytes)
pieces-all size bytes some =
    let all = ends_within size (length bytes) some in
    let low = quotient_le (length bytes - 1) size in
    let zero_at : 0 * size ≡ 0 = omega arith in (
      (leading-joined (λ i. Some (piece size bytes i)) (piece size bytes) 0 (followed size bytes + 1) (λ i h k. refl)).1
          ∙ joined-pieces size bytes 0 (followed size bytes + 1) ∙ ap (λ n. take ((followed size bytes + 1) * size) (drop n bytes)) zero_at ∙ take_all ((followed size bytes + 1) * size) bytes all,
      all,
      λ h. omega (arith, low),
    )

pub trials : (front keys : List SegmentCipher) (taken : List ℕ) (ended : Bool) → All (λ key. (is_decided key taken ended ≡ true) × (fits key taken ≡ false)) front → choose (front ++ keys) taken ended ≡ choose keys taken ended
trials [] keys taken ended all = refl
trials (key ∷ front) keys taken ended all =
    let h = all 0 key (omega arith) in
    ap (λ (b : Bool). if b then (if fits key taken then chosen key else choose (front ++ keys) taken ended) else undecided) h.0
    ∙ ap (λ (b : Bool). if b then chosen key else choose (front ++ keys) taken ended) h.1
    ∙ trials front keys taken ended (λ k d l. all (suc k) d (omega arith))
