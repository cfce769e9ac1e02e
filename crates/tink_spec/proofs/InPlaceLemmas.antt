-- Ranges of bytes behind a front, and what stands round them.
use Rattle.std.proofs.Common.{◌≡◌, ℕ, suc, zero-add, ◌+◌, ◌-◌, ◌≤◌, List, [], ◌∷◌, ◌++◌, length, take, drop, ap, sym, subst, ◌∙◌, arith}
use Rattle.std.proofs.Math.Seq.{drop-append-add}
use Rattle.std.proofs.lemmas.List.{drop-drop, length-take-le, take-append-drop}
use Rattle.std.specs.Prelude.{slice_range}

-- a range behind a front is the one that is counted from behind it
pub range_behind : (front rest : List ℕ) (from to : ℕ)
    → slice_range (front ++ rest) (length front + from) (length front + to) ≡ slice_range rest from to
range_behind front rest from to =
    let size : (length front + to) - (length front + from) ≡ to - from = omega arith in
    ap (λ (n : ℕ). take n (drop (length front + from) (front ++ rest))) size
    ∙ ap (λ (l : List ℕ). take (to - from) l) (drop-append-add front rest from)

take-append-add : (front rest : List ℕ) (n : ℕ) → take (length front + n) (front ++ rest) ≡ front ++ take n rest
take-append-add [] rest n = ap (λ (k : ℕ). take k rest) (zero-add n)
take-append-add (x ∷ front) rest n =
    let one_more : length (x ∷ front) + n ≡ suc (length front + n) = omega arith in
    ap (λ (k : ℕ). take k (x ∷ (front ++ rest))) one_more
    ∙ ap (λ (l : List ℕ). x ∷ l) (take-append-add front rest n)

-- what stands before a range behind a front is as before where what stands before it in the rest is
pub before_behind : (size start : ℕ) (old rest : List ℕ) → size ≤ length old → take start rest ≡ take start (drop size old)
    → take (size + start) (take size old ++ rest) ≡ take (size + start) old
before_behind size start old rest fits same =
    let front : length (take size old) ≡ size = length-take-le size old fits in
    let cut : (back : List ℕ) → take (size + start) (take size old ++ back) ≡ take size old ++ take start back
    = λ back. subst (λ (n : ℕ). take (n + start) (take size old ++ back) ≡ take size old ++ take start back) front
    (take-append-add (take size old) back start) in
    cut rest ∙ ap (λ (l : List ℕ). take size old ++ l) same ∙ sym (cut (drop size old))
    ∙ ap (λ (l : List ℕ). take (size + start) l) (take-append-drop size old)

-- and so is what stands behind it
pub after_behind : (size end : ℕ) (old rest : List ℕ) → size ≤ length old → drop end rest ≡ drop end (drop size old)
    → drop (size + end) (take size old ++ rest) ≡ drop (size + end) old
after_behind size end old rest fits same =
    let front : length (take size old) ≡ size = length-take-le size old fits in
    subst (λ (n : ℕ). drop (n + end) (take size old ++ rest) ≡ drop end rest) front
    (drop-append-add (take size old) rest end)
    ∙ same ∙ drop-drop end size old
