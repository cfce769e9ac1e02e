-- Pieces opened one after another.
use Rattle.std.proofs.Common.{◌≡◌, ℕ, suc, ◌+◌, ◌-◌, ◌<◌, List, [], ◌∷◌, ◌++◌, length, take, drop, refl, sym, ◌∙◌, ap, subst, arith, inl, inr, append-nil}
use Rattle.std.specs.Prelude.{Option, Some, None, Err}
use Rattle.std.specs.List.{concat}
use Rattle.std.proofs.lemmas.Bool.{cases_lt}
use Rattle.std.proofs.lemmas.List.{length-append, length-take-le, take_all, drop_all, take-append-le, drop-append-le}
use Rattle.std.proofs.lemmas.List.Folds.{concat-append}
use Rattle.std.proofs.Math.Seq.{take-append-add, drop-append-add}
use Rattle.segment_stream.specs.Pieces.{leading, before}
use Rattle.segment_stream.proofs.Runs.{leading-go}
use Rattle.stream_range.specs.Reading.{IsPiece, IsRun}
use Rattle.stream_range.specs.declared.piece.PieceFault.{PieceFault}
use Rattle.stream_range.specs.declared.piece.PieceFault.TheVariants as faults

-- so many pieces have opened, and of their plaintexts this part is kept
pub record RunSoFar (run : List (List ℕ)) (count skip left most : ℕ) (plain : List ℕ) : Type 0 where
  pub opened : length run ≡ count
  pub is : plain ≡ take most (drop skip (concat run))
  pub rest : left ≡ skip - length (concat run)

take_more : (most : ℕ) (a p : List ℕ) → take most (a ++ p) ≡ take most a ++ take (most - length (take most a)) p
take_more most a p = elim (cases_lt (length a) most) [
  | inl short ↦
      let whole : take most a ≡ a = take_all most a (omega arith) in
      let sum : most ≡ length a + (most - length a) = omega arith in
      ap (λ n. take n (a ++ p)) sum ∙ take-append-add a p (most - length a)
      ∙ ap (λ (l : List ℕ). l ++ take (most - length l) p) (sym whole)
  | inr long ↦
      let none : most - length (take most a) ≡ 0 = omega (arith, length-take-le most a long) in
      take-append-le most a p long ∙ sym (append-nil (take most a)) ∙ ap (λ n. take most a ++ take n p) (sym none)
]

cut_more : (most skip : ℕ) (a p : List ℕ) → take most (drop skip (a ++ p)) ≡ take most (drop skip a) ++ take (most - length (take most (drop skip a))) (drop (skip - length a) p)
cut_more most skip a p = elim (cases_lt (length a) skip) [
  | inl past ↦
      let sum : skip ≡ length a + (skip - length a) = omega arith in
      let none : drop skip a ≡ [] = drop_all skip a (omega arith) in
      ap (λ n. take most (drop n (a ++ p))) sum ∙ ap (take most) (drop-append-add a p (skip - length a))
      ∙ take_more most [] (drop (skip - length a) p)
      ∙ ap (λ (l : List ℕ). take most l ++ take (most - length (take most l)) (drop (skip - length a) p)) (sym none)
  | inr within ↦
      let none : skip - length a ≡ 0 = omega arith in
      ap (take most) (drop-append-le skip a p within) ∙ take_more most (drop skip a) p
      ∙ ap (λ n. take most (drop skip a) ++ take (most - length (take most (drop skip a))) (drop n p)) (sym none)
]

pub run_begins : (f : ℕ → Option (List ℕ)) (first skip most : ℕ) → RunSoFar (leading f first 0) 0 skip skip most []
unfolding leading
run_begins f first skip most = record {
  opened = refl;
  is = sym (ap (take most) (drop_all skip [] (omega arith)) ∙ take_all most [] (omega arith));
  rest = omega arith;
}

one_more : (o : Option (List ℕ)) (p : List ℕ) → o ≡ Some p → before o [] ≡ p ∷ []
one_more o p e = rw e refl

-- one more piece has opened
pub run_more : (f : ℕ → Option (List ℕ)) (first i skip left most : ℕ) (plain p : List ℕ) → RunSoFar (leading f first i) i skip left most plain → f (first + i) ≡ Some p
    → RunSoFar (leading f first (i + 1)) (i + 1) skip (left - length p) most (plain ++ take (most - length plain) (drop left p))
unfolding leading
run_more f first i skip left most plain p r e =
    let run = leading f first i in
    let all : leading f first (i + 1) ≡ run ++ (p ∷ []) = leading-go f first i 1 r.opened ∙ ap (λ (l : List (List ℕ)). run ++ l) (one_more (f (first + i)) p e) in
    let whole : concat (leading f first (i + 1)) ≡ concat run ++ p = ap concat all ∙ concat-append run (p ∷ []) ∙ ap (λ (l : List ℕ). concat run ++ l) (append-nil p) in
    record {
      opened = ap length all ∙ length-append run (p ∷ []) ∙ ap (λ n. n + 1) r.opened;
      is = ap (λ (l : List ℕ). l ++ take (most - length l) (drop left p)) r.is
          ∙ ap (λ n. take most (drop skip (concat run)) ++ take (most - length (take most (drop skip (concat run)))) (drop n p)) r.rest
          ∙ sym (cut_more most skip (concat run) p) ∙ ap (λ (l : List ℕ). take most (drop skip l)) (sym whole);
      rest = omega (arith, r.rest, ap length whole, length-append (concat run) p);
    }

none_more : (o : Option (List ℕ)) (rest : List (List ℕ)) → o ≡ None → before o rest ≡ []
none_more o rest e = rw e refl

-- the next one doesn't open, however many are asked for
pub run_ends : (f : ℕ → Option (List ℕ)) (first i count : ℕ) → length (leading f first i) ≡ i → i < count → f (first + i) ≡ None
    → (length (leading f first count) < count) × (first + i ≡ first + length (leading f first count))
unfolding leading
run_ends f first i count whole lt e =
    let sum : count ≡ i + suc (count - i - 1) = omega arith in
    let all : leading f first count ≡ leading f first i = ap (leading f first) sum ∙ leading-go f first i (suc (count - i - 1)) whole
    ∙ ap (λ (l : List (List ℕ)). leading f first i ++ l) (none_more (f (first + i)) (leading f (suc (first + i)) (count - i - 1)) e) ∙ append-nil (leading f first i) in
    let long : length (leading f first count) ≡ i = ap length all ∙ whole in
    (omega arith, ap (λ n. first + n) (sym long))

-- what a piece that failed answers is the answer of the run
pub run_fails : (fault : PieceFault) (buffer plain : List ℕ) (f : ℕ → Option (List ℕ)) (first i count skip most : ℕ) → length (leading f first i) ≡ i → i < count
    → IsPiece (Err fault) buffer (first + i) (f (first + i)) → IsRun (Err fault) plain skip most first count (leading f first count)
run_fails (faults.StreamFailed n) buffer plain f first i count skip most whole lt h =
    let e = run_ends f first i count whole lt h.1 in
    (e.0, h.0 ∙ e.1)
run_fails faults.ReadFault buffer plain f first i count skip most whole lt h = tt

-- the part of a piece that was added
pub run_added : (f : ℕ → Option (List ℕ)) (first i skip left rest most len from k n : ℕ) (buffer plain after : List ℕ) → RunSoFar (leading f first i) i skip left most plain
    → f (first + i) ≡ Some (take n (drop from buffer)) → k ≡ n → len ≡ length plain
    → after ≡ plain ++ take (most - len) (drop left (take k (drop from buffer))) → rest ≡ left - length (take k (drop from buffer))
    → RunSoFar (leading f first (i + 1)) (i + 1) skip rest most after
run_added f first i skip left rest most len from k n buffer plain after r e same there is behind =
    let p = take n (drop from buffer) in
    let more = run_more f first i skip left most plain p r e in
    let cut : take k (drop from buffer) ≡ p = ap (λ m. take m (drop from buffer)) same in
    let a : plain ++ take (most - length plain) (drop left p) ≡ after = sym (is ∙ ap (λ m. plain ++ take (most - m) (drop left (take k (drop from buffer)))) there ∙ ap (λ (l : List ℕ). plain ++ take (most - length plain) (drop left l)) cut) in
    let b : left - length p ≡ rest = sym (behind ∙ ap (λ (l : List ℕ). left - length l) cut) in
    subst (λ (l : List ℕ). RunSoFar (leading f first (i + 1)) (i + 1) skip rest most l) a
    (subst (λ m. RunSoFar (leading f first (i + 1)) (i + 1) skip m most (plain ++ take (most - length plain) (drop left p))) b more)
