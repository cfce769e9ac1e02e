-- The first bytes of a list, and then some more of them.
use Rattle.std.proofs.Common.{◌≡◌, ℕ, zero, suc, ◌+◌, List, [], ◌∷◌, ◌++◌, length, take, drop, refl, sym, ◌∙◌, ap, arith, Bool, Some, zero-add, ◌-◌}
use Rattle.std.proofs.Math.Nat.{suc-add}
use Rattle.std.proofs.lemmas.List.{take-append-drop, take_at, drop-drop, take_rest}
use Rattle.tink_spec.specs.Outside.{Gave}

pub front_more : (xs : List ℕ) (i n : ℕ) → take i xs ++ take n (drop i xs) ≡ take (i + n) xs
front_more xs zero n = rw zero-add refl
front_more [] (suc i) zero = rw suc-add refl
front_more [] (suc i) (suc n) = rw suc-add refl
front_more (x ∷ xs) (suc i) n = rw suc-add (ap (λ (l : List ℕ). x ∷ l) (front_more xs i n))

pub front_rest : (xs : List ℕ) (i n : ℕ) → take i xs ++ take n (take (length xs - i) (drop i xs)) ≡ take (i + n) xs
front_rest xs i n = rw take_rest (front_more xs i n)

-- what a source over a list gives, where it lies in the front of the buffer
pub gave_front : (bytes copied behind : List ℕ) (at n f : ℕ) (was is_now : Bool) (before after : ℕ) → length copied ≡ n → copied ≡ take n (drop at bytes) → Gave (record { left = Some (drop at bytes); faults = f; ended = was; late = before }) (record { left = Some (drop (at + n) bytes); faults = f; ended = is_now; late = after }) (take n (copied ++ behind))
gave_front bytes copied behind at n f was is_now before after size is = record { left = ap Some whole; faults = omega arith }
  where
    whole : drop at bytes ≡ take n (copied ++ behind) ++ drop (at + n) bytes
    whole = rw (take_at copied behind n size, is) (sym (ap (λ (l : List ℕ). take n (drop at bytes) ++ l) (sym (drop-drop n at bytes)) ∙ take-append-drop n (drop at bytes)))

-- what is left of a list, cut behind its next bytes
pub front_and_left : (bytes copied : List ℕ) (at n : ℕ) → copied ≡ take n (drop at bytes) → drop at bytes ≡ copied ++ drop (at + n) bytes
front_and_left bytes copied at n is = rw is (sym (ap (λ (l : List ℕ). take n (drop at bytes) ++ l) (sym (drop-drop n at bytes)) ∙ take-append-drop n (drop at bytes)))
