-- Two texts, one behind the other.
use Rattle.std.proofs.Common.{arith, inl, inr, ◌∙◌, ap, sym, ℕ, ◌≤◌, List, ◌++◌, length-append, append_assoc}
use Rattle.tink_spec.specs.Outside.{Rose, SinkState, Took, TookPrefix}
use Rattle.tink_spec.proofs.Moves.{took_more}
use Rattle.tinkey_plans.specs.Status.{Wrote, wrote, write_failed}

rose_after : (a b c : ℕ) → a ≤ b → Rose b c → Rose a c
rose_after a b c le (inl lt) = inl (omega arith)
rose_after a b c le (inr last) = inr last

-- the first whole, and of the second what was written
pub wrote_both : (old mid new : SinkState) (first second : List ℕ) → Took old mid first → Wrote second mid new → Wrote (first ++ second) old new
wrote_both old mid new first second took (wrote later) = wrote (took_more old mid new first second took later)
wrote_both old mid new first second took (write_failed rose later) = write_failed (rose_after _ _ _ took.faults rose) (record {
  front = first ++ later.front;
  rest = later.rest;
  some = later.some;
  whole = append_assoc first later.front later.rest ∙ ap (λ (l : List ℕ). first ++ l) later.whole;
  took = took_more old mid new first later.front took later.took;
})

-- of the first a front, and nothing of the second
pub wrote_front : (old new : SinkState) (first second : List ℕ) → Rose old.faults new.faults → TookPrefix old new first → Wrote (first ++ second) old new
wrote_front old new first second rose prefix = write_failed rose (record {
  front = prefix.front;
  rest = prefix.rest ++ second;
  some = omega (arith, prefix.some, length-append prefix.rest second);
  whole = sym (append_assoc prefix.front prefix.rest second) ∙ ap (λ (l : List ℕ). l ++ second) prefix.whole;
  took = prefix.took;
})
