-- One call of a source, a sink or an entropy after another.
use Rattle.std.proofs.Common.{◌≡◌, List, [], ◌++◌, ℕ, refl, sym, ◌∙◌, ap, subst, arith, append_assoc, append-nil, length, length-append, ◌+◌, ◌<◌, inl, inr}
use Rattle.std.specs.Prelude.{Option, Some, None, IfSome, IsTrue, option_map}
use Rattle.tink_spec.specs.Outside.{SourceState, SinkState, EntropyState, Gave, Took, Drew, DrewLosing, RanShort, Rose, GoesOn, StopsAtEnd, late_after}

prepend_twice : (p q : List ℕ) (o : Option (List ℕ)) → option_map (λ rest. p ++ rest) (option_map (λ rest. q ++ rest) o) ≡ option_map (λ rest. (p ++ q) ++ rest) o
prepend_twice p q None = refl
prepend_twice p q (Some rest) = ap Some (sym (append_assoc p q rest))

append_twice : (p q : List ℕ) (o : Option (List ℕ)) → option_map (λ before. before ++ q) (option_map (λ before. before ++ p) o) ≡ option_map (λ before. before ++ (p ++ q)) o
append_twice p q None = refl
append_twice p q (Some before) = ap Some (append_assoc before p q)

nothing_before : (o : Option (List ℕ)) → o ≡ option_map (λ rest. [] ++ rest) o
nothing_before None = refl
nothing_before (Some rest) = refl

nothing_behind : (o : Option (List ℕ)) → o ≡ option_map (λ before. before ++ []) o
nothing_behind None = refl
nothing_behind (Some before) = ap Some (sym (append-nil before))

-- a source that isn't called gives nothing
pub gave_nothing : (s : SourceState) → Gave s s []
gave_nothing s = record { left = nothing_before s.left; faults = omega arith }

pub gave_more : (old mid new : SourceState) (p q : List ℕ) → Gave old mid p → Gave mid new q → Gave old new (p ++ q)
gave_more old mid new p q first second = record {
  left = first.left ∙ ap (λ (o : Option (List ℕ)). option_map (λ rest. p ++ rest) o) second.left ∙ prepend_twice p q new.left;
  faults = omega arith;
}

pub gave_same : (old new : SourceState) → old ≡ new → Gave old new []
gave_same old new same = subst (λ (s : SourceState). Gave old s []) same (gave_nothing old)

-- a call before any end was answered isn't late
pub read_stops : (old new : SourceState) → new.late ≡ late_after old → StopsAtEnd old new
read_stops old new late = λ before. rw late (rw before refl)

-- nor is it one behind which the source goes on
pub read_goes_on : (old new : SourceState) → new.late ≡ late_after old → new.ended ≡ old.ended → GoesOn old new
read_goes_on old new late same = λ before. (same ∙ before, read_stops old new late before)

pub nothing_goes_on : (s : SourceState) → GoesOn s s
nothing_goes_on s = λ before. (before, refl)

pub goes_on_more : (old mid new : SourceState) → GoesOn old mid → GoesOn mid new → GoesOn old new
goes_on_more old mid new first second = λ before. let one = first before in let two = second one.0 in (two.0, two.1 ∙ one.1)

pub goes_on_stops : (old mid new : SourceState) → GoesOn old mid → StopsAtEnd mid new → StopsAtEnd old new
goes_on_stops old mid new first second = λ before. let one = first before in second one.0 ∙ one.1

-- a sink that isn't called takes nothing
pub took_nothing : (s : SinkState) → Took s s []
took_nothing s = record { written = nothing_behind s.written; faults = omega arith }

pub took_more : (old mid new : SinkState) (p q : List ℕ) → Took old mid p → Took mid new q → Took old new (p ++ q)
took_more old mid new p q first second = record {
  written = second.written ∙ ap (λ (o : Option (List ℕ)). option_map (λ before. before ++ q) o) first.written ∙ append_twice p q old.written;
  faults = omega arith;
}

pub took_same : (old new : SinkState) → old ≡ new → Took old new []
took_same old new same = subst (λ (s : SinkState). Took old s []) same (took_nothing old)

-- an entropy that isn't called gives nothing
pub drew_nothing : (s : EntropyState) → Drew s s []
drew_nothing s = record { left = nothing_before s.left; faults = omega arith; steady = refl }

pub drew_more : (old mid new : EntropyState) (p q : List ℕ) → Drew old mid p → Drew mid new q → Drew old new (p ++ q)
drew_more old mid new p q first second = record {
  left = first.left ∙ ap (λ (o : Option (List ℕ)). option_map (λ rest. p ++ rest) o) second.left ∙ prepend_twice p q new.left;
  faults = omega arith;
  steady = second.steady ∙ first.steady;
}

-- where nothing is lost
abbrev pub lost_nothing : (old new : EntropyState) (drawn : List ℕ) → Drew old new drawn → DrewLosing old new drawn
lost_nothing old new drawn drew = record { lost = []; kept = λ steady. refl; drew = subst (Drew old new) (sym (append-nil drawn)) drew }

-- what was drawn before comes before what is lost
abbrev pub lost_later : (old mid new : EntropyState) (first drawn : List ℕ) → Drew old mid first → DrewLosing mid new drawn → DrewLosing old new (first ++ drawn)
lost_later old mid new first drawn drew later = record {
  lost = later.lost;
  kept = λ steady. later.kept (subst IsTrue (sym drew.steady) steady);
  drew = subst (Drew old new) (sym (append_assoc first drawn later.lost)) (drew_more old mid new first (drawn ++ later.lost) drew later.drew);
}

abbrev pub lost_behind : (old mid new : EntropyState) (first : List ℕ) → Drew old mid first → DrewLosing mid new [] → DrewLosing old new first
lost_behind old mid new first drew later = record {
  lost = later.lost;
  kept = λ steady. later.kept (subst IsTrue (sym drew.steady) steady);
  drew = drew_more old mid new first later.lost drew later.drew;
}

-- what an entropy lacks after some bytes were drawn, it lacked before
pub short_later : (old mid new : EntropyState) (p : List ℕ) (asked : ℕ) → Drew old mid p → RanShort mid new asked → IsTrue old.steady → IfSome old.left (λ left. length left < length p + asked)
short_later old mid new p asked first second steady = subst (λ (o : Option (List ℕ)). IfSome o (λ left. length left < length p + asked)) (sym first.left)
    (behind mid.left (second.short (subst IsTrue (sym first.steady) steady)))
  where
    behind : (o : Option (List ℕ)) → IfSome o (λ left. length left < asked) → IfSome (option_map (λ rest. p ++ rest) o) (λ left. length left < length p + asked)
    behind None less = tt
    behind (Some rest) less = rw length-append (omega (arith, less))

-- the count of faults rose in all
pub rose_later : (old mid new : EntropyState) (p : List ℕ) → Drew old mid p → Rose mid.faults new.faults → Rose old.faults new.faults
rose_later old mid new p first (inl before) = inl (omega (arith, first.faults))
rose_later old mid new p first (inr last) = inr last
