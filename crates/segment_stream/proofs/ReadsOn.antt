-- Nothing is read after the end was seen.
use Rattle.std.proofs.Common.{◌≡◌, ℕ, ◌<◌, refl, sym, ◌∙◌, subst}
use Rattle.std.specs.Prelude.{Bool, true, false}
use Rattle.tink_spec.specs.Outside.{SourceState, GoesOn, StopsAtEnd}
use Rattle.tink_spec.proofs.Moves.{nothing_goes_on, goes_on_more, goes_on_stops}
use Rattle.segment_stream.specs.Reading.{ReadsOn}

pub reads_nothing : (seen : Bool) (s : SourceState) → ReadsOn seen s s
reads_nothing seen s = record { goes_on = λ no. nothing_goes_on s; stops = λ before. refl }

-- after one more read, of n bytes
pub after_read : (seen later : Bool) (n : ℕ) (was mid now : SourceState) → ReadsOn seen was mid → seen ≡ false → (later ≡ false → 0 < n) → (0 < n → GoesOn mid now) → StopsAtEnd mid now → ReadsOn later was now
after_read seen later n was mid now r unseen some more stops = record {
  goes_on = λ e. goes_on_more was mid now (r.goes_on unseen) (more (some e));
  stops = goes_on_stops was mid now (r.goes_on unseen) stops;
}

pub not_both : (b : Bool) → b ≡ true → b ≡ false → ⊥
not_both b is not = let e : true ≡ false = sym is ∙ not in absurd cc

-- after reads until a key is decided, of which there are none where the end was seen
pub after_deciding : (seen later : Bool) (was mid now : SourceState) → ReadsOn seen was mid → (seen ≡ true → later ≡ true) → (seen ≡ true → now ≡ mid) → (seen ≡ false → ReadsOn later mid now) → ReadsOn later was now
after_deciding true later was mid now r last same more = record {
  goes_on = λ e. absurd (not_both later (last refl) e);
  stops = subst (λ (s : SourceState). StopsAtEnd was s) (sym (same refl)) r.stops;
}
after_deciding false later was mid now r last same more = record {
  goes_on = λ e. goes_on_more was mid now (r.goes_on refl) ((more refl).goes_on e);
  stops = goes_on_stops was mid now (r.goes_on refl) (more refl).stops;
}

-- and after the rest of the pass, which reads nothing where the end was seen
pub rest_stops : (seen : Bool) (was mid now : SourceState) → ReadsOn seen was mid → (seen ≡ true → now ≡ mid) → (seen ≡ false → StopsAtEnd mid now) → StopsAtEnd was now
rest_stops true was mid now r same more = subst (λ (s : SourceState). StopsAtEnd was s) (sym (same refl)) r.stops
rest_stops false was mid now r same more = goes_on_stops was mid now (r.goes_on refl) (more refl)

-- while the end isn't seen it wasn't seen before, and the room that is there only then is there
pub room_left : {X : Type 0} (whole seen : Bool) → (whole ≡ true → seen ≡ true) → seen ≡ false → (whole ≡ false → X) → X
room_left true seen last e room = absurd (not_both seen (last refl) e)
room_left false seen last e room = room refl
