use Rattle.std.proofs.Common.{◌≡◌, drop}
use Rattle.wrapped_prims.specs.Held.{kept_at}
use Rattle.wrapped_prims.specs.Trying.{IsTried}
use Rattle.wrapped_prims.proofs.trying.try_places.Given as goal

abbrev pub invariant-loop-place : goal.invariant-loop-place
invariant-loop-place g l = record {
  kept : l.part ≡ l.initial.part;
  tried : IsTried l.primitive (kept_at l.slots l.places) (kept_at l.slots (drop l.place-index l.places))
      l.initial.part l.ad l.initial.trials l.trials;
}
