-- A device that is opened at the first fill and kept, and whose bytes are drawn ahead.
use Rattle.std.specs.Prelude.{◌≤◌, ℕ, List, [], length, Option, Some, None, false}
use Rattle.std.specs.Io.KnownBytes.{Consumes, prepend_known}
use Rattle.tink_spec.specs.Outside.{EntropyState}
use Rattle.real_objects.specs.declared.ahead.Ahead.{Ahead}
use Rattle.real_objects.specs.declared.entropy.FileEntropy.{FileEntropy}

-- the bytes that an opened device has still to give: those that were drawn ahead, and then its own
abbrev pub ahead_left : {D : Type 0} → (D → Option (List ℕ)) → Ahead D → Option (List ℕ)
ahead_left remaining ahead = prepend_known ahead.held (remaining ahead.device)

-- the bytes that are still to come: those of the opened device, or those that it gives when it is opened
abbrev pub device_left : {O D : Type 0} → (O → Option (List ℕ)) → (D → Option (List ℕ)) → FileEntropy O D → Option (List ℕ)
device_left given remaining entropy = elim entropy.device [ None ↦ given entropy.opener | Some ahead ↦ ahead_left remaining ahead ]

-- a device: the bytes that are still to come, and how often it has failed; it may fail whatever is asked
abbrev pub told_device : {O D : Type 0} → (O → Option (List ℕ)) → (D → Option (List ℕ)) → FileEntropy O D → EntropyState
told_device given remaining entropy = record {
  left = device_left given remaining entropy;
  faults = entropy.faults;
  steady = false;
}

-- the bytes that were drawn ahead, once the device is open
abbrev pub drawn_ahead : {O D : Type 0} → FileEntropy O D → Option (List ℕ)
drawn_ahead entropy = elim entropy.device [ None ↦ None | Some ahead ↦ Some ahead.held ]

-- the bytes that are held: those that were drawn ahead, and none before the device is open
abbrev pub held_ahead : {O D : Type 0} → FileEntropy O D → List ℕ
held_ahead entropy = elim entropy.device [ None ↦ [] | Some ahead ↦ ahead.held ]

-- some of the bytes to come are gone, at most so many
pub record Skips (old new : Option (List ℕ)) (most : ℕ) : Type 0 where
  pub skipped : List ℕ
  pub within : length skipped ≤ most
  pub gone : Consumes old new skipped
