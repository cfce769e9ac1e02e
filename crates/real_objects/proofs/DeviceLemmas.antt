-- What goes out of a device that tells its bytes at each moment, or at none.
use Rattle.std.proofs.Common.{◌≡◌, ◌≤◌, ℕ, List, ◌++◌, Option, Some, None, refl, ap}
use Rattle.std.specs.Prelude.{option_map}
use Rattle.std.specs.Io.KnownBytes.{Consumes}
use Rattle.tink_spec.specs.Outside.{Drew, RanShort, Rose}
use Rattle.real_objects.specs.Device.{Skips, device_left, told_device}
use Rattle.real_objects.specs.declared.entropy.FileEntropy.{FileEntropy}

left_of : (a b : Option (List ℕ)) (bytes : List ℕ) → (a ≡ None → b ≡ None) → Consumes a b bytes → a ≡ option_map (λ rest. bytes ++ rest) b
left_of None None bytes untold gone = refl
left_of None (Some rest) bytes untold gone = absurd (let clash = untold refl in cc)
left_of (Some all) None bytes untold gone = absurd gone
left_of (Some all) (Some rest) bytes untold gone = ap Some gone

-- these bytes were drawn
pub device_drew : {O D : Type 0} (given : O → Option (List ℕ)) (remaining : D → Option (List ℕ)) (old new : FileEntropy O D) (bytes : List ℕ)
    → (device_left given remaining old ≡ None → device_left given remaining new ≡ None) → Consumes (device_left given remaining old) (device_left given remaining new) bytes → old.faults ≤ new.faults → Drew (told_device given remaining old) (told_device given remaining new) bytes
device_drew given remaining old new bytes untold gone faults = record {
  left = left_of (device_left given remaining old) (device_left given remaining new) bytes untold gone;
  faults = faults;
  steady = refl;
}

-- some were lost
pub device_short : {O D : Type 0} (given : O → Option (List ℕ)) (remaining : D → Option (List ℕ)) (old new : FileEntropy O D) (asked : ℕ)
    → (device_left given remaining old ≡ None → device_left given remaining new ≡ None) → Skips (device_left given remaining old) (device_left given remaining new) asked → old.faults ≤ new.faults → Rose old.faults new.faults
    → RanShort (told_device given remaining old) (told_device given remaining new) asked
device_short given remaining old new asked untold skips faults rose = record {
  rose = rose;
  short = λ steady. absurd cc;
  gone = record { lost = skips.skipped; kept = λ steady. absurd cc; drew = device_drew given remaining old new skips.skipped untold skips.gone faults };
  few = skips.within;
}
