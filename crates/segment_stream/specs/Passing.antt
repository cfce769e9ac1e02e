-- How a segment of a stream ended that is opened, and whose plaintext is sealed again.
use Rattle.std.specs.Prelude.{◌≡◌, List, ℕ, take, Option, Some, None}
use Rattle.tink_spec.specs.Outside.{SinkState, Stood}
use Rattle.segment_stream.specs.Cipher.{SegmentCipher}
use Rattle.segment_stream.specs.Opening.{opens_at}
use Rattle.segment_stream.specs.Pushing.{SealingState, Seals, Stops}
use Rattle.segment_stream.specs.Streams.{IsUnder}
use Rattle.segment_stream.specs.declared.resealing.SegmentPassed.{SegmentPassed}
use Rattle.segment_stream.specs.declared.resealing.SegmentPassed.TheVariants.{Sealed, Unsealed, Refused}
use Rattle.segment_stream.specs.declared.resealing.TrialPassed.{TrialPassed}
use Rattle.segment_stream.specs.declared.resealing.TrialPassed.TheVariants as trials

-- its plaintext was sealed, or not to its end; or there is none
abbrev pub EndsSealed : Option (List ℕ) → SegmentPassed → SealingState → SealingState → SinkState
    → SinkState → Type 0
EndsSealed opened Sealed sealing later old new =
    (plain : List ℕ) × (opened ≡ Some plain) × Seals sealing later plain old new
    × Stood old.faults new.faults
EndsSealed opened (Unsealed fault) sealing later old new =
    (plain : List ℕ) × (opened ≡ Some plain) × Stops fault sealing plain old new
EndsSealed opened Refused sealing later old new =
    (opened ≡ None) × (sealing ≡ later) × (old ≡ new)

-- the first segment of the bytes taken: its plaintext was sealed, and the keys of the stream with this
-- header are at hand; or not to its end; or there is none
abbrev pub EndsFirstSealed : SegmentCipher → (taken : List ℕ) → TrialPassed → SealingState
    → SealingState → SinkState → SinkState → Type 0
EndsFirstSealed key taken (trials.Sealed stream) sealing later old new =
    (plain : List ℕ) × (opens_at key taken 0 ≡ Some plain) × Seals sealing later plain old new
    × Stood old.faults new.faults × IsUnder stream key (take key.header taken)
EndsFirstSealed key taken (trials.Unsealed fault) sealing later old new =
    (plain : List ℕ) × (opens_at key taken 0 ≡ Some plain) × Stops fault sealing plain old new
EndsFirstSealed key taken trials.Refused sealing later old new =
    (opens_at key taken 0 ≡ None) × (sealing ≡ later) × (old ≡ new)
