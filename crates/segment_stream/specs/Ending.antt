-- How a segment of a stream that is opened ended.
use Rattle.std.specs.Prelude.{◌≡◌, List, ℕ, take, Option, Some, None}
use Rattle.tink_spec.specs.Outside.{SinkState, Rose, RoseOnce, Stood, Took, TookPrefix}
use Rattle.segment_stream.specs.Cipher.{SegmentCipher}
use Rattle.segment_stream.specs.Opening.{opens_at}
use Rattle.segment_stream.specs.Streams.{IsUnder}
use Rattle.segment_stream.specs.declared.opening.SegmentEnd.{SegmentEnd}
use Rattle.segment_stream.specs.declared.opening.SegmentEnd.TheVariants.{Written, Unwritten, Refused}
use Rattle.segment_stream.specs.declared.trying.Trial.{Trial}
use Rattle.segment_stream.specs.declared.trying.Trial.TheVariants as trials

-- its plaintext was written, or not to its end; or there is none
abbrev pub EndsSegment : Option (List ℕ) → SegmentEnd → SinkState → SinkState → Type 0
EndsSegment opened Written old new =
    (plain : List ℕ) × (opened ≡ Some plain) × Took old new plain × Stood old.faults new.faults
EndsSegment opened Unwritten old new =
    (plain : List ℕ) × (opened ≡ Some plain) × Rose old.faults new.faults
    × TookPrefix old new plain × RoseOnce old.faults new.faults
EndsSegment opened Refused old new = (opened ≡ None) × (old ≡ new)

-- the first segment of the bytes taken: its plaintext was written, and the keys of the stream with
-- this header are at hand; or not to its end; or there is none
abbrev pub EndsFirst : SegmentCipher → (taken : List ℕ) → Trial → SinkState → SinkState → Type 0
EndsFirst key taken (trials.Written stream) old new =
    (plain : List ℕ) × (opens_at key taken 0 ≡ Some plain) × Took old new plain
    × Stood old.faults new.faults × IsUnder stream key (take key.header taken)
EndsFirst key taken trials.Unwritten old new =
    (plain : List ℕ) × (opens_at key taken 0 ≡ Some plain) × Rose old.faults new.faults
    × TookPrefix old new plain × RoseOnce old.faults new.faults
EndsFirst key taken trials.Refused old new = (opens_at key taken 0 ≡ None) × (old ≡ new)
