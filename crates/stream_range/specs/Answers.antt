-- What a range is answered as, and how many bytes are read for it.
use Rattle.std.specs.Prelude.{◌≡◌, ◌⊎◌, ℕ, List, Result, Ok, Err, Contains}
use Rattle.std.specs.Global.{Vec}
use Rattle.segment_stream.specs.Cipher.{SegmentCipher}
use Rattle.segment_stream.specs.Opening.{Choice, undecided, no_key, chosen}
use Rattle.segment_stream.specs.Range.{RangeRefusal, stream_failed, past_end, covering}
use Rattle.stream_range.specs.declared.piece.PieceFault.{PieceFault}
use Rattle.stream_range.specs.declared.piece.PieceFault.TheVariants as piece
use Rattle.stream_range.specs.declared.range.RangeFault.{RangeFault}
use Rattle.stream_range.specs.declared.range.RangeFault.TheVariants as faults

-- the fault of a range for that of a piece
abbrev pub fault_of : PieceFault → RangeFault
fault_of (piece.StreamFailed n) = faults.StreamFailed n
fault_of piece.ReadFault = faults.ReadFault

-- the plaintext that was written is the range, or the refusal is why there is none; of a failed read
-- and of want of memory nothing is said
abbrev pub IsAnswer : Result (Unit {0}) RangeFault → (plain : List ℕ)
    → Result (List ℕ) RangeRefusal → Type 0
IsAnswer (Ok _) plain range = range ≡ Ok plain
IsAnswer (Err (faults.StreamFailed n)) plain range = range ≡ Err (stream_failed n)
IsAnswer (Err faults.PastEnd) plain range = range ≡ Err past_end
IsAnswer (Err faults.ReadFault) plain range = Unit {0}
IsAnswer (Err faults.NoMemory) plain range = Unit {0}

-- the same of a plaintext that is given back
abbrev pub IsRange : Result (Vec ℕ) RangeFault → Result (List ℕ) RangeRefusal → Type 0
IsRange (Ok plain) range = range ≡ Ok plain.items
IsRange (Err (faults.StreamFailed n)) range = range ≡ Err (stream_failed n)
IsRange (Err faults.PastEnd) range = range ≡ Err past_end
IsRange (Err faults.ReadFault) range = Unit {0}
IsRange (Err faults.NoMemory) range = Unit {0}

-- how many pieces cover the range under the key chosen; none where no key is
abbrev pub covering_by : Choice → (from to : ℕ) → ℕ
covering_by undecided from to = 0
covering_by no_key from to = 0
covering_by (chosen key) from to = covering key from to

-- so many pieces cover the range under one of the keys, or none
abbrev pub CoversUnder : List SegmentCipher → (from to count : ℕ) → Type 0
CoversUnder keys from to count =
    (count ≡ 0) ⊎ ((key : SegmentCipher) × Contains keys key × (count ≡ covering key from to))
