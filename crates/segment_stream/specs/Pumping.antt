-- A pass over a stream, from a source into a sink, with its faults.
use Rattle.std.specs.Prelude.{◌≡◌, ℕ, List, [], ◌++◌, length, Bool, true, false, Option, Some, None, Result, Ok, Err, ◌<◌}
use Rattle.tink_spec.specs.Outside.{SourceState, SinkState, Rose, RoseOnce, Stood, Gave, Took, IsAtEnd}
use Rattle.segment_stream.specs.declared.fault.OpenPumpFault.{OpenPumpFault}
use Rattle.segment_stream.specs.declared.fault.OpenPumpFault.TheVariants as fault
use Rattle.segment_stream.specs.Cipher.{SegmentCipher}
use Rattle.segment_stream.specs.Sealing.{sealed_behind, many_plain}
use Rattle.segment_stream.specs.Opening.{StreamRefusal, too_many, failed, released, decides, released_by, decides_by, chosen}
use Rattle.segment_stream.specs.Resealing.{resealed, reseal_decides}

-- the part of a stream that is written, and the refusal that is decided, for the bytes taken and
-- whether the end was seen
pub record Part : Type 0 where
  pub output : List ℕ → Bool → List ℕ
  pub refusal : List ℕ → Bool → Option StreamRefusal

-- the stream opened under a key, and under the first that fits
abbrev pub opening_under : SegmentCipher → Part
opening_under key = record { output = released_by (chosen key); refusal = decides_by (chosen key) }

-- the stream opened under the first key that fits
abbrev pub opening_any : List SegmentCipher → Part
opening_any keys = record { output = released keys; refusal = decides keys }

-- the stream sealed under a key, behind this header
abbrev pub sealing : SegmentCipher → List ℕ → Part
sealing key header = record {
  output = sealed_behind key header;
  refusal = λ taken ended. many_plain
      key header taken;
}

-- the stream opened under the first key that fits, and sealed under a cipher, behind this header
abbrev pub resealing : List SegmentCipher → SegmentCipher → List ℕ → Part
resealing keys cipher header = record {
  output = resealed keys cipher header;
  refusal = reseal_decides keys cipher header;
}

-- a refusal as the opener answers it
abbrev pub fault_of : StreamRefusal → OpenPumpFault
fault_of too_many = fault.TooManySegments
fault_of (failed number) = fault.StreamFailed number

-- where the whole input was taken before, nothing more is taken, and its end was seen
abbrev pub Follows : Bool → List ℕ → Bool → Type 0
Follows whole more ended = whole ≡ true → (more ≡ []) × (ended ≡ true)

-- a pass that begins when some bytes were taken, up to the end or not, and some were written
pub data Pumps (part : Part) (taken written : List ℕ) (whole : Bool)
    (result : Result (Unit {0}) OpenPumpFault) (was now : SourceState) (old new : SinkState) :
    Type 0 where
  -- to the end, and all is written
  pumped : (more out : List ℕ) → result ≡ Ok tt → Gave was now more → Follows whole more true
      → IsAtEnd now → Took old new out
      → written ++ out ≡ part.output (taken ++ more) true → part.refusal (taken ++ more) true ≡ None
      → Pumps part taken written whole result was now old new
  -- the bytes taken decide a refusal, and exactly their part is written
  refused : (more out : List ℕ) (ended : Bool) (refusal : StreamRefusal)
      → result ≡ Err (fault_of refusal) → Gave was now more → Follows whole more ended
      → (ended ≡ true → IsAtEnd now) → Took old new out
      → written ++ out ≡ part.output (taken ++ more) ended
      → part.refusal (taken ++ more) ended ≡ Some refusal
      → Pumps part taken written whole result was now old new
  -- a read failed, the bytes taken decide no refusal, and exactly their part is written
  unread : (more out : List ℕ) → result ≡ Err fault.ReadFault → Rose was.faults now.faults
      → Gave was now more → Follows whole more false → Took old new out
      → written ++ out ≡ part.output (taken ++ more) false
      → part.refusal (taken ++ more) false ≡ None
      → Pumps part taken written whole result was now old new
  -- a write failed, and a byte of their part is still to come
  unwritten : (more out rest : List ℕ) (ended : Bool) → result ≡ Err fault.WriteFault
      → Rose old.faults new.faults → Gave was now more → Follows whole more ended
      → (ended ≡ true → IsAtEnd now) → Took old new out
      → 0 < length rest → written ++ (out ++ rest) ≡ part.output (taken ++ more) ended
      → Pumps part taken written whole result was now old new

-- what a pass without a fault answers
abbrev pub result_of : Option StreamRefusal → Result (Unit {0}) OpenPumpFault
result_of None = Ok tt
result_of (Some refusal) = Err (fault_of refusal)

-- no fault is hidden, and what failed wasn't tried again: each count of faults stood, but for that of
-- the object that the result names, which rose by one
abbrev pub ShowsFaults : Result (Unit {0}) OpenPumpFault → (was now : SourceState)
    → (old new : SinkState) → Type 0
ShowsFaults (Err fault.ReadFault) was now old new =
    RoseOnce was.faults now.faults × Stood old.faults new.faults
ShowsFaults (Err fault.WriteFault) was now old new =
    Stood was.faults now.faults × RoseOnce old.faults new.faults
ShowsFaults _ was now old new = Stood was.faults now.faults × Stood old.faults new.faults
