-- A stream that is sealed as its plaintext comes, in pieces of any size.
use Rattle.std.specs.Prelude.{◌≡◌, ℕ, ◌+◌, ◌<◌, ◌≤◌, ◌^◌, List, [], ◌++◌, length, Bool, true, false, Some, None, Result, Err}
use Rattle.tink_spec.specs.Outside.{SourceState, SinkState, Gave, IsAtEnd, Rose, RoseOnce, Stood, Took}
use Rattle.segment_stream.specs.Cipher.{SegmentCipher}
use Rattle.segment_stream.specs.Opening.{too_many}
use Rattle.segment_stream.specs.PumpModels.{HasRoom}
use Rattle.segment_stream.specs.Pumping.{Follows, Part, Pumps}
use Rattle.segment_stream.specs.Sealing.{many_plain, sealed_behind}
use Rattle.segment_stream.specs.Segments.{tag_size_under}
use Rattle.segment_stream.specs.Streams.{IsUnder, StreamState}
use Rattle.segment_stream.specs.Under.{SealStanding}
use Rattle.segment_stream.specs.declared.fault.OpenPumpFault.{OpenPumpFault}
use Rattle.segment_stream.specs.declared.fault.OpenPumpFault.TheVariants as of_passes
use Rattle.segment_stream.specs.declared.fault.UpdateFault.{UpdateFault}
use Rattle.segment_stream.specs.declared.fault.UpdateFault.TheVariants as faults

-- what seals the segments, the bytes of the header, the number of the piece that is being filled, and what it
-- holds: piece 0 begins with the header
pub record SealingState : Type 0 where
  pub stream : StreamState
  pub header : ℕ
  pub number : ℕ
  pub held : List ℕ

-- the piece that is being filled has room for its bytes and a tag, and so has the buffer
pub record IsHolding (stream : StreamState) (header number len filled capacity : ℕ) : Type 0 where
  pub room : HasRoom stream header capacity
  pub within : len ≤ filled
  pub short : len + tag_size_under stream.keys ≤ stream.size
  pub few : number < 2 ^ 32
  pub first : number ≡ 0 → header ≤ len

-- Of the stream of a cipher behind a header this plaintext was taken, which has not too many segments, and
-- exactly what is settled of it was written.
pub record HasSealed (sealing : SealingState) (cipher : SegmentCipher)
    (header taken written : List ℕ) : Type 0 where
  pub under : IsUnder sealing.stream cipher header
  pub front : sealing.header ≡ cipher.header
  pub stands : SealStanding cipher header taken sealing.number sealing.held written
  pub sealed : sealed_behind cipher header taken false ≡ written
  pub few : many_plain cipher header taken ≡ None

-- this plaintext was taken too, and what is settled by it was written
pub record SealedOn (later : SealingState) (cipher : SegmentCipher)
    (header taken written : List ℕ) (old new : SinkState) : Type 0 where
  pub more : List ℕ
  pub took : Took old new more
  pub has : HasSealed later cipher header taken (written ++ more)

-- whatever was taken and written before
abbrev pub Seals : SealingState → SealingState → (plain : List ℕ) → SinkState → SinkState → Type 0
Seals sealing later plain old new = (cipher : SegmentCipher) (header taken written : List ℕ)
    → HasSealed sealing cipher header taken written
    → SealedOn later cipher header (taken ++ plain) written old new

-- a byte of what is settled is still to come
pub record IsUnsealed (cipher : SegmentCipher) (header taken written : List ℕ)
    (old new : SinkState) : Type 0 where
  pub more : List ℕ
  pub rest : List ℕ
  pub took : Took old new more
  pub some : 0 < length rest
  pub whole : written ++ (more ++ rest) ≡ sealed_behind cipher header taken false

-- all segments that a stream may have were written, and a byte follows them
pub record IsFull (cipher : SegmentCipher) (header taken written : List ℕ)
    (old new : SinkState) : Type 0 where
  pub more : List ℕ
  pub took : Took old new more
  pub whole : written ++ more ≡ sealed_behind cipher header taken false
  pub many : many_plain cipher header taken ≡ Some too_many

-- Plaintext wasn't taken to its end: the sink failed, and a front of what is settled by it was written; or it
-- has too many segments, and exactly what is settled was written.
abbrev pub Stops : UpdateFault → SealingState → (plain : List ℕ) → SinkState → SinkState → Type 0
Stops faults.WriteFault sealing plain old new =
    Rose old.faults new.faults × RoseOnce old.faults new.faults
    × ((cipher : SegmentCipher) (header taken written : List ℕ)
    → HasSealed sealing cipher header taken written
    → IsUnsealed cipher header (taken ++ plain) written old new)
Stops faults.TooManySegments sealing plain old new =
    Stood old.faults new.faults
    × ((cipher : SegmentCipher) (header taken written : List ℕ)
    → HasSealed sealing cipher header taken written
    → IsFull cipher header (taken ++ plain) written old new)

-- the whole plaintext was taken, and all that it seals was written
pub record IsSealed (cipher : SegmentCipher) (header taken written : List ℕ) (old new : SinkState) :
    Type 0 where
  pub more : List ℕ
  pub took : Took old new more
  pub whole : written ++ more ≡ sealed_behind cipher header taken true

-- a byte of it is still to come
pub record IsUnended (cipher : SegmentCipher) (header taken written : List ℕ)
    (old new : SinkState) : Type 0 where
  pub more : List ℕ
  pub rest : List ℕ
  pub took : Took old new more
  pub some : 0 < length rest
  pub whole : written ++ (more ++ rest) ≡ sealed_behind cipher header taken true

-- the stream was ended, whatever was taken and written before, or only a front of it was written
abbrev pub SealsLast : SealingState → SinkState → SinkState → Type 0
SealsLast sealing old new = (cipher : SegmentCipher) (header taken written : List ℕ)
    → HasSealed sealing cipher header taken written
    → IsSealed cipher header taken written old new

abbrev pub SealsLastFront : SealingState → SinkState → SinkState → Type 0
SealsLastFront sealing old new = (cipher : SegmentCipher) (header taken written : List ℕ)
    → HasSealed sealing cipher header taken written
    → IsUnended cipher header taken written old new

-- the piece that is being filled has room for another byte, with which each full piece before it is settled
pub record HasRoomFor (sealing : SealingState) (cipher : SegmentCipher)
    (header taken written : List ℕ) : Type 0 where
  pub under : IsUnder sealing.stream cipher header
  pub front : sealing.header ≡ cipher.header
  pub few : sealing.number < 2 ^ 32
  pub stands : (plain : List ℕ) → 0 < length plain
      → SealStanding cipher header (taken ++ plain) sealing.number (sealing.held ++ plain) written

-- each full piece was written, whatever was taken and written before
pub record MadeRoom (later : SealingState) (cipher : SegmentCipher)
    (header taken written : List ℕ) (old new : SinkState) : Type 0 where
  pub more : List ℕ
  pub took : Took old new more
  pub has : HasRoomFor later cipher header taken (written ++ more)

abbrev pub MakesRoom : SealingState → SealingState → SinkState → SinkState → Type 0
MakesRoom sealing later old new = (cipher : SegmentCipher) (header taken written : List ℕ)
    → HasSealed sealing cipher header taken written
    → MadeRoom later cipher header taken written old new

-- ---- a pass that opens a stream, and seals its plaintext

-- a fault of the sealing side among those of passes
abbrev pub halt_fault : UpdateFault → OpenPumpFault
halt_fault faults.WriteFault = of_passes.WriteFault
halt_fault faults.TooManySegments = of_passes.TooManySegments

-- a sink that tells that these bytes were written, and never failed
abbrev pub told : List ℕ → SinkState
told bytes = record { written = Some bytes; faults = 0 }

-- the bytes taken release at least this plaintext
pub record Releases (part : Part) (taken written : List ℕ) (whole : Bool) (was now : SourceState)
    (plain : List ℕ) : Type 0 where
  pub more : List ℕ
  pub rest : List ℕ
  pub ended : Bool
  pub gave : Gave was now more
  pub follows : Follows whole more ended
  pub end : ended ≡ true → IsAtEnd now
  pub front : written ++ (plain ++ rest) ≡ part.output (taken ++ more) ended

-- All plaintext that the pass opened was sealed: it went as one into a sink that never fails. Or the sealing
-- side stopped at some of it.
pub data Passes (part : Part) (taken written : List ℕ) (whole : Bool)
    (result : Result (Unit {0}) OpenPumpFault) (was now : SourceState)
    (sealing later : SealingState) (old new : SinkState) : Type 0 where
  went : (plain : List ℕ)
      → Pumps part taken written whole result was now (told []) (told plain)
      → Seals sealing later plain old new
      → Passes part taken written whole result was now sealing later old new
  stopped : (plain : List ℕ) (fault : UpdateFault) → result ≡ Err (halt_fault fault)
      → Releases part taken written whole was now plain → Stops fault sealing plain old new
      → Passes part taken written whole result was now sealing later old new
