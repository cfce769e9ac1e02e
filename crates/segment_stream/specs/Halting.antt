-- What opening bytes that were taken comes to, whoever gave them.
--
--   IsOpened    they are a whole stream
--   Halts       they aren't opened, and why
--   ShowsFault  the sink's faults
--   OpensOn     segments in front were opened
use Rattle.std.specs.Prelude.{◌≡◌, ℕ, ◌<◌, List, ◌++◌, length, Bool, true, Some, None, Result, Ok, Err}
use Rattle.tink_spec.specs.Outside.{SinkState, Rose, RoseOnce, Stood, Took}
use Rattle.segment_stream.specs.Cipher.{SegmentCipher}
use Rattle.segment_stream.specs.Opening.{StreamRefusal, too_many, failed}
use Rattle.segment_stream.specs.Pumping.{Part}
use Rattle.segment_stream.specs.Under.{Standing}
use Rattle.segment_stream.specs.declared.fault.OpenPumpFault.{OpenPumpFault}
use Rattle.segment_stream.specs.declared.fault.OpenPumpFault.TheVariants as faults

-- the bytes taken are a whole stream, and all that they release was written
pub record IsOpened (part : Part) (taken written : List ℕ) (old new : SinkState) : Type 0 where
  pub more : List ℕ
  pub took : Took old new more
  pub whole : written ++ more ≡ part.output taken true
  pub none : part.refusal taken true ≡ None

-- the bytes taken decide this refusal, and exactly what they release was written
pub record IsRefused (part : Part) (refusal : StreamRefusal) (taken written : List ℕ) (ended : Bool)
    (old new : SinkState) : Type 0 where
  pub more : List ℕ
  pub took : Took old new more
  pub whole : written ++ more ≡ part.output taken ended
  pub decided : part.refusal taken ended ≡ Some refusal

-- a byte of what they release is still to come
pub record IsUnwritten (part : Part) (taken written : List ℕ) (ended : Bool) (old new : SinkState) :
    Type 0 where
  pub more : List ℕ
  pub rest : List ℕ
  pub took : Took old new more
  pub some : 0 < length rest
  pub whole : written ++ (more ++ rest) ≡ part.output taken ended

-- the bytes taken aren't opened: they decide a refusal, or the sink failed. No read fails, since none is made.
abbrev pub Halts : Part → OpenPumpFault → (taken written : List ℕ) → (ended : Bool) → SinkState → SinkState → Type 0
Halts part faults.ReadFault taken written ended old new = ⊥
Halts part faults.WriteFault taken written ended old new = IsUnwritten part taken written ended old new
Halts part faults.TooManySegments taken written ended old new =
    IsRefused part too_many taken written ended old new
Halts part (faults.StreamFailed number) taken written ended old new =
    IsRefused part (failed number) taken written ended old new

-- a fault is that of the sink, which failed once; or the sink didn't fail
abbrev pub IsShown : OpenPumpFault → SinkState → SinkState → Type 0
IsShown faults.ReadFault old new = ⊥
IsShown faults.WriteFault old new =
    Rose old.faults new.faults × RoseOnce old.faults new.faults
IsShown _ old new = Stood old.faults new.faults

-- no fault is hidden, and what failed wasn't tried again
abbrev pub ShowsFault : {A : Type 0} → Result A OpenPumpFault → SinkState → SinkState → Type 0
ShowsFault (Ok done) old new = Stood old.faults new.faults
ShowsFault (Err fault) old new = IsShown fault old new

-- the segments that a byte follows were opened, and their plaintexts written
pub record OpensOn (key : SegmentCipher) (header taken written : List ℕ) (number : ℕ) (held : List ℕ)
    (old new : SinkState) : Type 0 where
  pub more : List ℕ
  pub took : Took old new more
  pub stands : Standing key header taken number held (written ++ more)
