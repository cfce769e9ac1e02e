-- What steps of opening a stream do, as its bytes arrive. No public clause cites this module.
use Rattle.std.specs.Prelude.{◌≡◌, ℕ, ◌<◌, ◌≤◌, List, [], ◌++◌, take, drop, Bool, true, false, Some, None, Result, Ok, Err}
use Rattle.tink_spec.specs.Outside.{SinkState, Took}
use Rattle.segment_stream.specs.Arriving.{IsChosen, Passed, StandsAt}
use Rattle.segment_stream.specs.Cipher.{SegmentCipher}
use Rattle.segment_stream.specs.Halting.{Halts}
use Rattle.segment_stream.specs.Opening.{choose, decides, is_decided, opens_at, released, undecided}
use Rattle.segment_stream.specs.Pumping.{opening_any}
use Rattle.segment_stream.specs.Streams.{IsUnder, StreamState}
use Rattle.segment_stream.specs.declared.settling.Stage.{Stage}
use Rattle.segment_stream.specs.declared.settling.Stage.TheVariants as stages
use Rattle.segment_stream.specs.declared.fault.OpenPumpFault.{OpenPumpFault}

-- a key is chosen, and the plaintext of its first segment was written
pub record OpensFirst (ciphers : List SegmentCipher) (stream : StreamState) (taken after : List ℕ)
    (ended : Bool) (old new : SinkState) : Type 0 where
  pub key : SegmentCipher
  pub plain : List ℕ
  pub under : IsUnder stream key (take key.header taken)
  pub choice : IsChosen ciphers key taken ended
  pub decided : is_decided key taken ended ≡ true
  pub opens : opens_at key taken 0 ≡ Some plain
  pub took : Took old new plain
  pub rest : drop key.size after ≡ drop key.size taken

-- a key isn't decided, and those in front of it don't fit
pub record Waits (ciphers : List SegmentCipher) (count : ℕ) (taken after : List ℕ) (ended : Bool)
    (old new : SinkState) : Type 0 where
  pub open_end : ended ≡ false
  pub passed : Passed ciphers count taken ended
  pub choice : choose ciphers taken false ≡ undecided
  pub kept : after ≡ taken
  pub still : old ≡ new

-- what the keys make of the bytes taken
abbrev pub Chooses : List SegmentCipher → (taken after : List ℕ) → (ended : Bool)
    → Result Stage OpenPumpFault → SinkState → SinkState → Type 0
Chooses ciphers taken after ended (Ok (stages.Trying count)) old new =
    Waits ciphers count taken after ended old new
Chooses ciphers taken after ended (Ok (stages.Under stream number)) old new =
    (number ≡ 1) × OpensFirst ciphers stream taken after ended old new
Chooses ciphers taken after ended (Err fault) old new =
    Halts (opening_any ciphers) fault taken [] ended old new

-- no more keys were tried than there are
abbrev pub TriesWithin : (count : ℕ) → Stage → Type 0
TriesWithin count (stages.Trying tried) = tried ≤ count
TriesWithin count (stages.Under stream number) = Unit {0}

-- so many bytes are held, or the segments have fewer than so many
abbrev pub IsBelow : (len most : ℕ) → Stage → Type 0
IsBelow len most (stages.Trying tried) = len < most
IsBelow len most (stages.Under stream number) = stream.size < most

-- what is settled of the bytes taken was opened and written, and nothing is refused
pub record SettledOn (ciphers : List SegmentCipher) (stage : Stage) (taken held written : List ℕ)
    (old new : SinkState) : Type 0 where
  pub more : List ℕ
  pub took : Took old new more
  pub stands : StandsAt ciphers stage taken held (written ++ more)
  pub output : released ciphers taken false ≡ written ++ more
  pub waits : decides ciphers taken false ≡ None
