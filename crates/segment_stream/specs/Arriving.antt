-- A stream that is opened as its bytes arrive, in pieces of any size.
--
--   StandsAt    what is known of the bytes taken at a stage: keys that don't fit, or the key that is chosen
--   HasOpened   exactly what the bytes taken release was written, and they decide nothing
--   Opens       more bytes were taken, and what they release was written
--   OpensLast   the stream was ended, and is whole
--   Feeds       a list of pieces was taken
--   OpenStops, OpenStopsLast   why opening stopped, and what was written by then
use Rattle.std.specs.Prelude.{◌≡◌, ℕ, ◌+◌, ◌<◌, ◌≤◌, ◌^◌, List, [], ◌∷◌, ◌++◌, length, drop, Bool, true, false, None, All}
use Rattle.tink_spec.specs.Outside.{SinkState, Took}
use Rattle.segment_stream.specs.Cipher.{SegmentCipher, IsCipher}
use Rattle.segment_stream.specs.Halting.{Halts, IsOpened}
use Rattle.segment_stream.specs.KeysModel.{KeysForStreams}
use Rattle.segment_stream.specs.Opening.{chosen, choose, decides, released}
use Rattle.segment_stream.specs.Pumping.{Follows, opening_any}
use Rattle.segment_stream.specs.Segments.{ciphers_of}
use Rattle.segment_stream.specs.StreamKeys.{largest_of}
use Rattle.segment_stream.specs.Streams.{IsUnder, StreamState}
use Rattle.segment_stream.specs.Under.{Standing}
use Rattle.segment_stream.specs.declared.settling.Stage.{Stage}
use Rattle.segment_stream.specs.declared.settling.Stage.TheVariants as stages
use Rattle.segment_stream.specs.declared.fault.OpenPumpFault.{OpenPumpFault}

-- the keys, in their order, and the associated data; the stage; and the bytes that aren't opened yet
pub record OpeningState : Type 0 where
  pub keys : KeysForStreams
  pub ad : List ℕ
  pub stage : Stage
  pub held : List ℕ

-- as many keys are tried as there are, or the segments under the key chosen have fewer bytes than the buffer has
-- room for
abbrev pub FitsAt : (count capacity : ℕ) → Stage → Type 0
FitsAt count capacity (stages.Trying tried) = tried ≤ count
FitsAt count capacity (stages.Under stream number) =
    (0 < stream.size) × (stream.size < capacity) × (1 ≤ number) × (number < 2 ^ 32)

-- the buffer has room for one byte more than the largest segment, and holds fewer
pub record IsArriving (keys : KeysForStreams) (stage : Stage) (len filled capacity : ℕ) : Type 0 where
  pub room : capacity ≡ largest_of keys.keys + 1
  pub within : len ≤ filled
  pub short : len < capacity
  pub fits : FitsAt (length keys.keys) capacity stage

-- ---- what is known at a stage

-- so many keys in front don't fit, whatever follows, which is nothing where the end was seen
abbrev pub Passed : List SegmentCipher → (count : ℕ) → (taken : List ℕ) → (ended : Bool) → Type 0
Passed ciphers count taken ended = (more : List ℕ) (e : Bool) → Follows ended more e
    → choose ciphers (taken ++ more) e ≡ choose (drop count ciphers) (taken ++ more) e

-- this key is chosen, whatever follows
abbrev pub IsChosen : List SegmentCipher → SegmentCipher → (taken : List ℕ) → (ended : Bool) → Type 0
IsChosen ciphers key taken ended = (more : List ℕ) (e : Bool) → Follows ended more e
    → choose ciphers (taken ++ more) e ≡ chosen key

-- so many keys don't fit, and all that was taken is held
pub record IsTrying (ciphers : List SegmentCipher) (tried : ℕ) (taken held written : List ℕ) : Type 0 where
  pub passed : Passed ciphers tried taken false
  pub all : held ≡ taken
  pub none : written ≡ []

-- a key is chosen, and opening stands under it
pub record IsUnderKey (ciphers : List SegmentCipher) (stream : StreamState) (number : ℕ)
    (taken held written : List ℕ) : Type 0 where
  pub key : SegmentCipher
  pub header : List ℕ
  pub under : IsUnder stream key header
  pub choice : IsChosen ciphers key taken false
  pub stands : Standing key header taken number held written

-- what is known at a stage
abbrev pub StandsAt : List SegmentCipher → Stage → (taken held written : List ℕ) → Type 0
StandsAt ciphers (stages.Trying tried) taken held written = IsTrying ciphers tried taken held written
StandsAt ciphers (stages.Under stream number) taken held written =
    IsUnderKey ciphers stream number taken held written

-- Of a stream under these ciphers these bytes were taken: exactly what they release was written, and they decide
-- no refusal.
pub record HasOpened (opening : OpeningState) (ciphers : List SegmentCipher) (taken written : List ℕ) :
    Type 0 where
  pub under : ciphers ≡ ciphers_of opening.ad opening.keys.keys
  pub are : All IsCipher ciphers
  pub stands : StandsAt ciphers opening.stage taken opening.held written
  pub output : released ciphers taken false ≡ written
  pub waits : decides ciphers taken false ≡ None

-- ---- calls

-- these bytes were taken too, and what they release was written
pub record OpenedOn (later : OpeningState) (ciphers : List SegmentCipher) (taken written : List ℕ)
    (old new : SinkState) : Type 0 where
  pub more : List ℕ
  pub took : Took old new more
  pub has : HasOpened later ciphers taken (written ++ more)

-- whatever was taken and written before
abbrev pub Opens : OpeningState → OpeningState → (bytes : List ℕ) → SinkState → SinkState → Type 0
Opens opening later bytes old new = (ciphers : List SegmentCipher) (taken written : List ℕ)
    → HasOpened opening ciphers taken written
    → OpenedOn later ciphers (taken ++ bytes) written old new

-- these bytes aren't opened, whatever was taken and written before
abbrev pub OpenStops : OpenPumpFault → OpeningState → (bytes : List ℕ) → SinkState → SinkState → Type 0
OpenStops fault opening bytes old new = (ciphers : List SegmentCipher) (taken written : List ℕ)
    → HasOpened opening ciphers taken written
    → Halts (opening_any ciphers) fault (taken ++ bytes) written false old new

-- all that was taken is a whole stream, or isn't
abbrev pub OpensLast : OpeningState → SinkState → SinkState → Type 0
OpensLast opening old new = (ciphers : List SegmentCipher) (taken written : List ℕ)
    → HasOpened opening ciphers taken written
    → IsOpened (opening_any ciphers) taken written old new

abbrev pub OpenStopsLast : OpenPumpFault → OpeningState → SinkState → SinkState → Type 0
OpenStopsLast fault opening old new = (ciphers : List SegmentCipher) (taken written : List ℕ)
    → HasOpened opening ciphers taken written
    → Halts (opening_any ciphers) fault taken written true old new

-- these pieces arrived, one after another, and all of them were opened as far as they are settled
abbrev pub Feeds : OpeningState → List (List ℕ) → OpeningState → SinkState → SinkState → Type 0
Feeds opening [] later old new = (opening ≡ later) × (old ≡ new)
Feeds opening (piece ∷ pieces) later old new = (next : OpeningState) × ((between : SinkState)
    × (Opens opening next piece old between × Feeds next pieces later between new))
