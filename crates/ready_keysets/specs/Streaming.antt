-- Streams of a keyset, sealed and opened in pieces, and what each call gives of them.
--
--   AreServing    keys that are ready for streams are those of their keyset
--   IsStreamsOf, IsNoStreams   what was made of a text, and why nothing was
--   SealsOn       a sealing has taken this plaintext, and this much of its stream was given
--   IsSealedWhole   the plaintext was taken to its end
--   SealAnswers, SealEnds   what calls of a sealing answer
--   OpensOn, IsOpenedWhole, OpenAnswers, OpenEnds   the same of an opening
use Rattle.std.specs.Prelude.{◌≡◌, ◌<◌, ◌⊎◌, ◌^◌, ◌+◌, ℕ, Bool, true, false, List, [], ◌++◌, length, take, Some, None, Result, Ok, Err, IsErr, IsSome}
use Rattle.keyset_model.specs.Keyset.{Keys}
use Rattle.segment_stream.specs.Arriving.{HasOpened, OpeningState}
use Rattle.segment_stream.specs.Cipher.{SegmentCipher}
use Rattle.segment_stream.specs.KeysModel.{AreOf, AreSound, KeysForStreams}
use Rattle.segment_stream.specs.Opening.{StreamRefusal, decides, failed, stream_answer, too_many}
use Rattle.segment_stream.specs.Pushing.{HasSealed, SealingState}
use Rattle.segment_stream.specs.Sealing.{header_of, many_plain, sealed_behind}
use Rattle.segment_stream.specs.Segments.{cipher_of}
use Rattle.segment_stream.specs.StreamKeys.{stream_unfit}
use Rattle.segment_stream.specs.declared.fault.OpenPumpFault.{OpenPumpFault}
use Rattle.segment_stream.specs.declared.fault.OpenPumpFault.TheVariants as faults
use Rattle.ready_keysets.specs.Keeping.{IsGiven}
use Rattle.ready_keysets.specs.declared.opening.StreamOpening.{StreamOpening}
use Rattle.ready_keysets.specs.declared.refusal.Refusal.{Refusal}
use Rattle.ready_keysets.specs.declared.refusal.Refusal.TheVariants as refusals
use Rattle.ready_keysets.specs.declared.step.StepFault.{StepFault}
use Rattle.ready_keysets.specs.declared.step.StepFault.TheVariants as steps
use Rattle.ready_keysets.specs.declared.sealing.StreamSealing.{StreamSealing}
use Rattle.ready_keysets.specs.declared.streams.StreamKeyset.{StreamKeyset}

-- ---- keysets

-- the keys are those that the keyset has for streams, and each ENABLED record gives one
pub record AreServing (made : StreamKeyset) : Type 0 where
  pub of' : AreOf made.keys made.keyset
  pub sound : AreSound made.keys
  pub fit : stream_unfit made.keyset ≡ None

-- they are those of the keyset that was read
pub record IsStreamsOf {X : Type 0} (read : Result Keys X) (made : StreamKeyset) : Type 0 where
  pub serving : AreServing made
  pub keyset : read ≡ Ok made.keyset

-- an ENABLED record gives no key for streams. Of want of memory nothing is said.
abbrev pub IsUnfitForStreams : Keys → Refusal → Type 0
IsUnfitForStreams keys refusals.UnfitKey = IsSome (stream_unfit keys)
IsUnfitForStreams keys refusals.NoMemory = Unit {0}
IsUnfitForStreams keys _ = ⊥

-- a keyset was read, and an ENABLED record of it gives no key for streams
pub record ReadNoStreams {X : Type 0} (read : Result Keys X) : Type 0 where
  pub keys : Keys
  pub keyset : read ≡ Ok keys
  pub unfit : IsSome (stream_unfit keys)

-- why none was made of so many bytes. Of want of memory nothing is said.
abbrev pub IsNoStreams : {X : Type 0} → ℕ → Result Keys X → Refusal → Type 0
IsNoStreams size read refusals.TooLong = 2 ^ 30 < size
IsNoStreams size read refusals.NoKeyset = IsErr read
IsNoStreams size read refusals.UnfitKey = ReadNoStreams read
IsNoStreams size read refusals.NoMemory = Unit {0}
IsNoStreams size read _ = ⊥

-- ---- sealing

-- Of the stream of a cipher behind a header this plaintext was taken, and this much of it was given. All that is
-- settled was given, but for what is kept.
pub record SealsOn (sealing : StreamSealing) (cipher : SegmentCipher) (header taken given : List ℕ) :
    Type 0 where
  pub stream : SealingState
  pub open' : sealing.stream ≡ Some stream
  pub going : sealing.whole ≡ false
  pub has : HasSealed stream cipher header taken (given ++ sealing.kept.bytes.items)

-- the whole stream of this plaintext was given, but for what is kept
pub record IsSealedWhole (sealing : StreamSealing) (cipher : SegmentCipher) (header taken given : List ℕ) :
    Type 0 where
  pub closed : sealing.stream ≡ None
  pub ended : sealing.whole ≡ true
  pub all : given ++ sealing.kept.bytes.items ≡ sealed_behind cipher header taken true
  pub few : many_plain cipher header taken ≡ None

-- a sealing that has begun: the header is still to be given
abbrev pub HasBegun : KeysForStreams → (ad random : List ℕ) → StreamSealing → Type 0
HasBegun keys ad random sealing =
    SealsOn sealing (cipher_of ad keys.primary)
    (header_of (cipher_of ad keys.primary) (take (keys.primary.derived + 7) random)) [] []

-- why it hasn't. Of want of memory nothing is said.
abbrev pub HasNotBegun : KeysForStreams → (random : List ℕ) → StepFault → Type 0
HasNotBegun keys random steps.FewRandomBytes = length random < keys.primary.derived + 7
HasNotBegun keys random steps.NoMemory = Unit {0}
HasNotBegun keys random _ = ⊥

-- this plaintext was taken too, and these bytes were given, whatever was before
abbrev pub SealsMore : StreamSealing → StreamSealing → (plain piece : List ℕ) → Type 0
SealsMore sealing later plain piece = (cipher : SegmentCipher) (header taken given : List ℕ)
    → SealsOn sealing cipher header taken given
    → SealsOn later cipher header (taken ++ plain) (given ++ piece)

-- the stream is sealed to its end, and these bytes were given
abbrev pub SealsToEnd : StreamSealing → StreamSealing → (piece : List ℕ) → Type 0
SealsToEnd sealing later piece = (cipher : SegmentCipher) (header taken given : List ℕ)
    → SealsOn sealing cipher header taken given ⊎ IsSealedWhole sealing cipher header taken given
    → IsSealedWhole later cipher header taken (given ++ piece)

-- the plaintext has too many segments with these bytes
abbrev pub SealsTooMany : StreamSealing → (plain : List ℕ) → Type 0
SealsTooMany sealing plain = (cipher : SegmentCipher) (header taken given : List ℕ)
    → SealsOn sealing cipher header taken given
    → many_plain cipher header (taken ++ plain) ≡ Some too_many

-- a call has failed: from now on each call is answered that the stream has ended
abbrev pub SealingFailed : StreamSealing → StreamSealing → Type 0
SealingFailed sealing later =
    IsSome sealing.stream × (later.stream ≡ None) × (later.whole ≡ sealing.whole)

-- what a call with more plaintext answers. Where there isn't room enough, the plaintext was taken all the same.
abbrev pub SealAnswers : (sealing later : StreamSealing) → (plain old new : List ℕ) → Result ℕ StepFault → Type 0
SealAnswers sealing later plain old new (Ok size) =
    IsSome sealing.stream × IsGiven (take size new) old new size × (later.kept.bytes.items ≡ [])
    × SealsMore sealing later plain (take size new)
SealAnswers sealing later plain old new (Err steps.NoRoom) =
    IsSome sealing.stream × (length old < length later.kept.bytes.items) × SealsMore sealing later plain []
SealAnswers sealing later plain old new (Err steps.TooManySegments) =
    SealingFailed sealing later × SealsTooMany sealing plain
SealAnswers sealing later plain old new (Err steps.Ended) = sealing.stream ≡ None
SealAnswers sealing later plain old new (Err steps.NoMemory) = SealingFailed sealing later
SealAnswers sealing later plain old new (Err _) = ⊥

-- the plaintext may be ended, or was ended before
abbrev pub MaySealLast : StreamSealing → Type 0
MaySealLast sealing = IsSome sealing.stream ⊎ (sealing.whole ≡ true)

-- what the call at the plaintext's end answers
abbrev pub SealEnds : (sealing later : StreamSealing) → (old new : List ℕ) → Result ℕ StepFault → Type 0
SealEnds sealing later old new (Ok size) =
    MaySealLast sealing × IsGiven (take size new) old new size × (later.kept.bytes.items ≡ [])
    × SealsToEnd sealing later (take size new)
SealEnds sealing later old new (Err steps.NoRoom) =
    MaySealLast sealing × (length old < length later.kept.bytes.items) × SealsToEnd sealing later []
SealEnds sealing later old new (Err steps.Ended) = (sealing.stream ≡ None) × (sealing.whole ≡ false)
SealEnds sealing later old new (Err steps.NoMemory) = SealingFailed sealing later
SealEnds sealing later old new (Err _) = ⊥

-- ---- opening

-- Of a stream under these ciphers these bytes were taken, which decide no refusal, and this much of its plaintext was
-- given. All that they release was given, but for what is kept.
pub record OpensOn (opening : StreamOpening) (ciphers : List SegmentCipher) (taken given : List ℕ) : Type 0
  where
    pub stream : OpeningState
    pub open' : opening.stream ≡ Some stream
    pub going : opening.whole ≡ false
    pub has : HasOpened stream ciphers taken (given ++ opening.kept.bytes.items)

-- the bytes are a whole stream, and its plaintext was given, but for what is kept
pub record IsOpenedWhole (opening : StreamOpening) (ciphers : List SegmentCipher) (taken given : List ℕ) :
    Type 0 where
  pub closed : opening.stream ≡ None
  pub ended : opening.whole ≡ true
  pub all : stream_answer ciphers taken ≡ (given ++ opening.kept.bytes.items, None)

-- these bytes were taken too, and this plaintext was given, whatever was before
abbrev pub OpensMore : StreamOpening → StreamOpening → (bytes piece : List ℕ) → Type 0
OpensMore opening later bytes piece = (ciphers : List SegmentCipher) (taken given : List ℕ)
    → OpensOn opening ciphers taken given
    → OpensOn later ciphers (taken ++ bytes) (given ++ piece)

-- all that was taken is a whole stream, and this plaintext was given
abbrev pub OpensToEnd : StreamOpening → StreamOpening → (piece : List ℕ) → Type 0
OpensToEnd opening later piece = (ciphers : List SegmentCipher) (taken given : List ℕ)
    → OpensOn opening ciphers taken given ⊎ IsOpenedWhole opening ciphers taken given
    → IsOpenedWhole later ciphers taken (given ++ piece)

-- what was taken decides with these bytes that it is no stream, at the end or before it
abbrev pub OpensNone : StreamOpening → (bytes : List ℕ) → (at_end : Bool) → (StreamRefusal → Type 0) → Type 0
OpensNone opening bytes at_end Is = (ciphers : List SegmentCipher) (taken given : List ℕ)
    → OpensOn opening ciphers taken given
    → (refusal : StreamRefusal) × (decides ciphers (taken ++ bytes) at_end ≡ Some refusal) × Is refusal

-- a segment doesn't authenticate in its place
abbrev pub IsFailed : StreamRefusal → Type 0
IsFailed too_many = ⊥
IsFailed (failed number) = Unit {0}

-- what a fault of opening is called. What is kept is in memory, and nothing is read.
abbrev pub fault_of : OpenPumpFault → StepFault
fault_of (faults.StreamFailed number) = steps.Refused
fault_of faults.TooManySegments = steps.TooManySegments
fault_of faults.ReadFault = steps.NoMemory
fault_of faults.WriteFault = steps.NoMemory

-- a call has failed: from now on each call is answered that the stream has ended
abbrev pub OpeningFailed : StreamOpening → StreamOpening → Type 0
OpeningFailed opening later =
    IsSome opening.stream × (later.stream ≡ None) × (later.whole ≡ opening.whole)

-- what a call with more bytes answers. Where there isn't room enough, the bytes were taken all the same.
abbrev pub OpenAnswers : (opening later : StreamOpening) → (bytes old new : List ℕ) → Result ℕ StepFault → Type 0
OpenAnswers opening later bytes old new (Ok size) =
    IsSome opening.stream × IsGiven (take size new) old new size × (later.kept.bytes.items ≡ [])
    × OpensMore opening later bytes (take size new)
OpenAnswers opening later bytes old new (Err steps.NoRoom) =
    IsSome opening.stream × (length old < length later.kept.bytes.items) × OpensMore opening later bytes []
OpenAnswers opening later bytes old new (Err steps.Refused) =
    OpeningFailed opening later × OpensNone opening bytes false IsFailed
OpenAnswers opening later bytes old new (Err steps.TooManySegments) =
    OpeningFailed opening later × OpensNone opening bytes false (λ refusal. refusal ≡ too_many)
OpenAnswers opening later bytes old new (Err steps.Ended) = opening.stream ≡ None
OpenAnswers opening later bytes old new (Err steps.NoMemory) = OpeningFailed opening later
OpenAnswers opening later bytes old new (Err _) = ⊥

-- the stream may be ended, or was ended before
abbrev pub MayOpenLast : StreamOpening → Type 0
MayOpenLast opening = IsSome opening.stream ⊎ (opening.whole ≡ true)

-- what the call at the stream's end answers
abbrev pub OpenEnds : (opening later : StreamOpening) → (old new : List ℕ) → Result ℕ StepFault → Type 0
OpenEnds opening later old new (Ok size) =
    MayOpenLast opening × IsGiven (take size new) old new size × (later.kept.bytes.items ≡ [])
    × OpensToEnd opening later (take size new)
OpenEnds opening later old new (Err steps.NoRoom) =
    MayOpenLast opening × (length old < length later.kept.bytes.items) × OpensToEnd opening later []
OpenEnds opening later old new (Err steps.Refused) =
    OpeningFailed opening later × OpensNone opening [] true IsFailed
OpenEnds opening later old new (Err steps.TooManySegments) =
    OpeningFailed opening later × OpensNone opening [] true (λ refusal. refusal ≡ too_many)
OpenEnds opening later old new (Err steps.Ended) = (opening.stream ≡ None) × (opening.whole ≡ false)
OpenEnds opening later old new (Err steps.NoMemory) = OpeningFailed opening later
OpenEnds opening later old new (Err _) = ⊥
