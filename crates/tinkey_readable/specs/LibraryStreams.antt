-- Streams of the library beside those of the program: what calls sealed in pieces, and what runs of sseal and
-- sreseal put out, runs of sopen and srange open, and so do calls in pieces. What a call says is what the clauses of
-- StreamKeyset, StreamSealing and StreamOpening say.
--
--   IsStreamHandle   a handle for streams of a keyset, in clear or encrypted
--   Piece, Room      a call with a piece, and one at the end that lacked room
--   WereSealed, WereSealedOut   calls of a sealing, one after another
--   WereOpened, WereOpenedOut   the same of an opening
--   WasSealedByCalls   calls sealed a plaintext to its end
--   IsOpenedByCalls    what calls say of a stream that opens
--   WasStreamMade      a stream was sealed by a run or by calls, and resealed by runs
--   IsStreamRead       runs and calls open it
--   LibraryStreamsOpen ..   the laws
use Rattle.std.specs.Prelude.{◌≡◌, ◌<◌, ◌+◌, ℕ, List, [], ◌∷◌, ◌++◌, length, take, map as each, None, Some, Result, Ok, Err}
use Rattle.std.specs.List.{concat}
use Rattle.keyset_json.specs.Reading.{reads_json}
use Rattle.keyset_model.specs.Keyset.{Keys, primary_of}
use Rattle.keyset_model.specs.Reading.{reads_binary}
use Rattle.keyset_model.specs.declared.record.Record.{Record}
use Rattle.ready_keysets.specs.Streaming.{HasBegun, IsNoStreams, IsStreamsOf, OpenAnswers, OpenEnds, OpensOn, SealAnswers, SealEnds}
use Rattle.ready_keysets.specs.Unwrapping.{IsNoStreamsInside}
use Rattle.ready_keysets.specs.declared.opening.StreamOpening.{StreamOpening}
use Rattle.ready_keysets.specs.declared.refusal.Refusal.{Refusal}
use Rattle.ready_keysets.specs.declared.refusal.Refusal.TheVariants as refusals
use Rattle.ready_keysets.specs.declared.sealing.StreamSealing.{StreamSealing}
use Rattle.ready_keysets.specs.declared.step.StepFault.{StepFault}
use Rattle.ready_keysets.specs.declared.step.StepFault.TheVariants as steps
use Rattle.ready_keysets.specs.declared.streams.StreamKeyset.{StreamKeyset}
use Rattle.segment_stream.specs.Laws.{IsFront}
use Rattle.segment_stream.specs.Segments.{ciphers_of}
use Rattle.segment_stream.specs.StreamKeys.{stream_unfit}
use Rattle.tinkey_plans.specs.Plan.{Told}
use Rattle.tinkey_readable.specs.Anywhere.{ServesStreams}
use Rattle.tinkey_readable.specs.Calls.{inside_of}
use Rattle.tinkey_readable.specs.LockedRuns.{GivesUnder}
use Rattle.tinkey_readable.specs.Lying.{Lies, Lying, clear, sealed_under}
use Rattle.tinkey_readable.specs.RangeRuns.{IsRanged}
use Rattle.tinkey_readable.specs.ResealedStreams.{AreStreamsResealed}
use Rattle.tinkey_readable.specs.Resealing.{SealedText}
use Rattle.tinkey_readable.specs.Runs.{Written, keyset_of}
use Rattle.tinkey_readable.specs.StreamRuns.{IsOpened, NoOtherBefore, WasSealed}
use Rattle.tinkey_words.specs.declared.words.rows.Format.{Format}
use Rattle.tinkey_words.specs.declared.words.rows.Format.TheVariants as formats
use Rattle.wrapped_prims.specs.Laws.{HasKey}

-- ---- handles

-- a handle for streams was made of this text, in this form
abbrev pub AreStreamsIn : Format → (text : List ℕ) → StreamKeyset → Type 0
AreStreamsIn formats.Json text made = IsStreamsOf (reads_json text) made
AreStreamsIn formats.Binary text made = IsStreamsOf (reads_binary text) made

-- A handle for streams was made of this keyset: of the text that it is, in either form; or of an encrypted text
-- and the text of a master, under which it gives the keyset.
pub data IsStreamHandle (keys : Keys) (made : StreamKeyset) : Type 0 where
  streams_of_text : (written : Written) → keyset_of written ≡ Some keys →
      AreStreamsIn written.form written.bytes made → IsStreamHandle keys made
  streams_of_wrapped : (master text : Written) (over : Keys) → keyset_of master ≡ Some over →
      GivesUnder over text keys → IsStreamsOf (inside_of master text) made → IsStreamHandle keys made

-- why none was made of this text, in this form
abbrev pub AreNoStreamsIn : Format → (text : List ℕ) → Refusal → Type 0
AreNoStreamsIn formats.Json text refusal = IsNoStreams (length text) (reads_json text) refusal
AreNoStreamsIn formats.Binary text refusal = IsNoStreams (length text) (reads_binary text) refusal

-- ---- calls, one after another

-- a call with a piece: the bytes that it takes, the caller's bytes before and after it, and what it answers
pub record Piece : Type 0 where
  pub takes : List ℕ
  pub old : List ℕ
  pub new : List ℕ
  pub result : Result ℕ StepFault

-- what it gave
abbrev pub given_by : (new : List ℕ) → Result ℕ StepFault → List ℕ
given_by new (Ok size) = take size new
given_by new (Err fault) = []

-- all that pieces took, and all that they gave
abbrev pub taken_in : List Piece → List ℕ
taken_in pieces = concat (each (λ (piece : Piece). piece.takes) pieces)

abbrev pub given_in : List Piece → List ℕ
given_in pieces = concat (each (λ (piece : Piece). given_by piece.new piece.result) pieces)

-- the call was done, or lacked room: then a later one gives what it hasn't
abbrev pub GoesOn : Result ℕ StepFault → Type 0
GoesOn (Ok size) = Unit {0}
GoesOn (Err steps.NoRoom) = Unit {0}
GoesOn (Err _) = ⊥

-- a call at the end that lacked room: the caller's bytes before and after it
pub record Room : Type 0 where
  pub old : List ℕ
  pub new : List ℕ

-- pieces of a plaintext, of which each goes on with the sealing that the one before left
abbrev pub WereSealed : StreamSealing → List Piece → (last : StreamSealing) → Type 0
WereSealed sealing [] last = sealing ≡ last
WereSealed sealing (piece ∷ later) last = (next : StreamSealing)
    × SealAnswers sealing next piece.takes piece.old piece.new piece.result × GoesOn piece.result
    × WereSealed next later last

-- calls at its end that lacked room
abbrev pub WereSealedOut : StreamSealing → List Room → (last : StreamSealing) → Type 0
WereSealedOut sealing [] last = sealing ≡ last
WereSealedOut sealing (room ∷ later) last = (next : StreamSealing)
    × SealEnds sealing next room.old room.new (Err steps.NoRoom) × WereSealedOut next later last

-- the same of the pieces of a stream that is opened
abbrev pub WereOpened : StreamOpening → List Piece → (last : StreamOpening) → Type 0
WereOpened opening [] last = opening ≡ last
WereOpened opening (piece ∷ later) last = (next : StreamOpening)
    × OpenAnswers opening next piece.takes piece.old piece.new piece.result × GoesOn piece.result
    × WereOpened next later last

abbrev pub WereOpenedOut : StreamOpening → List Room → (last : StreamOpening) → Type 0
WereOpenedOut opening [] last = opening ≡ last
WereOpenedOut opening (room ∷ later) last = (next : StreamOpening)
    × OpenEnds opening next room.old room.new (Err steps.NoRoom) × WereOpenedOut next later last

-- ---- what calls made

-- Calls sealed this plaintext to its end, by a handle of a keyset whose primary record this is, in whatever pieces;
-- what they gave, one after another, is this stream.
pub record WasSealedByCalls (ad plain stream : List ℕ) (r : Record) : Type 0 where
  pub keys : Keys
  pub primary : primary_of keys ≡ Some r
  pub made : StreamKeyset
  pub handle : IsStreamHandle keys made
  pub random : List ℕ
  pub begun : StreamSealing
  pub begins : HasBegun made.keys ad random begun
  pub pieces : List Piece
  pub taken : StreamSealing
  pub were : WereSealed begun pieces taken
  pub takes : taken_in pieces ≡ plain
  pub rooms : List Room
  pub last : StreamSealing
  pub lacked : WereSealedOut taken rooms last
  pub ended : StreamSealing
  pub old : List ℕ
  pub new : List ℕ
  pub size : ℕ
  pub ends : SealEnds last ended old new (Ok size)
  pub gave : given_in pieces ++ take size new ≡ stream

-- ---- what calls say

-- a call with a piece isn't refused
abbrev pub IsUnrefused : Result ℕ StepFault → Type 0
IsUnrefused (Ok size) = Unit {0}
IsUnrefused (Err steps.NoRoom) = Unit {0}
IsUnrefused (Err steps.NoMemory) = Unit {0}
IsUnrefused (Err _) = ⊥

-- A call at the end completes the plaintext; or the caller's bytes are fewer than what is to come, or memory was
-- refused.
abbrev pub SaysAtEnd : (given plain old new : List ℕ) → Result ℕ StepFault → Type 0
SaysAtEnd given plain old new (Ok size) = given ++ take size new ≡ plain
SaysAtEnd given plain old new (Err steps.NoRoom) = length given + length old < length plain
SaysAtEnd given plain old new (Err steps.NoMemory) = Unit {0}
SaysAtEnd given plain old new (Err _) = ⊥

-- an opening has taken these pieces, one after another from its beginning
pub record HasTaken (ad : List ℕ) (made : StreamKeyset) (pieces : List Piece) (last : StreamOpening) :
    Type 0 where
  pub begun : StreamOpening
  pub begins : OpensOn begun (ciphers_of ad made.keys.keys) [] []
  pub were : WereOpened begun pieces last

-- Calls by a handle open a stream to this plaintext, in whatever pieces it comes: none of its pieces is refused;
-- what was given after some of them are the first bytes of the plaintext; and the call at its end gives the rest.
pub record IsOpenedByCalls (ad : List ℕ) (made : StreamKeyset) (stream plain : List ℕ) : Type 0 where
  pub unrefused : (pieces : List Piece) (last later : StreamOpening) (piece : Piece) (rest : List ℕ)
      → HasTaken ad made pieces last
      → OpenAnswers last later piece.takes piece.old piece.new piece.result
      → taken_in pieces ++ piece.takes ++ rest ≡ stream → IsUnrefused piece.result
  pub front : (pieces : List Piece) (last : StreamOpening) (rest : List ℕ)
      → HasTaken ad made pieces last → taken_in pieces ++ rest ≡ stream
      → IsFront (given_in pieces) plain
  pub ends : (pieces : List Piece) (rooms : List Room) (last before later : StreamOpening)
      (old new : List ℕ) (result : Result ℕ StepFault)
      → HasTaken ad made pieces last → taken_in pieces ≡ stream
      → WereOpenedOut last rooms before → OpenEnds before later old new result
      → SaysAtEnd (given_in pieces) plain old new result

-- ---- the laws

-- a run of sseal that was Done, or calls, sealed this plaintext as this stream, by the key of this primary record
pub data WasStreamSealed (ad plain stream : List ℕ) (r : Record) : Type 0 where
  sealed_by_run : (before : Lying) (old : Keys) (told : Told) → Lies before old → primary_of old ≡ Some r →
      WasSealed ad before told stream → told.input ≡ plain → WasStreamSealed ad plain stream r
  sealed_by_calls : WasSealedByCalls ad plain stream r → WasStreamSealed ad plain stream r

-- so a stream was sealed, and runs of sreseal resealed it any number of times, at last by the key of this record
pub record WasStreamMade (ad plain stream : List ℕ) (r : Record) : Type 0 where
  pub first : SealedText
  pub sealed : WasStreamSealed ad plain first.bytes first.under'
  pub between : List SealedText
  pub are : AreStreamsResealed ad first between (record { under' = r; bytes = stream })

-- It opens to this plaintext over each keyset in which this record's key is there, ENABLED, where no other key
-- before it opens the stream's first segment: by runs of sopen over each that serves streams, of which srange gives
-- slices; and by calls of each handle of one.
pub record IsStreamRead (ad stream plain : List ℕ) (r : Record) : Type 0 where
  pub by_run : (other : Lying) (keys : Keys) → ServesStreams other keys → (has : HasKey r keys)
      → NoOtherBefore r has.place ad stream keys → IsOpened ad other stream plain
  pub by_range : (other : Lying) (keys : Keys) → ServesStreams other keys → (has : HasKey r keys)
      → NoOtherBefore r has.place ad stream keys → IsRanged ad other stream plain
  pub by_calls : (keys : Keys) (made : StreamKeyset) → IsStreamHandle keys made → (has : HasKey r keys)
      → NoOtherBefore r has.place ad stream keys → IsOpenedByCalls ad made stream plain

abbrev pub LibraryStreamsOpen : Type 0
LibraryStreamsOpen = (ad plain stream : List ℕ) (r : Record) → WasStreamMade ad plain stream r
    → IsStreamRead ad stream plain r

-- Of each keyset that sseal and sopen accept a handle for streams is made, unless memory is refused.
abbrev pub StreamHandlesAreMade : Type 0
StreamHandlesAreMade = (written : Written) (keys : Keys) (refusal : Refusal)
    → ServesStreams (clear written) keys → AreNoStreamsIn written.form written.bytes refusal
    → refusal ≡ refusals.NoMemory

-- the same of one that lies under a master
abbrev pub WrappedStreamHandlesAreMade : Type 0
WrappedStreamHandlesAreMade = (master text : Written) (keys : Keys) (refusal : Refusal)
    → ServesStreams (sealed_under master text) keys
    → IsNoStreamsInside (length text.bytes) (length master.bytes) (inside_of master text) refusal
    → refusal ≡ refusals.NoMemory

-- The ENABLED records of the keyset of a handle all give keys for streams, so a command accepts it too where it is
-- within its limit.
abbrev pub StreamHandlesServe : Type 0
StreamHandlesServe = (keys : Keys) (made : StreamKeyset) → IsStreamHandle keys made → stream_unfit keys ≡ None
