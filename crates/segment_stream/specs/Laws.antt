-- The laws of streams, over the definitions alone.
use Rattle.std.specs.Prelude.{◌≡◌, ℕ, ◌+◌, ◌-◌, ◌*◌, ◌<◌, ◌≤◌, List, [], ◌∷◌, ◌++◌, length, Bool, true, false, Some, None, All}
use Rattle.segment_stream.specs.Pieces.{piece, followed, leading}
use Rattle.segment_stream.specs.Cipher.{SegmentCipher, IsCipher, most_segments}
use Rattle.std.specs.Prelude.{take, drop, if◌then◌else◌}
use Rattle.std.specs.List.{concat}
use Rattle.segment_stream.specs.Cipher.{behind_header}
use Rattle.segment_stream.specs.Opening.{choose, chosen, is_decided, fits, released, decides, released_by, decides_by, stream_answer, StreamRefusal, too_many}
use Rattle.segment_stream.specs.Under.{Standing, SealStanding}
use Rattle.segment_stream.specs.Resealing.{reseal_answer, reseal_decides, resealed, unfinished}
use Rattle.segment_stream.specs.Range.{range_of, past_end}
use Rattle.tink_spec.specs.Outside.{SourceState, SinkState}
use Rattle.std.specs.Prelude.{Result, ◌⊎◌}
use Rattle.segment_stream.specs.declared.fault.OpenPumpFault.{OpenPumpFault}
use Rattle.segment_stream.specs.declared.fault.OpenPumpFault.TheVariants.{ReadFault, WriteFault}
use Rattle.segment_stream.specs.Arriving.{Feeds, HasOpened, OpenStops, OpenStopsLast, OpeningState, OpensLast}
use Rattle.segment_stream.specs.Pumping.{Pumps, opening_any, resealing, sealing, result_of}
use Rattle.std.specs.Prelude.{Ok, Err, nat_lt}
use Rattle.segment_stream.specs.KeysModel.{AreSound, KeysForStreams}
use Rattle.segment_stream.specs.Segments.{cipher_of, ciphers_of, IsSound}
use Rattle.segment_stream.specs.declared.key.StreamKey.{StreamKey}
use Rattle.segment_stream.specs.Sealing.{sealed, sealed_behind, many_plain, seal_decides, plain_size, header_of}

-- the second is the first and more
abbrev pub IsFront : List ℕ → List ℕ → Type 0
IsFront front whole = (more : List ℕ) × (front ++ more ≡ whole)

-- what was released stands when bytes follow
abbrev pub ReleasedPrefix : Type 0
ReleasedPrefix = (keys : List SegmentCipher) (taken more : List ℕ) (ended : Bool)
    → All IsCipher keys
    → IsFront (released keys taken false) (released keys (taken ++ more) ended)

-- what is decided before the end stays decided, with its output, when bytes follow
abbrev pub DecidedStays : Type 0
DecidedStays = (keys : List SegmentCipher) (taken more : List ℕ) (ended : Bool)
    (refusal : StreamRefusal) → All IsCipher keys
    → decides keys taken false ≡ Some refusal
    → (decides keys (taken ++ more) ended ≡ Some refusal)
    × (released keys (taken ++ more) ended ≡ released keys taken false)

-- what was sealed stands when bytes follow
abbrev pub SealedPrefix : Type 0
SealedPrefix = (key : SegmentCipher) (random taken more : List ℕ) (ended : Bool) → IsCipher key
    → length random + 1 ≡ key.header
    → IsFront (sealed key random taken false) (sealed key random (taken ++ more) ended)

-- a sealed stream opens under its key
abbrev pub StreamBack : Type 0
StreamBack = (key : SegmentCipher) (random plain : List ℕ) → IsCipher key
    → length random + 1 ≡ key.header → seal_decides key random plain ≡ None
    → stream_answer (key ∷ []) (sealed key random plain true) ≡ (plain, None)

-- a sealed stream is as long as its header, its plaintext and a tag for each segment
abbrev pub SealedLength : Type 0
SealedLength = (key : SegmentCipher) (random plain : List ℕ) → IsCipher key
    → length random + 1 ≡ key.header → seal_decides key random plain ≡ None
    → length (sealed key random plain true) ≡ key.header + length plain
    + (followed (plain_size key) (header_of key random ++ plain) + 1) * key.tag

-- the pieces, joined, are the bytes; each but the final one is full, and the final one is empty
-- only
-- where there are no bytes
abbrev pub PiecesAreAll : Type 0
PiecesAreAll = (size : ℕ) (bytes : List ℕ) → 0 < size
    → (concat (leading (λ i. Some (piece size bytes i)) 0 (followed size bytes + 1)) ≡ bytes)
    × (length bytes ≤ (followed size bytes + 1) * size)
    × (0 < length bytes → followed size bytes * size < length bytes)

-- keys that are decided and don't fit are passed, in their order
abbrev pub TrialsInOrder : Type 0
TrialsInOrder = (front keys : List SegmentCipher) (taken : List ℕ) (ended : Bool)
    → All (λ key. (is_decided key taken ended ≡ true) × (fits key taken ≡ false)) front
    → choose (front ++ keys) taken ended ≡ choose keys taken ended

-- more bytes are held
abbrev pub HoldsMore : Type 0
HoldsMore = (key : SegmentCipher) (header taken : List ℕ) (i : ℕ) (held written more : List ℕ)
    → IsCipher key
    → Standing key header taken i held written
    → Standing key header (taken ++ more) i (held ++ more) written

-- a segment is settled, and opens
abbrev pub OpensOneMore : Type 0
OpensOneMore = (key : SegmentCipher) (header taken : List ℕ) (i : ℕ) (held written plain : List ℕ)
    → IsCipher key
    → Standing key header taken i held written → key.size < length held → i < most_segments
    → key.opens header i false (behind_header key.header i (take key.size held)) ≡ Some plain
    → Standing key header taken (i + 1) (drop key.size held) (written ++ plain)

-- no segment is settled: what was written is what is released, and nothing is decided
abbrev pub StandsReleased : Type 0
StandsReleased = (key : SegmentCipher) (header taken : List ℕ) (i : ℕ) (held written : List ℕ)
    → IsCipher key
    → Standing key header taken i held written → length held ≤ key.size → i < most_segments
    → (released_by (chosen key) taken false ≡ written)
    × (decides_by (chosen key) taken false ≡ None)

-- a segment is settled, and is sealed
abbrev pub SealsOneMore : Type 0
SealsOneMore = (key : SegmentCipher) (header taken : List ℕ) (i : ℕ) (held written : List ℕ)
    → IsCipher key
    → SealStanding key header taken i held written → plain_size key < length held
    → i < most_segments
    → SealStanding key header taken (i + 1) (drop (plain_size key) held)
    (written ++ key.seals header i false (behind_header key.header i (take (plain_size key) held)))

-- at too many segments the output is what the first 2^32 segments and one more byte release
abbrev pub TooManyOutput : Type 0
TooManyOutput = (keys : List SegmentCipher) (key : SegmentCipher) (bytes : List ℕ)
    → All IsCipher keys → All (λ k. k.size ≤ most_segments) keys
    → choose keys bytes true ≡ chosen key → decides keys bytes true ≡ Some too_many
    → (released keys bytes true ≡ released keys (take (most_segments * key.size + 1) bytes) false)
    × (decides keys (take (most_segments * key.size + 1) bytes) false ≡ Some too_many)

-- of a stream that opens to its end, a range is that slice of its plaintext
abbrev pub RangeIsSlice : Type 0
RangeIsSlice = (keys : List SegmentCipher) (bytes plain : List ℕ) (from to : ℕ) → All IsCipher keys
    → stream_answer keys bytes ≡ (plain, None) → from ≤ to
    → range_of keys bytes from to
    ≡ (if nat_lt (length plain) to then Err past_end else Ok (take (to - from) (drop from plain)))

-- over a source and a sink that tell, a pass that meets no fault gives the stated answer
abbrev pub PassAnswers : Type 0
PassAnswers = (keys : List SegmentCipher) (bytes before : List ℕ)
    (result : Result (Unit {0}) OpenPumpFault) (was now : SourceState) (old new : SinkState)
    → All IsCipher keys
    → Pumps (opening_any keys) [] [] false result was now old new → was.left ≡ Some bytes
    → old.written ≡ Some before
    → (result ≡ Err ReadFault) ⊎
    ((result ≡ Err WriteFault) ⊎
    ((new.written ≡ Some (before ++ (stream_answer keys bytes).0))
    × (result ≡ result_of (stream_answer keys bytes).1)))

-- A stream that arrives in pieces, however it is cut, gives the stated answer for the whole of it, into a sink that
-- tells: where its end is answered to be whole, and where it is refused.
abbrev pub PiecesAnswer : Type 0
PiecesAnswer = (opening later : OpeningState) (keys : List SegmentCipher) (pieces : List (List ℕ)) (before : List ℕ)
    (old mid new : SinkState) → HasOpened opening keys [] [] → Feeds opening pieces later old mid
    → old.written ≡ Some before
    → (OpensLast later mid new
    → (new.written ≡ Some (before ++ (stream_answer keys (concat pieces)).0))
    × ((stream_answer keys (concat pieces)).1 ≡ None))
    × ((fault : OpenPumpFault) → OpenStopsLast fault later mid new
    → (fault ≡ WriteFault) ⊎
    ((new.written ≡ Some (before ++ (stream_answer keys (concat pieces)).0))
    × (Err fault ≡ result_of (stream_answer keys (concat pieces)).1)))

-- the same where a piece is refused, whatever follows it
abbrev pub RefusedEarly : Type 0
RefusedEarly = (opening later : OpeningState) (keys : List SegmentCipher) (pieces : List (List ℕ))
    (piece more before : List ℕ) (fault : OpenPumpFault) (old mid new : SinkState)
    → HasOpened opening keys [] [] → Feeds opening pieces later old mid → old.written ≡ Some before
    → OpenStops fault later piece mid new
    → (fault ≡ WriteFault) ⊎
    ((new.written ≡ Some (before ++ (stream_answer keys (concat pieces ++ (piece ++ more))).0))
    × (Err fault ≡ result_of (stream_answer keys (concat pieces ++ (piece ++ more))).1))

-- the same of a pass that seals: too many segments where 2^32 full ones and one more byte stand
-- there
abbrev pub SealPassAnswers : Type 0
SealPassAnswers = (key : SegmentCipher) (header bytes before : List ℕ)
    (result : Result (Unit {0}) OpenPumpFault) (was now : SourceState) (old new : SinkState)
    → IsCipher key
    → Pumps (sealing key header) [] [] false result was now old new → was.left ≡ Some bytes
    → old.written ≡ Some before
    → (result ≡ Err ReadFault) ⊎
    ((result ≡ Err WriteFault) ⊎
    ((new.written ≡ Some (before ++ sealed_behind key header bytes true))
    × (result ≡ result_of (many_plain key header bytes))))

-- the same of a pass that opens a stream and seals its plaintext again
abbrev pub ResealPassAnswers : Type 0
ResealPassAnswers = (keys : List SegmentCipher) (key : SegmentCipher) (header bytes before : List ℕ)
    (result : Result (Unit {0}) OpenPumpFault) (was now : SourceState) (old new : SinkState)
    → All IsCipher keys → IsCipher key
    → Pumps (resealing keys key header) [] [] false result was now old new → was.left ≡ Some bytes
    → old.written ≡ Some before
    → (result ≡ Err ReadFault) ⊎
    ((result ≡ Err WriteFault) ⊎
    ((new.written ≡ Some (before ++ (reseal_answer keys key header bytes).0))
    × (result ≡ result_of (reseal_answer keys key header bytes).1)))

-- what is decided before the end stays decided, with its output, when bytes follow
abbrev pub ResealStays : Type 0
ResealStays = (keys : List SegmentCipher) (key : SegmentCipher) (header taken more : List ℕ)
    (refusal : StreamRefusal) → All IsCipher keys → IsCipher key
    → reseal_decides keys key header taken false ≡ Some refusal
    → (reseal_decides keys key header (taken ++ more) true ≡ Some refusal)
    × (resealed keys key header (taken ++ more) true ≡ resealed keys key header taken false)

-- of a stream that is refused, each segment that is written is sealed as one that isn't the last
abbrev pub RefusedUnfinished : Type 0
RefusedUnfinished = (keys : List SegmentCipher) (key : SegmentCipher) (header bytes : List ℕ)
    (refusal : StreamRefusal) → IsCipher key
    → reseal_decides keys key header bytes true ≡ Some refusal
    → resealed keys key header bytes true ≡ unfinished key header (released keys bytes true)

-- a stream that opens to its end is resealed as its plaintext is sealed, and so opens to that again
abbrev pub ResealedBack : Type 0
ResealedBack = (keys : List SegmentCipher) (key : SegmentCipher) (random bytes plain : List ℕ)
    → IsCipher key → length random + 1 ≡ key.header → stream_answer keys bytes ≡ (plain, None)
    → seal_decides key random plain ≡ None
    → (reseal_answer keys key (header_of key random) bytes ≡ (sealed key random plain true, None))
    × (stream_answer (key ∷ []) (sealed key random plain true) ≡ (plain, None))

-- a key with Tink's sizes gives a cipher of segments, under any associated data
abbrev pub SchemesAreCiphers : Type 0
SchemesAreCiphers = (ad : List ℕ) (key : StreamKey) → IsSound key → IsCipher (cipher_of ad key)

-- so do the keys of a keyset for streams, the primary and all of them
abbrev pub KeysAreCiphers : Type 0
KeysAreCiphers = (ad : List ℕ) (those : KeysForStreams) → AreSound those
    → IsCipher (cipher_of ad those.primary) × All IsCipher (ciphers_of ad those.keys)
