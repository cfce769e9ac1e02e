-- How a run of a plan may end, whatever fails.
use Rattle.std.specs.Prelude.{◌≡◌, ◌⊎◌, ℕ, ◌+◌, ◌<◌, ◌≤◌, List, [], ◌++◌, length, Bool, true, false, Some, None, Result, Ok, Err}
use Rattle.tink_spec.specs.Files.{StoreState, KeptFiles, Holds, HoldsSome, HoldsLonger, Added, MayAdd}
use Rattle.tink_spec.specs.Outside.{SourceState, SinkState, EntropyState, Rose, Stood, Gave, GaveUpTo, GaveCount, Took, TookPrefix, Drew, IsAtEnd}
use Rattle.segment_stream.specs.Opening.{StreamRefusal}
use Rattle.segment_stream.specs.Pumping.{Part, Pumps, ShowsFaults}
use Rattle.segment_stream.specs.declared.fault.OpenPumpFault.{OpenPumpFault}
use Rattle.segment_stream.specs.declared.fault.OpenPumpFault.TheVariants as faults
use Rattle.tinkey_cmds.specs.Draws.{Draw, answered}
use Rattle.tinkey_cmds.specs.Applying.{RanOut}
use Rattle.tinkey_cmds.specs.declared.command.EditRefusal.{EditRefusal}
use Rattle.keyset_model.specs.Keyset.{Keys}
use Rattle.tinkey_session.specs.Saving.{StoreAnswers}
use Rattle.tinkey_session.specs.Talking.{Exchange}
use Rattle.tinkey_session.specs.Talks.{Sides, sides, TalksWith, IsSteady}
use Rattle.tinkey_session.specs.declared.talk.TalkFault.{TalkFault}
use Rattle.tinkey_session.specs.declared.talk.TalkFault.TheVariants as talk_faults
use Rattle.tinkey_plans.specs.FileRange.{Opened, FileRange, GivesAtMost, HoldsRange, IsShortPast}
use Rattle.tinkey_plans.specs.declared.status.Status.{Status}
use Rattle.tinkey_plans.specs.declared.status.Status.TheVariants as status
use Rattle.tinkey_plans.specs.Plan.{Plan, ends, writes, creates, looks, allocates, loads, reads_all, reads_front, ranges, draws, pumps, collects, exchanges, Made, Of, IsMadeInParts, stream_status}

-- the outside objects at one moment
pub record World : Type 0 where
  pub source : SourceState
  pub sink : SinkState
  pub store : StoreState
  pub entropy : EntropyState

-- the objects as they are seen
abbrev pub world : SourceState → SinkState → StoreState → EntropyState → World
world source sink store entropy = record {
  source = source;
  sink = sink;
  store = store;
  entropy = entropy;
}

-- all objects but the source are as before
pub record OnlySource (old new : World) : Type 0 where
  pub sink : old.sink ≡ new.sink
  pub store : old.store ≡ new.store
  pub entropy : old.entropy ≡ new.entropy

-- all objects but the sink are as before
pub record OnlySink (old new : World) : Type 0 where
  pub source : old.source ≡ new.source
  pub store : old.store ≡ new.store
  pub entropy : old.entropy ≡ new.entropy

-- all objects but the store are as before
pub record OnlyStore (old new : World) : Type 0 where
  pub source : old.source ≡ new.source
  pub sink : old.sink ≡ new.sink
  pub entropy : old.entropy ≡ new.entropy

-- all objects but the entropy are as before
pub record OnlyEntropy (old new : World) : Type 0 where
  pub source : old.source ≡ new.source
  pub sink : old.sink ≡ new.sink
  pub store : old.store ≡ new.store

-- at most so many bytes of files were given
abbrev pub GaveWithin : StoreState → StoreState → (most : ℕ) → Type 0
GaveWithin old new most = new.given ≤ old.given + most

-- Where an object failed, its count of faults rose; with each other end that count stood, so that
-- no fault is passed over or told as something else. Likewise each end has how many bytes of files were given.

-- all of the output was written, or the first bytes of it where the sink failed
pub data EndsWriting (output : List ℕ) (old : World) (s : Status) (new : World) : Type 0 where
  wrote : s ≡ status.Done → OnlySink old new → Stood old.sink.faults new.sink.faults →
      Took old.sink new.sink output → EndsWriting output old s new
  write_failed : s ≡ status.WriteFault → OnlySink old new → Rose old.sink.faults new.sink.faults →
      TookPrefix old.sink new.sink output → EndsWriting output old s new

-- the file was made, or one was there; or the store failed, and may have made it with the first of
-- the bytes; or memory was wanting
pub data EndsCreating (name output : List ℕ) (taken : Status)
    (old : World) (s : Status) (new : World) : Type 0 where
  made : s ≡ status.Done → OnlyStore old new → Stood old.store.faults new.store.faults →
      GaveWithin old.store new.store 0 → Added old.store new.store name output → EndsCreating name output taken old s new
  name_taken : s ≡ taken → OnlyStore old new → KeptFiles old.store new.store →
      Stood old.store.faults new.store.faults → GaveWithin old.store new.store 0 → HoldsSome old.store name →
      EndsCreating name output taken old s new
  create_failed : s ≡ status.StoreFault → OnlyStore old new →
      Rose old.store.faults new.store.faults → GaveWithin old.store new.store 0 → MayAdd old.store new.store name output →
      EndsCreating name output taken old s new
  create_starved : s ≡ status.NoMemory → OnlyStore old new → KeptFiles old.store new.store →
      Stood old.store.faults new.store.faults → GaveWithin old.store new.store 0 →
      EndsCreating name output taken old s new

-- the name was free, and then it went on; or it was taken; or the store failed
pub data EndsLooking (name : List ℕ) (taken : Status) (Then : World → Status → World → Type 0)
    (old : World) (s : Status) (new : World) : Type 0 where
  look_free : (store : StoreState) → KeptFiles old.store store →
      Stood old.store.faults store.faults → GaveWithin old.store store 0 → Holds old.store name None →
      Then (record old { store = store }) s new → EndsLooking name taken Then old s new
  look_taken : s ≡ taken → OnlyStore old new → KeptFiles old.store new.store →
      Stood old.store.faults new.store.faults → GaveWithin old.store new.store 0 →
      HoldsSome old.store name → EndsLooking name taken Then old s new
  look_failed : s ≡ status.StoreFault → OnlyStore old new → KeptFiles old.store new.store →
      Rose old.store.faults new.store.faults → GaveWithin old.store new.store 0 →
      EndsLooking name taken Then old s new

-- the file was loaded, and then it went on; or it is missing, or longer than the limit; or the store
-- failed, or memory was wanting. Of a file that wasn't loaded at most one byte more than the limit was read.
pub data EndsLoading (name : List ℕ) (limit : ℕ) (absent long : Status)
    (Then : List ℕ → World → Status → World → Type 0)
    (old : World) (s : Status) (new : World) : Type 0 where
  loaded : (bytes : List ℕ) (store : StoreState) → KeptFiles old.store store →
      Stood old.store.faults store.faults → GaveWithin old.store store (length bytes) →
      length bytes ≤ limit →
      Holds old.store name (Some bytes) → Then bytes (record old { store = store }) s new →
      EndsLoading name limit absent long Then old s new
  load_absent : s ≡ absent → OnlyStore old new → KeptFiles old.store new.store →
      Stood old.store.faults new.store.faults → GaveWithin old.store new.store 0 →
      Holds old.store name None → EndsLoading name limit absent long Then old s new
  load_long : s ≡ long → OnlyStore old new → KeptFiles old.store new.store →
      Stood old.store.faults new.store.faults → GaveWithin old.store new.store (limit + 1) →
      HoldsLonger old.store name limit → EndsLoading name limit absent long Then old s new
  load_failed : s ≡ status.StoreFault → OnlyStore old new → KeptFiles old.store new.store →
      Rose old.store.faults new.store.faults → GaveWithin old.store new.store (limit + 1) →
      EndsLoading name limit absent long Then old s new
  load_starved : s ≡ status.NoMemory → OnlyStore old new → KeptFiles old.store new.store →
      Stood old.store.faults new.store.faults → GaveWithin old.store new.store (limit + 1) →
      EndsLoading name limit absent long Then old s new

-- The range was opened or refused, and then it went on; or the file is missing; or the store failed, or
-- memory was wanting. No more was read than that takes.
pub data EndsRanging (x : FileRange) (absent : Status) (Then : Opened → World → Status → World → Type 0)
    (old : World) (s : Status) (new : World) : Type 0 where
  ranged : (opened : Opened) (store : StoreState) (most : ℕ) → KeptFiles old.store store →
      Stood old.store.faults store.faults → GaveWithin old.store store most →
      GivesAtMost old.store.files x most → IsShortPast x opened most → HoldsRange old.store x opened →
      Then opened (record old { store = store }) s new → EndsRanging x absent Then old s new
  range_absent : s ≡ absent → OnlyStore old new → KeptFiles old.store new.store →
      Stood old.store.faults new.store.faults → GaveWithin old.store new.store 0 →
      Holds old.store x.name None → EndsRanging x absent Then old s new
  range_failed : (most : ℕ) → s ≡ status.StoreFault → OnlyStore old new →
      KeptFiles old.store new.store → Rose old.store.faults new.store.faults →
      GaveWithin old.store new.store most → GivesAtMost old.store.files x most →
      EndsRanging x absent Then old s new
  range_starved : (most : ℕ) → s ≡ status.NoMemory → OnlyStore old new →
      KeptFiles old.store new.store → Stood old.store.faults new.store.faults →
      GaveWithin old.store new.store most → GivesAtMost old.store.files x most →
      EndsRanging x absent Then old s new

-- all bytes were read, and then it went on; or one byte more than the limit was taken; or the source
-- failed, or memory was wanting, within the limit
pub data EndsReading (limit : ℕ) (long : Status) (Then : List ℕ → World → Status → World → Type 0)
    (old : World) (s : Status) (new : World) : Type 0 where
  read : (all : List ℕ) (source : SourceState) → Gave old.source source all →
      Stood old.source.faults source.faults → length all ≤ limit → IsAtEnd source →
      Then all (record old { source = source }) s new → EndsReading limit long Then old s new
  too_long : s ≡ long → OnlySource old new → Stood old.source.faults new.source.faults →
      GaveCount old.source new.source (limit + 1) → EndsReading limit long Then old s new
  read_failed : s ≡ status.ReadFault → OnlySource old new →
      Rose old.source.faults new.source.faults → GaveUpTo old.source new.source limit →
      EndsReading limit long Then old s new
  read_starved : s ≡ status.NoMemory → OnlySource old new →
      Stood old.source.faults new.source.faults → GaveUpTo old.source new.source limit →
      EndsReading limit long Then old s new

-- so many bytes were read, or all of them where there are fewer, and then it went on; or the source failed
-- before that
pub data EndsReadingFront (size : ℕ) (Then : List ℕ → World → Status → World → Type 0)
    (old : World) (s : Status) (new : World) : Type 0 where
  front_read : (front : List ℕ) (source : SourceState) → Gave old.source source front →
      Stood old.source.faults source.faults → length front ≤ size →
      (length front < size → IsAtEnd source) → Then front (record old { source = source }) s new →
      EndsReadingFront size Then old s new
  front_failed : (piece : List ℕ) → s ≡ status.ReadFault → OnlySource old new →
      Rose old.source.faults new.source.faults → Gave old.source new.source piece →
      length piece < size → EndsReadingFront size Then old s new

-- these bytes are all that is drawn, whatever stands behind them, and they give this
abbrev pub Settles : {A : Type 0} → Draw A → (drawn : List ℕ) → Result A EditRefusal → Type 0
Settles give drawn given = (more : List ℕ) → give (drawn ++ more) ≡ answered given more

-- the bytes were drawn that settle what is made or its refusal, and then it went on; or the entropy
-- failed before they were there; or of what is made in parts memory was wanting before that
pub data EndsDrawing (kind : Made) (give : Draw (Of kind))
    (Then : Result (Of kind) EditRefusal → World → Status → World → Type 0)
    (old : World) (s : Status) (new : World) : Type 0 where
  settled : (drawn : List ℕ) (entropy : EntropyState) (given : Result (Of kind) EditRefusal) →
      Drew old.entropy entropy drawn → Stood old.entropy.faults entropy.faults →
      Settles give drawn given → Then given (record old { entropy = entropy }) s new →
      EndsDrawing kind give Then old s new
  draw_failed : s ≡ status.EntropyFault → OnlyEntropy old new →
      RanOut give old.entropy new.entropy → EndsDrawing kind give Then old s new
  draw_starved : IsMadeInParts kind → s ≡ status.NoMemory → OnlyEntropy old new →
      (drawn : List ℕ) → Drew old.entropy new.entropy drawn →
      Stood old.entropy.faults new.entropy.faults → give drawn ≡ None →
      EndsDrawing kind give Then old s new

-- what is decided before the end, the whole input decides too, with what was given out by then
pub record IsLasting (part : Part) : Type 0 where
  pub stays : (taken more : List ℕ) (refusal : StreamRefusal)
      → part.refusal taken false ≡ Some refusal
      → (part.refusal (taken ++ more) true ≡ Some refusal)
      × (part.output (taken ++ more) true ≡ part.output taken false)

-- the status of a pass
abbrev pub pump_status : Result (Unit {0}) OpenPumpFault → Status
pump_status (Ok done) = status.Done
pump_status (Err faults.ReadFault) = status.ReadFault
pump_status (Err faults.WriteFault) = status.WriteFault
pump_status (Err faults.TooManySegments) = status.TooManySegments
pump_status (Err (faults.StreamFailed number)) = status.StreamFailed number

-- all objects but source and sink are as before
pub record OnlyStreams (old new : World) : Type 0 where
  pub store : old.store ≡ new.store
  pub entropy : old.entropy ≡ new.entropy

-- the pass came to its end, or was refused, or the source or the sink failed in it
pub record EndsPumping (part : Part) (old : World) (s : Status) (new : World) : Type 0 where
  pub result : Result (Unit {0}) OpenPumpFault
  pub status : s ≡ pump_status result
  pub only : OnlyStreams old new
  pub pass : Pumps part [] [] false result old.source new.source old.sink new.sink
  pub shown : ShowsFaults result old.source new.source old.sink new.sink
  pub lasting : IsLasting part

-- Exactly these bytes were taken of the source. What they gave was kept in a draft: no file has changed, and sink and
-- entropy are as before.
pub record KeptDraft (old new : World) (taken : List ℕ) : Type 0 where
  pub sink : old.sink ≡ new.sink
  pub entropy : old.entropy ≡ new.entropy
  pub gave : Gave old.source new.source taken
  pub kept : KeptFiles old.store new.store
  pub given : GaveWithin old.store new.store 0

-- The pass came to its end, and then it went on with all of its output. Or it was refused; or the source failed
-- before that; or the store did, which keeps the output in a draft, with a byte of it still to come.
pub data EndsCollecting (part : Part) (Then : List ℕ → World → Status → World → Type 0)
    (old : World) (s : Status) (new : World) : Type 0 where
  collected : (all : List ℕ) (source : SourceState) (store : StoreState) → Gave old.source source all →
      Stood old.source.faults source.faults → KeptFiles old.store store →
      Stood old.store.faults store.faults → GaveWithin old.store store 0 →
      IsAtEnd source → part.refusal all true ≡ None →
      Then (part.output all true) (record old { source = source; store = store }) s new →
      EndsCollecting part Then old s new
  collect_refused : (taken : List ℕ) (ended : Bool) (refusal : StreamRefusal) →
      s ≡ stream_status refusal → KeptDraft old new taken →
      Stood old.source.faults new.source.faults → Stood old.store.faults new.store.faults →
      (ended ≡ true → IsAtEnd new.source) → part.refusal taken ended ≡ Some refusal → IsLasting part →
      EndsCollecting part Then old s new
  collect_unread : (taken : List ℕ) → s ≡ status.ReadFault → KeptDraft old new taken →
      Rose old.source.faults new.source.faults → Stood old.store.faults new.store.faults →
      part.refusal taken false ≡ None → EndsCollecting part Then old s new
  collect_unkept : (taken : List ℕ) (ended : Bool) → s ≡ status.StoreFault → KeptDraft old new taken →
      Stood old.source.faults new.source.faults → Rose old.store.faults new.store.faults →
      0 < length (part.output taken ended) → EndsCollecting part Then old s new

-- the status of a session that ended before its input did
abbrev pub talk_status : TalkFault → Status
talk_status talk_faults.LineTooLong = status.LineTooLong
talk_status talk_faults.TooManyLines = status.TooManyLines
talk_status talk_faults.ReadFault = status.ReadFault
talk_status talk_faults.WriteFault = status.WriteFault
talk_status talk_faults.EntropyFault = status.EntropyFault
talk_status talk_faults.NoMemory = status.NoMemory

-- the objects of a session
abbrev pub sides_of : World → Sides
sides_of w = sides w.source w.sink w.entropy

-- a session over these objects came to this result
abbrev pub Exchanges : (StoreAnswers → Exchange) → Result Keys TalkFault → (old new : World) → Type 0
Exchanges exchange result old new =
    TalksWith exchange result (sides_of old) (sides_of new) old.store new.store

-- the session came to the end of its input, and then it went on with the last keyset; or it ended
-- before that
pub data EndsExchanging (exchange : StoreAnswers → Exchange)
    (Then : Keys → World → Status → World → Type 0) (old : World) (s : Status) (new : World)
    : Type 0 where
  exchanged : (keys : Keys) (mid : World) → Exchanges exchange (Ok keys) old mid →
      ((answers : StoreAnswers) → IsSteady (exchange answers)) → Then keys mid s new →
      EndsExchanging exchange Then old s new
  exchange_ended : (fault : TalkFault) → s ≡ talk_status fault → Exchanges exchange (Err fault) old new →
      ((answers : StoreAnswers) → IsSteady (exchange answers)) → EndsExchanging exchange Then old s new

-- how a run of the plan may end, step by step
abbrev pub Ends : Plan → World → Status → World → Type 0
Ends (ends stated_status stated) old s new = (s ≡ stated_status) × (old ≡ new)
Ends (writes output) old s new = EndsWriting output old s new
Ends (creates name output taken stated) old s new = EndsCreating name output taken old s new
Ends (looks name taken stated next) old s new = EndsLooking name taken (Ends next) old s new
Ends (allocates next) old s new = Ends next old s new ⊎ ((s ≡ status.NoMemory) × (old ≡ new))
Ends (loads name limit absent long a l next) old s new =
    EndsLoading name limit absent long (λ bytes. Ends (next bytes)) old s new
Ends (ranges range absent a next) old s new =
    EndsRanging range absent (λ opened. Ends (next opened)) old s new
Ends (reads_all limit long stated next) old s new =
    EndsReading limit long (λ all. Ends (next all)) old s new
Ends (reads_front size next) old s new = EndsReadingFront size (λ front. Ends (next front)) old s new
Ends (draws kind give next) old s new =
    EndsDrawing kind give (λ given. Ends (next given)) old s new
Ends (pumps part) old s new = EndsPumping part old s new
Ends (collects part next) old s new =
    EndsCollecting part (λ output. Ends (next output)) old s new
Ends (exchanges exchange next) old s new =
    EndsExchanging exchange (λ keys. Ends (next keys)) old s new
