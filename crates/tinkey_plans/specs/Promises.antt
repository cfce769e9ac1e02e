-- What is promised of every run, over its plan, the objects before and after, and its status.
use Rattle.std.specs.Prelude.{◌≡◌, ◌≢◌, ◌⊎◌, ℕ, ◌+◌, ◌<◌, ◌≤◌, List, [], ◌∷◌, ◌++◌, length, true, false, Bool, Option, Some, None, IfSome, option_map, Result}
use Rattle.std.specs.FinMap as map
use Rattle.tink_spec.specs.Files.{Files, StoreState, KeptFiles, Holds, HoldsSome, HoldsLonger, AddedFront}
use Rattle.tink_spec.specs.Outside.{Rose, Stood, Gave, Took, TookPrefix, DrewLosing}
use Rattle.segment_stream.specs.Opening.{StreamRefusal}
use Rattle.keyset_model.specs.Keyset.{Keys}
use Rattle.segment_stream.specs.Pumping.{Part}
use Rattle.tinkey_cmds.specs.declared.command.EditRefusal.{EditRefusal}
use Rattle.tinkey_session.specs.Saving.{Agrees, AsksFor, FileAsked, StoreAnswers}
use Rattle.tinkey_session.specs.declared.reply.LineRefusal.TheVariants.{StoreFault}
use Rattle.tinkey_session.specs.Talking.{Exchange, Limit, Stop, goes, wants, passes}
use Rattle.tinkey_plans.specs.declared.status.Status.{Status}
use Rattle.tinkey_plans.specs.declared.status.Status.TheVariants as status
use Rattle.tinkey_plans.specs.Plan.{Plan, ends, writes, creates, looks, allocates, loads, reads_all, reads_front, ranges, draws, pumps, collects, exchanges, Of, IsMadeInParts, Told, Answer, answer, stream_status, limit_status, IsStated}
use Rattle.tinkey_plans.specs.Ends.{World, Ends, GaveWithin, Settles}
use Rattle.tinkey_plans.specs.FileRange.{Opened, GivesAtMost, HoldsRange, IsShortPast}

-- the objects tell these bytes
pub record Tells (w : World) (told : Told) : Type 0 where
  pub input : w.source.left ≡ Some told.input
  pub files : w.store.files ≡ Some told.files
  pub random : w.entropy.left ≡ Some told.random

-- the status, the output appended, the files, and the input and the random bytes that are left are
-- those of the answer
pub record IsAnswer (a : Answer) (old : World) (s : Status) (new : World) : Type 0 where
  pub status : s ≡ a.status
  pub input : IfSome a.input (λ left. new.source.left ≡ Some left)
  pub output : Took old.sink new.sink a.output
  pub files : new.store.files ≡ Some a.files
  pub random : new.entropy.left ≡ Some a.random

-- no line saves the keyset: the plan has no session
abbrev pub SavesNothing : Plan → Type 0
SavesNothing (ends stated_status stated) = Unit {0}
SavesNothing (writes output) = Unit {0}
SavesNothing (creates name output taken stated) = Unit {0}
SavesNothing (looks name taken stated next) = SavesNothing next
SavesNothing (allocates next) = SavesNothing next
SavesNothing (loads name limit absent long a l next) = (bytes : List ℕ) → SavesNothing (next bytes)
SavesNothing (ranges x absent a next) = (opened : Opened) → SavesNothing (next opened)
SavesNothing (reads_all limit long stated next) = (all : List ℕ) → SavesNothing (next all)
SavesNothing (reads_front size next) = (front : List ℕ) → SavesNothing (next front)
SavesNothing (draws kind give next) = (given : Result (Of kind) EditRefusal) → SavesNothing (next given)
SavesNothing (pumps part) = Unit {0}
SavesNothing (collects part next) = (output : List ℕ) → SavesNothing (next output)
SavesNothing (exchanges exchange next) = ⊥

-- No store fault is told by a reply alone: there is no session, or no call of the store has failed.
abbrev pub NoneUnsaved : Plan → (old new : World) → Type 0
NoneUnsaved p old new = SavesNothing p ⊎ (Rose old.store.faults new.store.faults → ⊥)

-- The stated answer: over objects that tell, each status but the faults and NoMemory is the
-- answer's, and so is all that was done; but not if the store failed where a line saved the keyset.
pub record Answers (p : Plan) (old : World) (s : Status) (new : World) : Type 0 where
  pub over : (told : Told) → Tells old told → IsStated s → NoneUnsaved p old new
      → IsAnswer (answer p told) old s new

-- The causes of faults: a fault comes only where that object's count of faults rose.
pub record HasCause (old : World) (s : Status) (new : World) : Type 0 where
  pub read : s ≡ status.ReadFault → Rose old.source.faults new.source.faults
  pub write : s ≡ status.WriteFault → Rose old.sink.faults new.sink.faults
  pub store : s ≡ status.StoreFault → Rose old.store.faults new.store.faults
  pub entropy : s ≡ status.EntropyFault → Rose old.entropy.faults new.entropy.faults

-- No fault is hidden: where the status isn't the fault of an object, no call of that object has
-- failed. Of the diagnostic sink nothing is said. Where a session's line saves the keyset, a reply tells
-- a store fault: `Leaves` speaks of that.
pub record ShowsFaults (p : Plan) (old : World) (s : Status) (new : World) : Type 0 where
  pub read : s ≢ status.ReadFault → Stood old.source.faults new.source.faults
  pub write : s ≢ status.WriteFault → Stood old.sink.faults new.sink.faults
  pub store : SavesNothing p → s ≢ status.StoreFault → Stood old.store.faults new.store.faults
  pub entropy : s ≢ status.EntropyFault → Stood old.entropy.faults new.entropy.faults

-- these bytes are the first of those, and at least one isn't there
pub record IsFront (front whole : List ℕ) : Type 0 where
  pub rest : List ℕ
  pub some : 0 < length rest
  pub is : front ++ rest ≡ whole

-- a store that holds these files, if they are told
abbrev pub over_files : Option Files → StoreState
over_files files = record { files = files; faults = 0; given = 0 }

-- what was taken of the source, drawn of the entropy, and written to the sink, and the files that lines of a session
-- asked for
pub record Moved : Type 0 where
  pub taken : List ℕ
  pub drawn : List ℕ
  pub written : List ℕ
  pub asked : List FileAsked

-- nothing was
abbrev pub nothing : Moved
nothing = record { taken = []; drawn = []; written = []; asked = [] }

-- These files were asked for, one after another, of a store with these files at first, if it tells them, and then it has
-- those after them.
abbrev pub AsksOver : List FileAsked → (files after : Option Files) → Type 0
AsksOver [] files after = files ≡ after
AsksOver (a ∷ asked) files after =
    (old : StoreState) × (new : StoreState) × (old.files ≡ files) × AsksFor a old new
    × AsksOver asked new.files after

-- A pass is left where all is done; where what was taken decides this status; where a read failed before
-- that; or where a write failed and a byte of what was to be given out is still to come. But for that,
-- exactly what is settled by the bytes taken was given out.
pub data IsPassLeft (part : Part) (s : Status) (taken written : List ℕ) : Type 0 where
  pass_done : s ≡ status.Done → part.refusal taken true ≡ None → written ≡ part.output taken true →
      IsPassLeft part s taken written
  pass_refused : (ended : Bool) (refusal : StreamRefusal) → s ≡ stream_status refusal →
      part.refusal taken ended ≡ Some refusal → written ≡ part.output taken ended →
      IsPassLeft part s taken written
  pass_unread : s ≡ status.ReadFault → part.refusal taken false ≡ None →
      written ≡ part.output taken false → IsPassLeft part s taken written
  pass_unwritten : (ended : Bool) → s ≡ status.WriteFault → IsFront written (part.output taken ended) →
      IsPassLeft part s taken written

-- A pass of which nothing is given out before its end is left where what was taken decides this status; where a
-- read failed before that; or where the store failed, and a byte of its output was to be kept in a draft.
pub data IsDraftLeft (part : Part) (s : Status) (taken : List ℕ) : Type 0 where
  draft_refused : (ended : Bool) (refusal : StreamRefusal) → s ≡ stream_status refusal →
      part.refusal taken ended ≡ Some refusal → IsDraftLeft part s taken
  draft_unread : s ≡ status.ReadFault → part.refusal taken false ≡ None → IsDraftLeft part s taken
  draft_unkept : (ended : Bool) → s ≡ status.StoreFault → 0 < length (part.output taken ended) →
      IsDraftLeft part s taken

-- Over the bytes taken, with all the random bytes drawn, the session stands so, and the replies to
-- the lines among them were written, which asked for these files.
pub record HasReplied (exchange : Exchange) (moved : Moved) (ended : Bool) (stop : Stop)
    : Type 0 where
  pub stands : (exchange moved.taken moved.drawn ended).stop ≡ stop
  pub used : (exchange moved.taken moved.drawn ended).random ≡ []
  pub written : moved.written ≡ (exchange moved.taken moved.drawn ended).output
  pub files : (exchange moved.taken moved.drawn ended).asked ≡ moved.asked

-- A session is left where the bytes taken are past a limit; where a read failed before that; where
-- the entropy failed, and a line wants more random bytes than were drawn; or where a write failed,
-- and a byte of the replies to the lines taken is still to come; then the last lines may not have asked for a file.
-- Where memory was wanting, the replies to the lines among the first of the bytes taken were written.
pub data IsTalkLeft (exchange : Exchange) (s : Status) (moved : Moved) : Type 0 where
  talk_passed : (limit : Limit) → s ≡ limit_status limit →
      HasReplied exchange moved false (passes limit) → IsTalkLeft exchange s moved
  talk_unread : s ≡ status.ReadFault → HasReplied exchange moved false goes →
      IsTalkLeft exchange s moved
  talk_undrawn : (ended : Bool) → s ≡ status.EntropyFault →
      HasReplied exchange moved ended wants → IsTalkLeft exchange s moved
  talk_unwritten : (ended : Bool) → s ≡ status.WriteFault →
      IsFront moved.written (exchange moved.taken moved.drawn ended).output → (later : List FileAsked) →
      (exchange moved.taken moved.drawn ended).asked ≡ moved.asked ++ later →
      IsTalkLeft exchange s moved
  talk_starved : (taken more drawn part : List ℕ) → s ≡ status.NoMemory →
      taken ++ more ≡ moved.taken → drawn ++ part ≡ moved.drawn →
      (exchange taken drawn false).stop ≡ goes →
      moved.written ≡ (exchange taken drawn false).output →
      (exchange taken drawn false).asked ≡ moved.asked → IsTalkLeft exchange s moved

-- what was moved first, and then
abbrev pub then_moved : Moved → Moved → Moved
then_moved first later = record {
  taken = first.taken ++ later.taken;
  drawn = first.drawn ++ later.drawn;
  written = first.written ++ later.written;
  asked = first.asked ++ later.asked;
}

-- A run of the plan over these files may be left with this status where exactly these bytes were
-- taken, drawn and written. Where it is left at a step, the steps before it have gone on, and later
-- steps have moved nothing.
abbrev pub IsLeft : Plan → Option Files → Status → Moved → Type 0
IsLeft (ends stated_status stated) files s moved = (s ≡ stated_status) × (moved ≡ nothing)
IsLeft (writes output) files s moved =
    ((s ≡ status.Done) × (moved ≡ record nothing { written = output }))
    ⊎ ((s ≡ status.WriteFault) × IsFront moved.written output
    × (moved ≡ record nothing { written = moved.written }))
IsLeft (creates name output taken stated) files s moved =
    (moved ≡ nothing) × (((s ≡ status.Done) × Holds (over_files files) name None)
    ⊎ ((s ≡ taken) × HoldsSome (over_files files) name)
    ⊎ (s ≡ status.StoreFault) ⊎ (s ≡ status.NoMemory))
IsLeft (looks name taken stated next) files s moved =
    ((moved ≡ nothing)
    × (((s ≡ taken) × HoldsSome (over_files files) name) ⊎ (s ≡ status.StoreFault)))
    ⊎ (Holds (over_files files) name None × IsLeft next files s moved)
IsLeft (allocates next) files s moved =
    ((s ≡ status.NoMemory) × (moved ≡ nothing)) ⊎ IsLeft next files s moved
IsLeft (loads name limit absent long a l next) files s moved =
    ((moved ≡ nothing) × (((s ≡ absent) × Holds (over_files files) name None)
    ⊎ ((s ≡ long) × HoldsLonger (over_files files) name limit)
    ⊎ (s ≡ status.StoreFault) ⊎ (s ≡ status.NoMemory)))
    ⊎ ((bytes : List ℕ) × Holds (over_files files) name (Some bytes) × (length bytes ≤ limit)
    × IsLeft (next bytes) files s moved)
IsLeft (ranges x absent a next) files s moved =
    ((moved ≡ nothing) × (((s ≡ absent) × Holds (over_files files) x.name None)
    ⊎ (s ≡ status.StoreFault) ⊎ (s ≡ status.NoMemory)))
    ⊎ ((opened : Opened) × HoldsRange (over_files files) x opened
    × IsLeft (next opened) files s moved)
IsLeft (reads_all limit long stated next) files s moved =
    ((moved ≡ record nothing { taken = moved.taken })
    × (((s ≡ long) × (length moved.taken ≡ limit + 1))
    ⊎ (((s ≡ status.ReadFault) ⊎ (s ≡ status.NoMemory)) × (length moved.taken ≤ limit))))
    ⊎ ((all : List ℕ) × (more : List ℕ) × (all ++ more ≡ moved.taken) × (length all ≤ limit)
    × IsLeft (next all) files s (record moved { taken = more }))
IsLeft (reads_front size next) files s moved =
    ((s ≡ status.ReadFault) × (length moved.taken < size)
    × (moved ≡ record nothing { taken = moved.taken }))
    ⊎ ((front : List ℕ) × (more : List ℕ) × (front ++ more ≡ moved.taken) × (length front ≤ size)
    × IsLeft (next front) files s (record moved { taken = more }))
IsLeft (draws kind give next) files s moved =
    (((s ≡ status.EntropyFault) ⊎ ((s ≡ status.NoMemory) × IsMadeInParts kind))
    × (give moved.drawn ≡ None) × (moved ≡ record nothing { drawn = moved.drawn }))
    ⊎ ((drawn : List ℕ) × (more : List ℕ) × (given : Result (Of kind) EditRefusal)
    × (drawn ++ more ≡ moved.drawn) × Settles give drawn given
    × IsLeft (next given) files s (record moved { drawn = more }))
IsLeft (pumps part) files s moved =
    (moved ≡ record moved { drawn = [] }) × IsPassLeft part s moved.taken moved.written
IsLeft (collects part next) files s moved =
    ((moved ≡ record nothing { taken = moved.taken }) × IsDraftLeft part s moved.taken)
    ⊎ ((all : List ℕ) × (more : List ℕ) × (all ++ more ≡ moved.taken) × (part.refusal all true ≡ None)
    × IsLeft (next (part.output all true)) files s (record moved { taken = more }))
IsLeft (exchanges exchange next) files s moved =
    ((answers : StoreAnswers) × Agrees answers [] moved.asked × IsTalkLeft (exchange answers) s moved)
    ⊎ ((first : Moved) × (later : Moved) × (after : Option Files) × (then_moved first later ≡ moved)
    × AsksOver first.asked files after
    × (answers : StoreAnswers) × Agrees answers [] first.asked × HasReplied (exchange answers) first true goes
    × IsLeft (next (exchange answers first.taken first.drawn true).keys) after s later)

-- no file was asked for where the store failed
abbrev pub AllStood : List FileAsked → Type 0
AllStood [] = Unit {0}
AllStood (a ∷ asked) = (a.why ≢ Some StoreFault) × AllStood asked

-- one file is new, with the first bytes of the one that was to be made, or all of them
pub record AddsFront (files after : Option Files) : Type 0 where
  pub name : List ℕ
  pub bytes : List ℕ
  pub front : List ℕ
  pub rest : List ℕ
  pub whole : front ++ rest ≡ bytes
  pub absent : IfSome files (λ f. map.get f name ≡ None)
  pub is : after ≡ option_map (λ f. map.insert f name front) files

-- These files were asked for by lines of a session, and no other has changed, unless the run is Done or the store failed;
-- then one more may be new. If a store fault isn't the status, the store failed only where a line was answered so.
pub record Stores (asked : List FileAsked) (old : World) (s : Status) (new : World) : Type 0 where
  pub after : Option Files
  pub asks : AsksOver asked old.store.files after
  pub files : s ≢ status.Done → s ≢ status.StoreFault → new.store.files ≡ after
  pub torn : s ≡ status.StoreFault → (new.store.files ≡ after) ⊎ AddsFront after new.store.files
  pub stood : s ≢ status.StoreFault → AllStood asked → Stood old.store.faults new.store.faults

-- the plan writes nothing but at its end: it pumps no stream, and has no session
abbrev pub IsWhole : Plan → Type 0
IsWhole (ends stated_status stated) = Unit {0}
IsWhole (writes output) = Unit {0}
IsWhole (creates name output taken stated) = Unit {0}
IsWhole (looks name taken stated next) = IsWhole next
IsWhole (allocates next) = IsWhole next
IsWhole (loads name limit absent long a l next) = (bytes : List ℕ) → IsWhole (next bytes)
IsWhole (ranges x absent a next) = (opened : Opened) → IsWhole (next opened)
IsWhole (reads_all limit long stated next) = (all : List ℕ) → IsWhole (next all)
IsWhole (reads_front size next) = (front : List ℕ) → IsWhole (next front)
IsWhole (draws kind give next) = (given : Result (Of kind) EditRefusal) → IsWhole (next given)
IsWhole (pumps part) = ⊥
IsWhole (collects part next) = (output : List ℕ) → IsWhole (next output)
IsWhole (exchanges exchange next) = ⊥

-- What was taken, drawn and written, whatever the status: a fault comes before each refusal that the
-- files and the bytes taken and drawn decide, and what was written is what the plan gives out for
-- them. Random bytes behind those drawn are lost only where the entropy failed, and none where it fails
-- only for want of bytes. What lines of a session asked of the store it did, and no other file has changed, unless the
-- run is Done or the store failed; if that isn't the status, a line was answered so.
pub record Leaves (p : Plan) (old : World) (s : Status) (new : World) : Type 0 where
  pub moved : Moved
  pub gave : Gave old.source new.source moved.taken
  pub gone : DrewLosing old.entropy new.entropy moved.drawn
  pub none_lost : s ≢ status.EntropyFault → gone.lost ≡ []
  pub took : Took old.sink new.sink moved.written
  pub is : IsLeft p old.store.files s moved
  pub store : Stores moved.asked old s new

-- A run of the plan over these files may be given so many bytes of them: each file that was loaded, one byte
-- more than its limit of one that wasn't, of a range what it takes, and nothing else.
abbrev pub MayGive : Plan → Option Files → (given : ℕ) → Type 0
MayGive (ends stated_status stated) files given = given ≡ 0
MayGive (writes output) files given = given ≡ 0
MayGive (creates name output taken stated) files given = given ≡ 0
MayGive (looks name taken stated next) files given = (given ≡ 0) ⊎ MayGive next files given
MayGive (allocates next) files given = (given ≡ 0) ⊎ MayGive next files given
MayGive (loads name limit absent long a l next) files given =
    (given ≡ 0) ⊎ (given ≡ limit + 1)
    ⊎ ((bytes : List ℕ) × (more : ℕ) × Holds (over_files files) name (Some bytes)
    × (length bytes ≤ limit) × (given ≡ length bytes + more) × MayGive (next bytes) files more)
MayGive (ranges x absent a next) files given =
    (given ≡ 0) ⊎ GivesAtMost files x given
    ⊎ ((opened : Opened) × (most : ℕ) × (more : ℕ) × HoldsRange (over_files files) x opened
    × GivesAtMost files x most × IsShortPast x opened most
    × (given ≡ most + more) × MayGive (next opened) files more)
MayGive (reads_all limit long stated next) files given =
    (given ≡ 0) ⊎ ((all : List ℕ) × MayGive (next all) files given)
MayGive (reads_front size next) files given =
    (given ≡ 0) ⊎ ((front : List ℕ) × MayGive (next front) files given)
MayGive (draws kind give next) files given =
    (given ≡ 0) ⊎ ((drawn : Result (Of kind) EditRefusal) × MayGive (next drawn) files given)
MayGive (pumps part) files given = given ≡ 0
MayGive (collects part next) files given =
    (given ≡ 0) ⊎ ((output : List ℕ) × MayGive (next output) files given)
MayGive (exchanges exchange next) files given =
    (given ≡ 0) ⊎ ((keys : Keys) × (asked : List FileAsked) × (after : Option Files)
    × AsksOver asked files after × MayGive (next keys) after given)

-- What was read of files, whatever the status: no more than the plan takes. So no run loads a whole
-- stream.
pub record Reads (p : Plan) (old new : World) : Type 0 where
  pub given : ℕ
  pub may : MayGive p old.store.files given
  pub within : GaveWithin old.store new.store given

-- One file is new, with the first bytes of the one that the answer makes, or all of them; and the
-- answer's status is Done.
pub record IsTorn (p : Plan) (old new : World) : Type 0 where
  pub name : List ℕ
  pub bytes : List ℕ
  pub added : AddedFront old.store new.store name bytes
  pub answered : (told : Told) → Tells old told → (answer p told).status ≡ status.Done
  pub files : (told : Told) → Tells old told →
      (answer p told).files ≡ map.insert told.files name bytes

-- What stands. No file has changed, unless the run is Done or the store failed: at a store fault the
-- new file may be there with the first of its bytes. Of sessions, whose lines may save the keyset, `Leaves` says
-- that. But for streams and sessions, of which
-- `Leaves` speaks, the sink has gained nothing, unless the run is Done or the write failed; then it
-- has gained the first bytes of the answer's output, and the answer's status is Done.
pub record Stands (p : Plan) (old : World) (s : Status) (new : World) : Type 0 where
  pub files : SavesNothing p → s ≢ status.Done → s ≢ status.StoreFault → KeptFiles old.store new.store
  pub torn : SavesNothing p → s ≡ status.StoreFault → KeptFiles old.store new.store ⊎ IsTorn p old new
  pub kept : IsWhole p → s ≢ status.Done → s ≢ status.WriteFault → Took old.sink new.sink []
  pub front : IsWhole p → s ≡ status.WriteFault → (told : Told) → Tells old told →
      TookPrefix old.sink new.sink (answer p told).output
  pub last : IsWhole p → s ≡ status.WriteFault → (told : Told) → Tells old told →
      (answer p told).status ≡ status.Done

-- no object has failed
pub record NoneFailed (old new : World) : Type 0 where
  pub read : Rose old.source.faults new.source.faults → ⊥
  pub write : Rose old.sink.faults new.sink.faults → ⊥
  pub store : Rose old.store.faults new.store.faults → ⊥
  pub entropy : Rose old.entropy.faults new.entropy.faults → ⊥

-- Completeness: where no count of faults rose, the status is a stated one, or NoMemory.
pub record Completes (old : World) (s : Status) (new : World) : Type 0 where
  pub stated : NoneFailed old new → s ≢ status.NoMemory → IsStated s

-- All that is promised of a run of the plan: the stated answer, the causes of faults, that none is
-- hidden, what was taken and written, how much was read of files, what stands, and completeness. Each
-- follows from `ends`, which has each way in which a run may end.
pub record Promised (p : Plan) (old : World) (s : Status) (new : World) : Type 0 where
  pub answer : Answers p old s new
  pub cause : HasCause old s new
  pub shown : ShowsFaults p old s new
  pub leaves : Leaves p old s new
  pub reads : Reads p old new
  pub stands : Stands p old s new
  pub complete : Completes old s new
  pub ends : Ends p old s new
