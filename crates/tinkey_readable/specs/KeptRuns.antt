-- What no run of the program takes away: a key that is ENABLED and alone under its prefix.
--
--   TookPlace      a run over objects that told this, as the top call promises it
--   Event          what happens to a keyset: it is handed on, goes wrapped, or stays where it lies
--   HaveLed        events lead from one keyset to another
--   OfEvents       a claim on each accepted edit and line among them, over the keyset that it met
--   CourseUnder    a keyset lies sealed, as it was wrapped or created under a master and taken on under masters
--   KeptByCommands, CommandIdsStayDistinct, KeptByItsIdAlone, GivenBackByEnable ..    the laws
use Rattle.std.specs.Prelude.{◌≡◌, ◌⊎◌, ℕ, List, [], ◌∷◌, ◌++◌, Option, Some, None, Ok}
use Rattle.std.specs.FinMap as map
use Rattle.std.specs.List.{AllByRecursion}
use Rattle.keyset_model.specs.Keyset.{Keys}
use Rattle.keyset_model.specs.declared.record.Record.{Record}
use Rattle.managers.specs.Standard.{standard_table}
use Rattle.managers.specs.Table.{Table}
use Rattle.tink_spec.specs.Files.{Files, Holds, StoreState}
use Rattle.tinkey_cmds.specs.Edits.{Enable}
use Rattle.tinkey_session.specs.KeptKeys.{HasData, HasDistinctIds, Spares, SparesData, SparesKey}
use Rattle.tinkey_session.specs.KeptLines.{EachAcceptedLine}
use Rattle.wrapped_prims.specs.Candidates.{prefix_of}
use Rattle.wrapped_prims.specs.Laws.{HasSameKey}
use Rattle.tinkey_plans.specs.Commands.{plan_of}
use Rattle.tinkey_plans.specs.Ends.{World}
use Rattle.tinkey_plans.specs.Plan.{Told}
use Rattle.tinkey_plans.specs.Promises.{NoneUnsaved, Promised, Tells}
use Rattle.tinkey_plans.specs.declared.status.Status.{Status}
use Rattle.tinkey_plans.specs.declared.status.Status.TheVariants as status
use Rattle.tinkey_readable.specs.LockedRuns.{GivesUnder}
use Rattle.tinkey_readable.specs.Runs.{DrawsBytes, Handing, HoldsBytes, IsCreated, LiesIn, LockedHanding, Run, StillOpens, Written, bytes_at, hands_on, hands_under, keyset_of, master_told, told_lines}
use Rattle.tinkey_words.specs.Words.{Asked, AskedEdit, Master, KeysetFile, create_keyset, edit_keyset, session, unwrap_keyset, words_of, wrap_keyset}

-- ---- runs as they took place

-- Words that ask for this were run over objects that told this, and the run ended so. It was no session, or no call
-- of the store failed, so that no reply to a line alone told a store fault.
pub record TookPlace (run : Run) (old : World) (s : Status) (new : World) : Type 0 where
  pub words : List (List ℕ)
  pub spelled : words_of words ≡ Ok run.asked
  pub tells : Tells old run.told
  pub promised : Promised (plan_of standard_table words) old s new
  pub unsaved : NoneUnsaved (plan_of standard_table words) old new

-- these bytes are in the file of this name after the run, or were written to standard output
abbrev pub IsPut : Option (List ℕ) → (old new : World) → (bytes : List ℕ) → Type 0
IsPut (Some name) old new bytes = Holds new.store name (Some bytes)
IsPut None old new bytes =
    (written : List ℕ) × (old.sink.written ≡ Some written)
    × (new.sink.written ≡ Some (written ++ bytes))

-- a run took place and was Done: it read what lies there, and put out what lies here
pub record Passes (run : Run) (handing : Handing) (before after : Written) : Type 0 where
  pub old : World
  pub new : World
  pub took : TookPlace run old status.Done new
  pub read_form : handing.taken.form ≡ before.form
  pub read : bytes_at handing.taken.file run.told.files run.told.input ≡ Some before.bytes
  pub put_form : handing.put.form ≡ after.form
  pub put : IsPut handing.put.file old new after.bytes

-- such a run edited a keyset, converted it, or was a session that saved it
pub record PassesOn (run : Run) (before after : Written) : Type 0 where
  pub handing : Handing
  pub hands : hands_on run.asked ≡ Some handing
  pub passes : Passes run handing before after

-- a run took the text that lies there under one master, and put the one that lies here under another or the
-- same, which is a keyset
pub record PassesUnder (run : Run) (master text put after : Written) : Type 0 where
  pub locked : LockedHanding
  pub hands : hands_under run.asked ≡ Some locked
  pub form : locked.lock.form ≡ master.form
  pub lies : LiesIn master run.told locked.lock.file
  pub new_form : locked.new.form ≡ put.form
  pub new_lies : LiesIn put run.told locked.new.file
  pub over : Keys
  pub read : keyset_of put ≡ Some over
  pub passes : Passes run locked.handing text after

-- such runs, of which each took the text that the one before it put, under a master that still opened it
abbrev pub HavePassed : List Run → (master text last after : Written) → Type 0
HavePassed [] master text last after = (master ≡ last) × (text ≡ after)
HavePassed (run ∷ later) master text last after =
    (opening : Written) × (put : Written) × (between : Written) × StillOpens master opening
    × PassesUnder run opening text put between × HavePassed later put between last after

-- a run wrapped it under a master that lay in a file, others took it on under masters, and a later one unwrapped
-- the last text under a master that still opens it
pub record PassesWrapped (wrap : Run) (locked : List Run) (unwrap : Run) (before after : Written)
    : Type 0 where
  pub master : Written
  pub over : Keys
  pub read : keyset_of master ≡ Some over
  pub name : List ℕ
  pub lies : LiesIn master wrap.told name
  pub first : Written
  pub handing : Handing
  pub asked : wrap.asked ≡ wrap_keyset name master.form handing.taken handing.put
  pub passes : Passes wrap handing before first
  pub last : Written
  pub text : Written
  pub are : HavePassed locked master first last text
  pub later : Written
  pub opens : StillOpens last later
  pub later_name : List ℕ
  pub later_lies : LiesIn later unwrap.told later_name
  pub later_handing : Handing
  pub later_asked : unwrap.asked
      ≡ unwrap_keyset later_name later.form later_handing.taken later_handing.put
  pub later_passes : Passes unwrap later_handing text after

-- a store that tells has these bytes in the file of this name
abbrev pub Has : StoreState → (name bytes : List ℕ) → Type 0
Has store name bytes = (files : Files) × (store.files ≡ Some files) × (map.get files name ≡ Some bytes)

-- a run of any words, with whatever status, took place while the keyset lay in a file, and this is what lies
-- in that file after it
pub record StaysIn (before after : Written) : Type 0 where
  pub table : Table
  pub words : List (List ℕ)
  pub old : World
  pub s : Status
  pub new : World
  pub promised : Promised (plan_of table words) old s new
  pub name : List ℕ
  pub lay : Has old.store name before.bytes
  pub lies : Has new.store name after.bytes
  pub same_form : after.form ≡ before.form

-- What happens to a keyset: a run edits or converts it, or is a session that saves it; it goes wrapped
-- from a run to a later one, and on under masters in between; or there is any other run, of whatever words and with whatever status, and the
-- keyset is taken on from the file that it lay in.
pub data Event : Type 0 where
  passed_on : (run : Run) → Event
  passed_wrapped : (wrap : Run) (locked : List Run) (unwrap : Run) → Event
  passed_by : Event

-- it led from one keyset to another
abbrev pub HasLed : Event → (before after : Written) → Type 0
HasLed (passed_on run) before after = PassesOn run before after
HasLed (passed_wrapped wrap locked unwrap) before after =
    PassesWrapped wrap locked unwrap before after
HasLed passed_by before after = StaysIn before after

-- events, of which each takes the keyset that the one before it left
abbrev pub HaveLed : List Event → (before after : Written) → Type 0
HaveLed [] before after = before ≡ after
HaveLed (event ∷ later) before after =
    (between : Written) × HasLed event before between × HaveLed later between after

-- what is drawn on the way are bytes
abbrev pub EventDraws : Event → Type 0
EventDraws (passed_on run) = DrawsBytes run
EventDraws (passed_wrapped wrap locked unwrap) =
    DrawsBytes wrap × AllByRecursion DrawsBytes locked
EventDraws passed_by = Unit {0}

-- events led from this keyset on
pub record Course (events : List Event) (before after : Written) (old : Keys) : Type 0 where
  pub led : HaveLed events before after
  pub bytes : AllByRecursion EventDraws events
  pub holds : HoldsBytes before
  pub read : keyset_of before ≡ Some old

-- ---- what was done to the keyset

-- the claim holds of the edit that is asked for, or of that of each accepted line of the session
abbrev pub OfAsked : (Keys → AskedEdit → Type 0) → Keys → Told → Asked → Type 0
OfAsked Claim keys told (edit_keyset lock edit in' out) = Claim keys edit
OfAsked Claim keys told (session lock name form out saved_only) =
    EachAcceptedLine standard_table Claim keys
    (told_lines standard_table (master_told lock told) out.form saved_only keys told) told.random
OfAsked Claim keys told asked = Unit {0}

-- it holds of what each of such runs did to the keyset that its text gave
abbrev pub OfLocked : (Keys → AskedEdit → Type 0) → (runs : List Run)
    → (master text last after : Written) → HavePassed runs master text last after → Type 0
OfLocked Claim [] master text last after have = Unit {0}
OfLocked Claim (run ∷ later) master text last after (opening, put, between, opens, passes, have) =
    ((keys : Keys) → GivesUnder opens.new text keys → OfAsked Claim keys run.told run.asked)
    × OfLocked Claim later put between last after have

-- it holds of what an event did to the keyset that lies there; only what passes it on changes it
abbrev pub OfEvent : (Keys → AskedEdit → Type 0) → (event : Event) → (before after : Written)
    → HasLed event before after → Type 0
OfEvent Claim (passed_on run) before after has =
    (keys : Keys) → keyset_of before ≡ Some keys → OfAsked Claim keys run.told run.asked
OfEvent Claim (passed_wrapped wrap locked unwrap) before after has =
    OfLocked Claim locked has.master has.first has.last has.text has.are
OfEvent Claim passed_by before after has = Unit {0}

-- it holds of each event, over the keyset that the one before it left
abbrev pub OfEvents : (Keys → AskedEdit → Type 0) → (events : List Event) → (before after : Written)
    → HaveLed events before after → Type 0
OfEvents Claim [] before after led = Unit {0}
OfEvents Claim (event ∷ later) before after (between, has, led) =
    OfEvent Claim event before between has × OfEvents Claim later between after led

-- ---- a keyset that lies sealed

-- a run wrapped this keyset, which lay in clear, under a master that lay in a file of it, as this text
pub record WrapsFirst (run : Run) (master text : Written) (keys : Keys) : Type 0 where
  pub name : List ℕ
  pub lies : LiesIn master run.told name
  pub before : Written
  pub holds : HoldsBytes before
  pub read : keyset_of before ≡ Some keys
  pub handing : Handing
  pub asked : run.asked ≡ wrap_keyset name master.form handing.taken handing.put
  pub passes : Passes run handing before text

-- a run created one by this template under such a master, as this text
pub record CreatesFirst (run : Run) (template : List ℕ) (master text : Written) : Type 0 where
  pub lock : Master
  pub form : lock.form ≡ master.form
  pub lies : LiesIn master run.told lock.file
  pub out : KeysetFile
  pub asked : run.asked ≡ create_keyset (Some lock) template out
  pub old : World
  pub new : World
  pub took : TookPlace run old status.Done new
  pub put_form : out.form ≡ text.form
  pub put : IsPut out.file old new text.bytes

-- this keyset, as it is made of the random bytes
abbrev pub CreatesThis : (run : Run) → (master text : Written) → Keys → Type 0
CreatesThis run master text keys = (template : List ℕ)
    × CreatesFirst run template master text × IsCreated template run.told.random keys

-- A run wrapped or created a keyset under a master, and others took it on under masters, so that it lies as this
-- text, which this master still opens.
pub record CourseUnder (first : Run) (locked : List Run) (later text : Written) (old : Keys) : Type 0 where
  pub master : Written
  pub over : Keys
  pub read : keyset_of master ≡ Some over
  pub begun : Written
  pub begins : WrapsFirst first master begun old ⊎ CreatesThis first master begun old
  pub last : Written
  pub are : HavePassed locked master begun last text
  pub opens : StillOpens last later
  pub bytes : AllByRecursion DrawsBytes (first ∷ locked)

-- ---- the laws

-- the key of that record lies here, ENABLED and alone under its prefix
pub record LiesAlone (r : Record) (written : Written) : Type 0 where
  pub keys : Keys
  pub read : keyset_of written ≡ Some keys
  pub key : HasSameKey r keys

-- A key with a prefix that is ENABLED and alone under it stays so, with the same id, prefix, URL and value,
-- over any runs with whatever outcome, of which no accepted edit or line disables, destroys or deletes its
-- id, or enables another key under its prefix.
abbrev pub KeptByCommands : Type 0
KeptByCommands = (events : List Event) (before after : Written) (old : Keys) (r : Record)
    (prefix : List ℕ) (course : Course events before after old)
    → prefix_of r ≡ Some prefix → HasSameKey r old
    → OfEvents (SparesKey r) events before after course.led
    → LiesAlone r after

-- A keyset whose ids are distinct has distinct ids after any such runs.
abbrev pub CommandIdsStayDistinct : Type 0
CommandIdsStayDistinct = (events : List Event) (before after : Written) (old : Keys)
    → Course events before after old → HasDistinctIds old
    → (new : Keys) × (keyset_of after ≡ Some new) × HasDistinctIds new

-- Where ids are distinct, only an accepted edit or line that disables, destroys or deletes its own id takes
-- a key with a prefix away.
abbrev pub KeptByItsIdAlone : Type 0
KeptByItsIdAlone = (events : List Event) (before after : Written) (old : Keys) (r : Record)
    (prefix : List ℕ) (course : Course events before after old)
    → HasDistinctIds old → prefix_of r ≡ Some prefix → HasSameKey r old
    → OfEvents (λ keys. Spares r.id) events before after course.led
    → LiesAlone r after

-- All that makes a key stays over any such runs that don't destroy or delete its id, also where they disable
-- it.
abbrev pub DataStaysByCommands : Type 0
DataStaysByCommands = (events : List Event) (before after : Written) (old : Keys) (r : Record)
    (course : Course events before after old)
    → HasData r old → OfEvents (λ keys. SparesData r.id) events before after course.led
    → (new : Keys) × (keyset_of after ≡ Some new) × HasData r new

-- So a run of enable-key gives a key with a prefix back, where ids are distinct: the keyset that it puts out
-- has it, ENABLED and alone under its prefix.
abbrev pub GivenBackByEnable : Type 0
GivenBackByEnable = (run : Run) (before after : Written) (old : Keys) (r : Record)
    (prefix : List ℕ) (in' out : KeysetFile) → run.asked ≡ edit_keyset None (Enable r.id) in' out
    → PassesOn run before after → DrawsBytes run → HoldsBytes before
    → keyset_of before ≡ Some old → HasDistinctIds old
    → prefix_of r ≡ Some prefix → HasData r old
    → LiesAlone r after

-- So does one with a lock, of a keyset that lies sealed, as no run under masters destroyed or deleted its id:
-- under each master that still opens what it put out, that gives a keyset that has the key, ENABLED and alone
-- under its prefix.
abbrev pub GivenBackUnderLock : Type 0
GivenBackUnderLock = (first : Run) (locked : List Run) (run : Run)
    (opening text put after later : Written) (old : Keys) (r : Record) (prefix : List ℕ)
    (lock : Master) (in' out : KeysetFile) (course : CourseUnder first locked opening text old)
    → run.asked ≡ edit_keyset (Some lock) (Enable r.id) in' out
    → PassesUnder run opening text put after → DrawsBytes run
    → HasDistinctIds old → prefix_of r ≡ Some prefix → HasData r old
    → OfLocked (λ keys. SparesData r.id) locked course.master course.begun course.last text course.are
    → (opens : StillOpens put later)
    → (new : Keys) × GivesUnder opens.new after new × HasSameKey r new

-- What a run of create-keyset put out is a keyset whose ids are distinct.
abbrev pub CreatedIdsAreDistinct : Type 0
CreatedIdsAreDistinct = (run : Run) (template : List ℕ) (out : KeysetFile) (old new : World)
    (after : Written) → run.asked ≡ create_keyset None template out → TookPlace run old status.Done new
    → DrawsBytes run → out.form ≡ after.form → IsPut out.file old new after.bytes
    → (keys : Keys) × (keyset_of after ≡ Some keys) × HasDistinctIds keys

-- What one put under a master gives such a keyset, the first one of its template, under each master that still
-- opens it.
abbrev pub CreatedUnderLock : Type 0
CreatedUnderLock = (run : Run) (template : List ℕ) (master text later : Written)
    → CreatesFirst run template master text → DrawsBytes run
    → (opens : StillOpens master later)
    → (keys : Keys) × IsCreated template run.told.random keys × GivesUnder opens.new text keys
    × HasDistinctIds keys

-- No run takes a file away or changes it, whatever it is asked and however it ends.
abbrev pub FilesStay : Type 0
FilesStay = (table : Table) (words : List (List ℕ)) (old : World) (s : Status) (new : World)
    (name bytes : List ℕ) → Promised (plan_of table words) old s new → Has old.store name bytes
    → Has new.store name bytes
