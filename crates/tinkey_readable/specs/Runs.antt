-- Runs of the program, one after another, that hand a keyset on.
--
--   ReadIsStored   what is read is held to what the types of a record hold
--   hands_on       where a command takes a keyset, and where it puts one
--   told_lines     the lines of a told session, each as it is resolved
--   Passage        one run that hands a keyset on, or two that wrap it and unwrap it later
--   AreRuns        each reads what the one before put out, and is answered Done
--   RunStep        what one run does to the keyset
--   WrapStep       a keyset that was wrapped and unwrapped is the keyset
--   LocksStep      one that went on under masters in between is it after the edits on the way
--   RunsUnwrap     what was wrapped before runs over the master is unwrapped after them
--   RunsOpen ..    what was sealed or tagged before runs opens or verifies after them
use Rattle.std.specs.Prelude.{◌≡◌, ℕ, ◌<◌, ◌≤◌, Bool, true, false, List, [], ◌∷◌, length, Option, Some, None, Ok}
use Rattle.std.specs.FinMap as map
use Rattle.std.specs.List.{AllByRecursion}
use Rattle.std.specs.Option.{option_and_then}
use Rattle.std.specs.Result.{result_ok}
use Rattle.key_msgs.specs.Templates.{Row, row_named}
use Rattle.keyset_json.specs.Reading.{reads_json}
use Rattle.keyset_json.specs.Writing.{json_of}
use Rattle.keyset_model.specs.Keyset.{Keys, primary_of}
use Rattle.keyset_model.specs.Reading.{reads_binary}
use Rattle.keyset_model.specs.declared.record.Record.{Record}
use Rattle.managers.specs.Standard.{standard_table}
use Rattle.managers.specs.Table.{Table}
use Rattle.tink_spec.specs.Files.{Files}
use Rattle.tinkey_cmds.specs.Edits.{Edit, Stepped, first, step}
use Rattle.tinkey_session.specs.HeldLaws.{AreBytes, AreStored}
use Rattle.tinkey_session.specs.Laws.{IsEdited}
use Rattle.tinkey_session.specs.Lines.{Line}
use Rattle.tinkey_session.specs.Saving.{Form, StoreAnswers, by_files, resolved, with_saved_only}
use Rattle.tinkey_session.specs.Serving.{edit_named}
use Rattle.tinkey_session.specs.Session.{Remains, asked_in, lines_by, remains}
use Rattle.tinkey_session.specs.Talking.{Talk}
use Rattle.wrapped_prims.specs.Candidates.{prefix_of}
use Rattle.wrapped_prims.specs.Laws.{HasKey, HasSameKey}
use Rattle.tinkey_plans.specs.declared.status.Status.TheVariants as status
use Rattle.tinkey_words.specs.declared.words.rows.Format.{Format}
use Rattle.tinkey_words.specs.declared.words.rows.Format.TheVariants as formats
use Rattle.tinkey_plans.specs.Commands.{command_plan}
use Rattle.tinkey_plans.specs.Plan.{Answer, Told, answer}
use Rattle.tinkey_plans.specs.Session.{form_under, saving_session}
use Rattle.tinkey_plans.specs.Steps.{keyset_limit, written_in}
use Rattle.tinkey_plans.specs.Using.{hex_line}
use Rattle.tinkey_words.specs.Words.{Asked, AskedEdit, AskedWork, Lock, Master, Output, KeysetFile, as_taken, convert_keyset, create_keyset, edit_keyset, session, under, use_keyset, wrap_keyset, unwrap_keyset, to_seal, to_open, to_dseal, to_dopen, to_tag, to_verify}

-- the keyset that these bytes are, in this form
abbrev pub read_in : Format → List ℕ → Option Keys
read_in formats.Json bytes = result_ok (reads_json bytes)
read_in formats.Binary bytes = result_ok (reads_binary bytes)

-- a keyset as it lies outside: its bytes, and their form
pub record Written : Type 0 where
  pub bytes : List ℕ
  pub form : Format

-- the keyset that its bytes are, where they are one
abbrev pub keyset_of : Written → Option Keys
keyset_of written = read_in written.form written.bytes

-- what lies there are bytes, as in any file and any input: each is below 256
abbrev pub HoldsBytes : Written → Type 0
HoldsBytes written = AreBytes written.bytes

-- A keyset that is read of bytes, in either form and within the limit, is held to what the types of its
-- records hold.
abbrev pub ReadIsStored : Type 0
ReadIsStored = (written : Written) (keys : Keys) → HoldsBytes written
    → length written.bytes ≤ keyset_limit → keyset_of written ≡ Some keys → AreStored keys

-- the bytes of the file of this name, or where none is named, these
abbrev pub bytes_at : Option (List ℕ) → Files → (stream : List ℕ) → Option (List ℕ)
bytes_at (Some name) files stream = map.get files name
bytes_at None files stream = Some stream

-- where a keyset is taken from, and where one is put
pub record Handing : Type 0 where
  pub taken : KeysetFile
  pub put : KeysetFile

-- a session puts a keyset where a file is named for it
abbrev pub session_handing : (name : List ℕ) → Format → KeysetFile → (file : Option (List ℕ))
    → Option Handing
session_handing name form out None = None
session_handing name form out (Some file) =
    Some (record { taken = record { file = Some name; form = form }; put = out })

-- the commands that edit a keyset, the one that converts it, and a session, without a lock
abbrev pub hands_on : Asked → Option Handing
hands_on (edit_keyset None edit in' out) = Some (record { taken = in'; put = out })
hands_on (convert_keyset None as_taken in' out) = Some (record { taken = in'; put = out })
hands_on (session None name form out saved_only) = session_handing name form out out.file
hands_on _ = None

-- a run: what is asked, and what the outside objects told
pub record Run : Type 0 where
  pub asked : Asked
  pub told : Told

-- what a run is answered, over these managers
abbrev pub answer_of : Table → Run → Answer
answer_of table run = answer (command_plan table run.asked) run.told

-- the run is answered Done, reads what lies there, and puts out what lies here
pub record Hands (table : Table) (run : Run) (handing : Handing) (before after : Written) : Type 0 where
  pub done : (answer_of table run).status ≡ status.Done
  pub read_form : handing.taken.form ≡ before.form
  pub read : bytes_at handing.taken.file run.told.files run.told.input ≡ Some before.bytes
  pub put_form : handing.put.form ≡ after.form
  pub put : bytes_at handing.put.file (answer_of table run).files (answer_of table run).output
      ≡ Some after.bytes

-- a run hands a keyset on: both are keysets in clear
pub record HandsOn (table : Table) (run : Run) (before after : Written) : Type 0 where
  pub handing : Handing
  pub hands : hands_on run.asked ≡ Some handing
  pub handed : Hands table run handing before after

-- a keyset lies in the file of this name
abbrev pub LiesIn : Written → Told → (name : List ℕ) → Type 0
LiesIn written told name = map.get told.files name ≡ Some written.bytes

-- a run wrapped a keyset under the master that lies in a file of it, as this text
pub record Wraps (table : Table) (run : Run) (master before text : Written) : Type 0 where
  pub name : List ℕ
  pub lies : LiesIn master run.told name
  pub handing : Handing
  pub asked : run.asked ≡ wrap_keyset name master.form handing.taken handing.put
  pub handed : Hands table run handing before text

-- a run unwrapped a text under such a master, as this keyset
pub record Unwraps (table : Table) (run : Run) (master text after : Written) : Type 0 where
  pub name : List ℕ
  pub lies : LiesIn master run.told name
  pub handing : Handing
  pub asked : run.asked ≡ unwrap_keyset name master.form handing.taken handing.put
  pub handed : Hands table run handing text after

-- the primary record of the master has a prefix, and its key is in a later one, ENABLED and alone under
-- that prefix
pub record StillOpens (master later : Written) : Type 0 where
  pub holds : HoldsBytes master
  pub old : Keys
  pub read : keyset_of master ≡ Some old
  pub r : Record
  pub primary : primary_of old ≡ Some r
  pub prefix : List ℕ
  pub prefixed : prefix_of r ≡ Some prefix
  pub new : Keys
  pub read_again : keyset_of later ≡ Some new
  pub same : HasSameKey r new

-- ---- runs under masters

-- where a command takes a keyset under the lock of a master, and where it puts one under a master, which may
-- be the same
pub record LockedHanding : Type 0 where
  pub lock : Master
  pub new : Master
  pub handing : Handing

-- a session under a lock puts a keyset where a file is named for it
abbrev pub session_under : (lock : Master) → (name : List ℕ) → Format → KeysetFile
    → (file : Option (List ℕ)) → Option LockedHanding
session_under lock name form out None = None
session_under lock name form out (Some file) = Some (record {
  lock = lock;
  new = lock;
  handing = record { taken = record { file = Some name; form = form }; put = out };
})

-- the commands that edit a keyset under a lock, the one that converts it to another form or puts it under
-- another master, and a session
abbrev pub hands_under : Asked → Option LockedHanding
hands_under (edit_keyset (Some lock) edit in' out) =
    Some (record { lock = lock; new = lock; handing = record { taken = in'; put = out } })
hands_under (convert_keyset (Some lock) as_taken in' out) =
    Some (record { lock = lock; new = lock; handing = record { taken = in'; put = out } })
hands_under (convert_keyset (Some lock) (under new) in' out) =
    Some (record { lock = lock; new = new; handing = record { taken = in'; put = out } })
hands_under (session (Some lock) name form out saved_only) = session_under lock name form out out.file
hands_under _ = None

-- a run took the text that lies there under one master, and put the one that lies here under another or the
-- same, which is a keyset
pub record HandsUnder (table : Table) (run : Run) (master text put after : Written) : Type 0 where
  pub locked : LockedHanding
  pub hands : hands_under run.asked ≡ Some locked
  pub form : locked.lock.form ≡ master.form
  pub lies : LiesIn master run.told locked.lock.file
  pub new_form : locked.new.form ≡ put.form
  pub new_lies : LiesIn put run.told locked.new.file
  pub over : Keys
  pub read : keyset_of put ≡ Some over
  pub handed : Hands table run locked.handing text after

-- such runs, of which each takes the text that the one before it put, under a master that still opens it
abbrev pub AreLocked : Table → List Run → (master text last after : Written) → Type 0
AreLocked table [] master text last after = (master ≡ last) × (text ≡ after)
AreLocked table (run ∷ later) master text last after =
    (opening : Written) × (put : Written) × (between : Written) × StillOpens master opening
    × HandsUnder table run opening text put between × AreLocked table later put between last after

-- One run wrapped a keyset, and others took it on under masters, so that it lies as this text, which this
-- master still opens.
pub record GoesUnder (table : Table) (wrap : Run) (locked : List Run) (before later text : Written)
    : Type 0 where
  pub master : Written
  pub over : Keys
  pub read : keyset_of master ≡ Some over
  pub first : Written
  pub wraps : Wraps table wrap master before first
  pub last : Written
  pub are : AreLocked table locked master first last text
  pub opens : StillOpens last later

-- a run created a keyset under the master that lies in a file of it, as this text
pub record CreatesUnder (table : Table) (run : Run) (template : List ℕ) (master text : Written)
    : Type 0 where
  pub lock : Master
  pub form : lock.form ≡ master.form
  pub lies : LiesIn master run.told lock.file
  pub out : KeysetFile
  pub asked : run.asked ≡ create_keyset (Some lock) template out
  pub done : (answer_of table run).status ≡ status.Done
  pub put_form : out.form ≡ text.form
  pub put : bytes_at out.file (answer_of table run).files (answer_of table run).output
      ≡ Some text.bytes

-- it went so, and another run unwrapped the last text
pub record GoesLocked (table : Table) (wrap : Run) (locked : List Run) (unwrap : Run)
    (before after : Written) : Type 0 where
  pub later : Written
  pub text : Written
  pub goes : GoesUnder table wrap locked before later text
  pub unwraps : Unwraps table unwrap later text after

-- one run wrapped a keyset, and another one unwrapped that text, in its form, under a master that still
-- opens it
pub record GoesWrapped (table : Table) (wrap unwrap : Run) (before after : Written) : Type 0 where
  pub master : Written
  pub text : Written
  pub wraps : Wraps table wrap master before text
  pub later : Written
  pub opens : StillOpens master later
  pub unwraps : Unwraps table unwrap later text after

-- what hands a keyset on: one run, or those that wrap it, take it on under masters, and later unwrap it
pub data Passage : Type 0 where
  by_run : (run : Run) → Passage
  by_wrap : (wrap : Run) (locked : List Run) (unwrap : Run) → Passage

-- it leads from one keyset to another
abbrev pub LeadsTo : Table → Passage → (before after : Written) → Type 0
LeadsTo table (by_run run) before after = HandsOn table run before after
LeadsTo table (by_wrap wrap locked unwrap) before after =
    GoesLocked table wrap locked unwrap before after

-- runs, of which each reads what the one before put out
abbrev pub AreRuns : Table → List Passage → (before after : Written) → Type 0
AreRuns table [] before after = before ≡ after
AreRuns table (passage ∷ later) before after =
    (between : Written) × LeadsTo table passage before between × AreRuns table later between after

-- what a run draws are bytes
abbrev pub DrawsBytes : Run → Type 0
DrawsBytes run = AllByRecursion (λ b. b < 256) run.told.random

-- what is drawn on the way are bytes
abbrev pub PassesBytes : Passage → Type 0
PassesBytes (by_run run) = DrawsBytes run
PassesBytes (by_wrap wrap locked unwrap) = DrawsBytes wrap × AllByRecursion DrawsBytes locked

-- ---- the lines of a session

-- these lines, each as it is resolved in a session over this keyset that saves it in this form, in a store
-- that answers so
abbrev pub saving_lines : Table → Form → StoreAnswers → Keys → List Line → (random : List ℕ) → List Line
saving_lines table form answers keys lines random = lines_by table (resolved form answers) [] false keys lines random

-- the keyset of the master in the file of a lock, if there is one
abbrev pub master_told : Lock → Told → Option Keys
master_told None told = None
master_told (Some lock) told = option_and_then (read_in lock.form) (map.get told.files lock.file)

-- the lines of a told session that saves in clear or under a master, and seals and tags only under a keyset that a
-- file has, or always: the store holds the files that are told, and doesn't fail
abbrev pub told_lines : Table → (master : Option Keys) → Format → (saved_only : Bool) → Keys → Told → List Line
told_lines table master form saved_only keys told =
    saving_lines table (with_saved_only saved_only (form_under table master form)) (by_files told.files) keys
    (asked_in told.input) told.random

-- how such a session stands at the end of its input
abbrev pub told_session : Table → (master : Option Keys) → Format → (saved_only : Bool) → Keys → Told → Talk
told_session table master form saved_only keys told =
    saving_session table master form saved_only keys (by_files told.files) told.input told.random true

-- ---- one run

-- an edit was accepted
pub record IsEdit (asked : AskedEdit) (random : List ℕ) (old new : Keys) : Type 0 where
  pub edit : Edit
  pub is : edit_named asked ≡ Ok edit
  pub stepped : Stepped
  pub steps : step old edit random ≡ Some stepped
  pub accepted : stepped.answer ≡ Ok new

-- the first keyset of the template, of random bytes
pub record IsCreated (template random : List ℕ) (new : Keys) : Type 0 where
  pub row : Row
  pub named : row_named template ≡ Some row
  pub stepped : Stepped
  pub steps : first row random ≡ Some stepped
  pub accepted : stepped.answer ≡ Ok new

-- what is asked does this to the keyset, in clear or under a master: its edit; nothing; or what its lines do,
-- one after another
abbrev pub Does : Table → Told → (old new : Keys) → Asked → Type 0
Does table told old new (edit_keyset lock edit in' out) = IsEdit edit told.random old new
Does table told old new (convert_keyset lock how in' out) = old ≡ new
Does table told old new (session lock name form out saved_only) =
    (m : Remains)
    × (remains table old (told_lines table (master_told lock told) out.form saved_only old told) told.random
    ≡ Some m)
    × (m.keys ≡ new)
Does table told old new _ = ⊥

-- a run gave this keyset of that one, in bytes and within the limit of what is read, and it is held to
-- what the types of its records hold
pub record Gives (table : Table) (run : Run) (old : Keys) (after : Written) : Type 0 where
  pub new : Keys
  pub read : keyset_of after ≡ Some new
  pub does : Does table run.told old new run.asked
  pub stored : AreStored new
  pub within : length after.bytes ≤ keyset_limit
  pub holds : HoldsBytes after

-- What such a run puts out is read back, in its own form: it is the keyset that the run read, after
-- the run's accepted edits.
abbrev pub RunStep : Type 0
RunStep = (table : Table) (run : Run) (before after : Written) (old : Keys)
    → HandsOn table run before after → DrawsBytes run
    → HoldsBytes before → keyset_of before ≡ Some old
    → Gives table run old after

-- a keyset lies here, in bytes and within the limit of what is read, and it is held to what the types of
-- its records hold
pub record Keeps (keys : Keys) (after : Written) : Type 0 where
  pub read : keyset_of after ≡ Some keys
  pub stored : AreStored keys
  pub within : length after.bytes ≤ keyset_limit
  pub holds : HoldsBytes after

-- What went wrapped from a run to a later one, in either form of its text, is the keyset that the first
-- one read, under the managers of the program.
abbrev pub WrapStep : Type 0
WrapStep = (wrap unwrap : Run) (before after : Written) (old : Keys)
    → GoesWrapped standard_table wrap unwrap before after → DrawsBytes wrap
    → HoldsBytes before → keyset_of before ≡ Some old
    → Keeps old after

-- a keyset lies here that some edits of the old one gave
pub record GivesEdited (old : Keys) (after : Written) : Type 0 where
  pub new : Keys
  pub edited : IsEdited old new
  pub keeps : Keeps new after

-- What went on under masters, from a run that wrapped it to one that unwrapped it, is the keyset that the
-- first one read, after the edits that were accepted on the way, under the managers of the program.
abbrev pub LocksStep : Type 0
LocksStep = (wrap : Run) (locked : List Run) (unwrap : Run) (before after : Written) (old : Keys)
    → GoesLocked standard_table wrap locked unwrap before after → DrawsBytes wrap
    → AllByRecursion DrawsBytes locked → HoldsBytes before → keyset_of before ≡ Some old
    → GivesEdited old after

-- ---- many runs

-- runs lead from one keyset, whose primary record this is, to another
pub record LeadOn (runs : List Passage) (before after : Written) (r : Record) : Type 0 where
  pub are : AreRuns standard_table runs before after
  pub bytes : AllByRecursion PassesBytes runs
  pub holds : HoldsBytes before
  pub old : Keys
  pub read : keyset_of before ≡ Some old
  pub primary : primary_of old ≡ Some r
  pub new : Keys
  pub read_again : keyset_of after ≡ Some new

-- a new file may have the name, where one is given
abbrev pub IsFree : Option (List ℕ) → Files → Type 0
IsFree (Some name) files = map.get files name ≡ None
IsFree None files = Unit {0}

-- A keyset that was wrapped is within the limit of what is read, in this form: in the binary form it is, as
-- it wouldn't have been wrapped else; JSON may be longer.
abbrev pub IsWithinIn : Format → Keys → Type 0
IsWithinIn formats.Json keys = length (json_of keys) ≤ keyset_limit
IsWithinIn formats.Binary keys = Unit {0}

-- The text is unwrapped under this master to this keyset, in whichever file or input both lie, and put
-- where it is asked to be, in the form that is asked for: where the name of a new file is free, and the
-- keyset, if it is JSON that is asked for, is within the limit of what is read.
abbrev pub IsUnwrapped : (master text : Written) → Keys → Type 0
IsUnwrapped master text keys = (told : Told) (name : List ℕ) (in' out : KeysetFile)
    → LiesIn master told name → in'.form ≡ text.form
    → bytes_at in'.file told.files told.input ≡ Some text.bytes
    → IsFree out.file told.files → IsWithinIn out.form keys
    → let a = answer (command_plan standard_table (unwrap_keyset name master.form in' out)) told in
    (a.status ≡ status.Done) × (bytes_at out.file a.files a.output ≡ Some (written_in out.form keys))

-- What was wrapped under a master, under a key with a prefix, is unwrapped under the master that any runs
-- lead to, to the keyset, while that key is ENABLED in it and alone under its prefix.
abbrev pub RunsUnwrap : Type 0
RunsUnwrap = (runs : List Passage) (master later : Written) (r : Record) (prefix : List ℕ)
    (lead : LeadOn runs master later r) → HasSameKey r lead.new → prefix_of r ≡ Some prefix
    → (wrap : Run) (before text : Written) (old : Keys)
    → Wraps standard_table wrap master before text → DrawsBytes wrap
    → HoldsBytes before → keyset_of before ≡ Some old
    → IsUnwrapped later text old

-- the answer of work by the keys of the keyset that lies in the file of this name, put here
abbrev pub work_answer : AskedWork → Output → Written → (name : List ℕ) → Told → Answer
work_answer work out written name told =
    answer (command_plan standard_table (use_keyset None name written.form work out)) told

-- bytes as they are put: as they are, or as their line of hexadecimal
abbrev pub shown : (hex : Bool) → List ℕ → List ℕ
shown false bytes = bytes
shown true bytes = hex_line bytes

-- work over a keyset was answered Done, and put this output, to standard output or into a new file; a line
-- of hexadecimal is that of bytes
pub record WasDone (work : AskedWork) (written : Written) (told : Told) (output : List ℕ)
    : Type 0 where
  pub name : List ℕ
  pub out : Output
  pub lies : LiesIn written told name
  pub done : (work_answer work out written name told).status ≡ status.Done
  pub gave : let a = work_answer work out written name told in
      bytes_at out.file a.files a.output ≡ Some (shown out.hex output)
  pub bytes : out.hex ≡ true → AreBytes output

-- work over a keyset is answered Done, and puts this output, in whichever file the keyset lies, and
-- wherever the output is asked to be put, where the name of a new file is free
abbrev pub IsDone : AskedWork → Written → (input output : List ℕ) → Type 0
IsDone work written input output = (told : Told) (name : List ℕ) (out : Output)
    → LiesIn written told name → told.input ≡ input → IsFree out.file told.files
    → let a = work_answer work out written name told in
    (a.status ≡ status.Done) × (bytes_at out.file a.files a.output ≡ Some (shown out.hex output))

-- what was sealed under a key with a prefix opens to its plaintext, with its associated data, while that
-- key is ENABLED and alone under its prefix
abbrev pub RunsOpen : Type 0
RunsOpen = (runs : List Passage) (before after : Written) (r : Record) (prefix ad sealed : List ℕ)
    (told : Told) (lead : LeadOn runs before after r) → HasSameKey r lead.new
    → prefix_of r ≡ Some prefix
    → WasDone (to_seal ad) before told sealed
    → IsDone (to_open ad) after sealed told.input

-- the same without an IV
abbrev pub RunsDopen : Type 0
RunsDopen = (runs : List Passage) (before after : Written) (r : Record) (prefix ad sealed : List ℕ)
    (told : Told) (lead : LeadOn runs before after r) → HasSameKey r lead.new
    → prefix_of r ≡ Some prefix
    → WasDone (to_dseal ad) before told sealed
    → IsDone (to_dopen ad) after sealed told.input

-- while the key is there, ENABLED, it opens to some plaintext, whatever the output prefix type
abbrev pub RunsOpenPresent : Type 0
RunsOpenPresent = (runs : List Passage) (before after : Written) (r : Record) (ad sealed : List ℕ)
    (told : Told) (lead : LeadOn runs before after r) → HasKey r lead.new
    → WasDone (to_seal ad) before told sealed
    → (other : List ℕ) × IsDone (to_open ad) after sealed other

-- the same without an IV
abbrev pub RunsDopenPresent : Type 0
RunsDopenPresent = (runs : List Passage) (before after : Written) (r : Record) (ad sealed : List ℕ)
    (told : Told) (lead : LeadOn runs before after r) → HasKey r lead.new
    → WasDone (to_dseal ad) before told sealed
    → (other : List ℕ) × IsDone (to_dopen ad) after sealed other

-- a tag verifies, while the key is there, ENABLED, whatever the output prefix type
abbrev pub RunsVerify : Type 0
RunsVerify = (runs : List Passage) (before after : Written) (r : Record) (tag : List ℕ) (told : Told)
    (lead : LeadOn runs before after r) → HasKey r lead.new → WasDone to_tag before told tag
    → IsDone (to_verify tag) after told.input []
