-- What a line of a session saves: the keyset as it was before that line, in a new file. What the lines of that
-- session sealed or tagged, before it or after it, is read over that file while its keyset has the key.
--
--   SessionStarts  the lines of a session over a keyset are answered
--   session_turns  the turns of the lines that it answers
--   HasSaved       a line saved this keyset under this name, and was answered ok
--   HasMade        a line made something of an input, under the key of a primary record
--   ReadsLines     what the lines made is read over the keyset that was saved
--   SavedInClear, SavedUnderMaster   the laws
--   LinesMake      what a line made is read anywhere
use Rattle.std.specs.Prelude.{◌≡◌, ◌⊎◌, ℕ, ◌≤◌, Bool, List, [], length, take, Option, Some, None, slice_get}
use Rattle.std.specs.FinMap as map
use Rattle.key_msgs.specs.declared.primitive.Primitive.TheVariants.{Aead, Daead, Mac}
use Rattle.keyset_model.specs.Keyset.{Keys, primary_of}
use Rattle.keyset_model.specs.declared.record.Record.{Record}
use Rattle.managers.specs.Standard.{standard_table}
use Rattle.tinkey_session.specs.HeldLaws.{AreBytes, AreStored}
use Rattle.tinkey_session.specs.KeptKeys.{HasDistinctIds}
use Rattle.tinkey_session.specs.Lines.{Outcome, Save}
use Rattle.tinkey_session.specs.Saving.{by_files, with_saved_only}
use Rattle.tinkey_session.specs.Session.{Turn, asked_in, turns}
use Rattle.tinkey_session.specs.declared.reply.Reply.TheVariants.{Done, Gives}
use Rattle.wrapped_prims.specs.Answers.{dopen_answer, open_answer}
use Rattle.wrapped_prims.specs.Candidates.{prefix_of}
use Rattle.wrapped_prims.specs.Fitness.{unfit}
use Rattle.wrapped_prims.specs.Laws.{HasKey, HasSameKey}
use Rattle.tinkey_plans.specs.Commands.{command_plan}
use Rattle.tinkey_plans.specs.Plan.{Told, answer}
use Rattle.tinkey_plans.specs.Session.{form_under}
use Rattle.tinkey_plans.specs.Wrapping.{wrapped_limit}
use Rattle.tinkey_readable.specs.Anywhere.{Serves, WasMadeBy}
use Rattle.tinkey_readable.specs.LineRuns.{asks}
use Rattle.tinkey_readable.specs.LockedRuns.{GivesUnder, IsDoneUnder}
use Rattle.tinkey_readable.specs.Lying.{LiesThere, OpensLock}
use Rattle.tinkey_readable.specs.Runs.{IsDone, IsFree, Keeps, LiesIn, StillOpens, Written, saving_lines, told_session}
use Rattle.tinkey_words.specs.declared.words.rows.Format.{Format}
use Rattle.tinkey_words.specs.Words.{AskedWork, KeysetFile, Lock, Master, session, to_dopen, to_dreseal, to_dseal, to_open, to_reseal, to_seal, to_tag, to_verify}

-- ---- a session

-- The lock opens, this keyset lies in the file of this name behind it, and the name of a new file is free: the
-- lines of a session over it are answered.
pub record SessionStarts (lock : Lock) (name : List ℕ) (form : Format) (out : KeysetFile) (told : Told) (keys : Keys)
    : Type 0 where
  pub master : Option Keys
  pub opens : OpensLock standard_table lock told master
  pub lies : LiesThere standard_table master (record { file = Some name; form = form }) told keys
  pub free : IsFree out.file told.files

-- the turns of the lines that are answered, up to the end of the input or to what stops the session
abbrev pub session_turns : (master : Option Keys) → Format → (saved_only : Bool) → Keys → Told → List Turn
session_turns master form saved_only keys told =
    let answered = take (told_session standard_table master form saved_only keys told).count (asked_in told.input) in
    turns standard_table keys
    (saving_lines standard_table (with_saved_only saved_only (form_under standard_table master form))
    (by_files told.files) keys answered told.random)
    told.random

-- a line saved this keyset under this name, and was answered ok
pub record HasSaved (ts : List Turn) (file : List ℕ) (saved : Keys) : Type 0 where
  pub place : ℕ
  pub outcome : Outcome
  pub there : slice_get ts place
      ≡ Some (record { before = saved; line = Save file outcome; reply = Done })

-- by this work a line made this output of this input, under the key of this primary record
pub record HasMade (ts : List Turn) (work : AskedWork) (input output : List ℕ) (r : Record) : Type 0 where
  pub place : ℕ
  pub t : Turn
  pub there : slice_get ts place ≡ Some t
  pub line : t.line ≡ asks work input
  pub reply : t.reply ≡ Gives output
  pub primary : primary_of t.before ≡ Some r

-- ---- what is read over the keyset that was saved

-- The key of this record, which has a prefix, is in that keyset, ENABLED and alone under its prefix; or the record
-- is its primary one, as where no edit between the two lines changed that, and ids were distinct at first.
abbrev pub StillAlone : Record → (keys saved : Keys) → Type 0
StillAlone r keys saved = HasSameKey r saved ⊎ ((primary_of saved ≡ Some r) × HasDistinctIds keys)

-- the key is there, ENABLED, or is the primary one
abbrev pub StillThere : Record → (saved : Keys) → Type 0
StillThere r saved = HasKey r saved ⊎ (primary_of saved ≡ Some r)

-- Over the keyset that was saved, where its ENABLED records serve the primitive: what lines of the session
-- sealed opens to its plaintext, what they resealed opens to what that opened to before, and the same without an
-- IV; to some plaintext, whatever the output prefix type, while the key is there; and then their tags verify. It
-- is `Reads` by which it is read.
pub record ReadsLines (ts : List Turn) (keys saved : Keys)
    (Reads : AskedWork → (input output : List ℕ) → Type 0) : Type 0 where
  pub opens : (ad plain sealed prefix : List ℕ) (r : Record) → HasMade ts (to_seal ad) plain sealed r
      → prefix_of r ≡ Some prefix → StillAlone r keys saved → unfit saved Aead standard_table ≡ None
      → Reads (to_open ad) sealed plain
  pub reopens : (ad old new prefix : List ℕ) (r : Record) (made : HasMade ts (to_reseal ad) old new r)
      → prefix_of r ≡ Some prefix → StillAlone r keys saved → unfit saved Aead standard_table ≡ None
      → (plain : List ℕ) × (open_answer made.t.before standard_table old ad ≡ Some plain)
      × Reads (to_open ad) new plain
  pub dopens : (ad plain sealed prefix : List ℕ) (r : Record) → HasMade ts (to_dseal ad) plain sealed r
      → prefix_of r ≡ Some prefix → StillAlone r keys saved → unfit saved Daead standard_table ≡ None
      → Reads (to_dopen ad) sealed plain
  pub redopens : (ad old new prefix : List ℕ) (r : Record) (made : HasMade ts (to_dreseal ad) old new r)
      → prefix_of r ≡ Some prefix → StillAlone r keys saved → unfit saved Daead standard_table ≡ None
      → (plain : List ℕ) × (dopen_answer made.t.before standard_table old ad ≡ Some plain)
      × Reads (to_dopen ad) new plain
  pub opens_present : (ad plain sealed : List ℕ) (r : Record) → HasMade ts (to_seal ad) plain sealed r
      → StillThere r saved → unfit saved Aead standard_table ≡ None
      → (other : List ℕ) × Reads (to_open ad) sealed other
  pub dopens_present : (ad plain sealed : List ℕ) (r : Record) → HasMade ts (to_dseal ad) plain sealed r
      → StillThere r saved → unfit saved Daead standard_table ≡ None
      → (other : List ℕ) × Reads (to_dopen ad) sealed other
  pub verifies : (tag body : List ℕ) (r : Record) → HasMade ts to_tag body tag r
      → StillThere r saved → unfit saved Mac standard_table ≡ None
      → Reads (to_verify tag) body []

-- ---- the laws

-- In these bytes, in this form, lies the keyset that was saved, and over them the session's lines are read.
pub record IsSavedFile (ts : List Turn) (keys saved : Keys) (form : Format)
    (bytes : Option (List ℕ)) : Type 0 where
  pub file : Written
  pub is : bytes ≡ Some file.bytes
  pub same : file.form ≡ form
  pub keeps : Keeps saved file
  pub reads : ReadsLines ts keys saved (λ work input output. IsDone work file input output)

-- A line of a session over a keyset in clear that saved the keyset, and was answered ok, made a file of this name,
-- which is there after the run, whatever the stated answer is: read back, it is the keyset before that line.
abbrev pub SavedInClear : Type 0
SavedInClear = (name file : List ℕ) (form : Format) (out : KeysetFile) (saved_only : Bool) (told : Told)
    (keys saved : Keys)
    (starts : SessionStarts None name form out told keys) → AreBytes starts.lies.bytes → AreBytes told.random
    → let ts = session_turns None out.form saved_only keys told in HasSaved ts file saved
    → let a = answer (command_plan standard_table (session None name form out saved_only)) told in
    IsSavedFile ts keys saved out.form (map.get a.files file)

-- In these bytes, in this form, the keyset that was saved lies sealed: each master that still opens it gives
-- that keyset, and over it the session's lines are read, where that master can serve.
pub record IsSavedText (ts : List Turn) (keys saved : Keys) (master : Written) (form : Format)
    (bytes : Option (List ℕ)) : Type 0 where
  pub text : Written
  pub is : bytes ≡ Some text.bytes
  pub same : text.form ≡ form
  pub within : length text.bytes ≤ wrapped_limit
  pub gives : (later : Written) (opens : StillOpens master later) → GivesUnder opens.new text saved
  pub reads : (later : Written) (opens : StillOpens master later) → Serves Aead later opens.new
      → ReadsLines ts keys saved (λ work input output. IsDoneUnder work later text input output)

-- So it is of a session over a keyset under a master.
abbrev pub SavedUnderMaster : Type 0
SavedUnderMaster = (lock : Master) (name file : List ℕ) (form : Format) (out : KeysetFile) (saved_only : Bool)
    (told : Told) (over keys saved : Keys) (master : Written) → lock.form ≡ master.form → LiesIn master told lock.file
    → (starts : SessionStarts (Some lock) name form out told keys) → starts.master ≡ Some over
    → AreStored keys → AreBytes told.random
    → let ts = session_turns (Some over) out.form saved_only keys told in HasSaved ts file saved
    → let a = answer (command_plan standard_table (session (Some lock) name form out saved_only)) told in
    IsSavedText ts keys saved master out.form (map.get a.files file)

-- What a line of either session made is read anywhere, as `kept_anywhere` and its kin say of what was made so.
abbrev pub LinesMake : Type 0
LinesMake = (lock : Lock) (name : List ℕ) (form : Format) (out : KeysetFile) (saved_only : Bool) (told : Told)
    (keys : Keys) (starts : SessionStarts lock name form out told keys) (work : AskedWork) (input output : List ℕ)
    (r : Record)
    → HasMade (session_turns starts.master out.form saved_only keys told) work input output r
    → WasMadeBy work input output r
