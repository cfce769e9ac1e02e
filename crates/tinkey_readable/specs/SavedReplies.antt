-- What the lines of a session with the option --saved seal and tag: it is made over a keyset that a file has, and is
-- read over a file that is there after the run, however the session ends.
--
--   SavedBefore    a line before this place saved this keyset
--   SavedReplies   what a line makes is made over the keyset of the file that was read, or over one that was saved
--   IsReadAfter    it is read over a file that is there after a run; IsReadUnder: under a master
--   ReadsAll       so is all that the lines make
--   SavedRepliesInClear, SavedRepliesUnderMaster   the laws
use Rattle.std.specs.Prelude.{◌≡◌, ◌⊎◌, ℕ, ◌<◌, true, List, [], Some, None}
use Rattle.std.specs.FinMap as map
use Rattle.keyset_model.specs.Keyset.{Keys}
use Rattle.keyset_model.specs.declared.record.Record.{Record}
use Rattle.managers.specs.Standard.{standard_table}
use Rattle.tinkey_session.specs.HeldLaws.{AreBytes, AreStored}
use Rattle.tinkey_session.specs.KeptKeys.{HasDistinctIds}
use Rattle.tinkey_session.specs.Saving.{makes}
use Rattle.tinkey_session.specs.Session.{Turn}
use Rattle.wrapped_prims.specs.Answers.{dopen_answer, open_answer}
use Rattle.wrapped_prims.specs.Candidates.{prefix_of}
use Rattle.tinkey_plans.specs.Commands.{command_plan}
use Rattle.tinkey_plans.specs.Plan.{Answer, Told, answer}
use Rattle.tinkey_readable.specs.LineRuns.{asks}
use Rattle.tinkey_readable.specs.LockedRuns.{IsDoneUnder}
use Rattle.tinkey_readable.specs.Runs.{IsDone, LiesIn, StillOpens, Written}
use Rattle.tinkey_readable.specs.SavedLines.{HasMade, HasSaved, SessionStarts, session_turns}
use Rattle.tinkey_words.specs.declared.words.rows.Format.{Format}
use Rattle.tinkey_words.specs.Words.{AskedWork, KeysetFile, Lock, Master, session, to_dopen, to_dreseal, to_dseal, to_open, to_reseal, to_seal, to_tag, to_verify}

-- ---- the keyset before a line

-- a line before this place saved this keyset under some name, and was answered ok
pub record SavedBefore (ts : List Turn) (place : ℕ) (saved : Keys) : Type 0 where
  pub file : List ℕ
  pub has : HasSaved ts file saved
  pub earlier : has.place < place

-- Each output that a line sealed, resealed or tagged was made over the keyset of the file that the session read, or
-- over one that an earlier line saved. The record whose key made it is the primary one of that keyset.
abbrev pub SavedReplies : Type 0
SavedReplies = (lock : Lock) (name : List ℕ) (form : Format) (out : KeysetFile) (told : Told) (keys : Keys)
    (starts : SessionStarts lock name form out told keys) (work : AskedWork) (input output : List ℕ) (r : Record)
    → makes (asks work input) ≡ true
    → let ts = session_turns starts.master out.form true keys told in (made : HasMade ts work input output r)
    → (made.t.before ≡ keys) ⊎ SavedBefore ts made.place made.t.before

-- ---- what is read after the run

-- a file that is there after a run has a keyset, over which this work on this input is done with this output
pub record IsReadAfter (a : Answer) (work : AskedWork) (input output : List ℕ) : Type 0 where
  pub name : List ℕ
  pub file : Written
  pub there : map.get a.files name ≡ Some file.bytes
  pub read : IsDone work file input output

-- one has a keyset that lies sealed, over which the work is done so under this master
pub record IsReadUnder (master : Written) (a : Answer) (work : AskedWork) (input output : List ℕ) : Type 0 where
  pub name : List ℕ
  pub text : Written
  pub there : map.get a.files name ≡ Some text.bytes
  pub read : IsDoneUnder work master text input output

-- What lines sealed under a key with a prefix opens to its plaintext, and what they resealed opens to what that opened
-- to before, where the ids of the first keyset are distinct; the same without an IV. What they sealed under any key
-- opens to some plaintext, and their tags verify. It is `Reads` by which it is read.
pub record ReadsAll (ts : List Turn) (keys : Keys) (Reads : AskedWork → (input output : List ℕ) → Type 0) : Type 0
  where
    pub opens : (ad plain sealed prefix : List ℕ) (r : Record) → HasMade ts (to_seal ad) plain sealed r
        → prefix_of r ≡ Some prefix → HasDistinctIds keys → Reads (to_open ad) sealed plain
    pub reopens : (ad old new prefix : List ℕ) (r : Record) (made : HasMade ts (to_reseal ad) old new r)
        → prefix_of r ≡ Some prefix → HasDistinctIds keys
        → (plain : List ℕ) × (open_answer made.t.before standard_table old ad ≡ Some plain)
        × Reads (to_open ad) new plain
    pub dopens : (ad plain sealed prefix : List ℕ) (r : Record) → HasMade ts (to_dseal ad) plain sealed r
        → prefix_of r ≡ Some prefix → HasDistinctIds keys → Reads (to_dopen ad) sealed plain
    pub redopens : (ad old new prefix : List ℕ) (r : Record) (made : HasMade ts (to_dreseal ad) old new r)
        → prefix_of r ≡ Some prefix → HasDistinctIds keys
        → (plain : List ℕ) × (dopen_answer made.t.before standard_table old ad ≡ Some plain)
        × Reads (to_dopen ad) new plain
    pub opens_present : (ad plain sealed : List ℕ) (r : Record) → HasMade ts (to_seal ad) plain sealed r
        → (other : List ℕ) × Reads (to_open ad) sealed other
    pub dopens_present : (ad plain sealed : List ℕ) (r : Record) → HasMade ts (to_dseal ad) plain sealed r
        → (other : List ℕ) × Reads (to_dopen ad) sealed other
    pub verifies : (tag body : List ℕ) (r : Record) → HasMade ts to_tag body tag r → Reads (to_verify tag) body []

-- Over a keyset in clear: whatever lines of the session made is read so, over a file that is there after the run,
-- whatever the stated answer is.
abbrev pub SavedRepliesInClear : Type 0
SavedRepliesInClear = (name : List ℕ) (form : Format) (out : KeysetFile) (told : Told) (keys : Keys)
    (starts : SessionStarts None name form out told keys) → AreBytes starts.lies.bytes → AreBytes told.random
    → ReadsAll (session_turns None out.form true keys told) keys
    (IsReadAfter (answer (command_plan standard_table (session None name form out true)) told))

-- Over one under a master, it is read under that master, if its primary key has a prefix and is alone under it.
abbrev pub SavedRepliesUnderMaster : Type 0
SavedRepliesUnderMaster = (lock : Master) (name : List ℕ) (form : Format) (out : KeysetFile) (told : Told)
    (over keys : Keys) (master : Written) → lock.form ≡ master.form → LiesIn master told lock.file
    → (starts : SessionStarts (Some lock) name form out told keys) → starts.master ≡ Some over
    → AreStored keys → AreBytes told.random → StillOpens master master
    → ReadsAll (session_turns (Some over) out.form true keys told) keys
    (IsReadUnder master (answer (command_plan standard_table (session (Some lock) name form out true)) told))
