-- What a session leaves readable.
--
--   AreReadable   of turns: what one sealed or tagged, a later one opens or verifies
--   StoreGave     files were asked for, and the store answered so
--   HasReplies    what was written are the replies of such turns, and what a line saved is there
--   IsReadable    of a run: where it is that of a session, however it ended, it has such replies
use Rattle.std.specs.Prelude.{◌≡◌, ◌≢◌, ℕ, ◌<◌, Bool, List, [], ◌++◌, length, map, Option, Some, Ok, slice_get}
use Rattle.std.specs.List.{flat_map}
use Rattle.keyset_model.specs.Keyset.{Keys, primary_of}
use Rattle.keyset_model.specs.declared.record.Record.{Record}
use Rattle.managers.specs.Standard.{standard_table}
use Rattle.managers.specs.Table.{Table}
use Rattle.tink_spec.specs.Files.{Files, StoreState}
use Rattle.tink_spec.specs.Outside.{Rose, Took, TookPrefix}
use Rattle.tinkey_session.specs.Lines.{Line, Outcome, line_of, Save, Seal, Open, Dseal, Dopen, Tag, Verify}
use Rattle.tinkey_session.specs.declared.reply.Reply.TheVariants.{Done, Gives}
use Rattle.tinkey_session.specs.Saving.{Agrees, FileAsked, Form, StoreAnswers, files_of, with_saved_only}
use Rattle.tinkey_session.specs.Session.{Turn, lines_of, turns}
use Rattle.tinkey_session.specs.TalkLaws.{replies_text}
use Rattle.wrapped_prims.specs.Candidates.{prefix_of}
use Rattle.wrapped_prims.specs.Laws.{HasKey, HasSameKey}
use Rattle.tinkey_plans.specs.declared.status.Status.{Status}
use Rattle.tinkey_plans.specs.declared.status.Status.TheVariants as status
use Rattle.tinkey_words.specs.declared.words.rows.Format.{Format}
use Rattle.tinkey_plans.specs.Ends.{World, Ends}
use Rattle.tinkey_plans.specs.Plan.{Told, IsStated, allocates}
use Rattle.tinkey_plans.specs.Commands.{plan_of}
use Rattle.tinkey_plans.specs.Promises.{Answers, AsksOver, Tells}
use Rattle.tinkey_plans.specs.Session.{form_under}
use Rattle.tinkey_readable.specs.KeptRuns.{Has}
use Rattle.tinkey_readable.specs.Lying.{FileGives}
use Rattle.tinkey_readable.specs.Runs.{saving_lines}
use Rattle.tinkey_words.specs.Words.{Lock, KeysetFile, session, words_of}

-- two of these turns, the second one later
pub record AreAmong (ts : List Turn) (s t : Turn) : Type 0 where
  pub i : ℕ
  pub j : ℕ
  pub later : i < j
  pub first : slice_get ts i ≡ Some s
  pub second : slice_get ts j ≡ Some t

-- What a line `seal` or `dseal` gave, a later line `open` or `dopen` with the same associated data
-- answers with its plaintext, while the one ENABLED record that the keyset before that line has under its
-- prefix is the record that sealed, with its id, output prefix type and key. While the keyset has that
-- record, ENABLED, alone or not and of whatever prefix type, it is some plaintext; and what a line `tag`
-- gave, a later line `verify` accepts.
pub record AreReadable (ts : List Turn) : Type 0 where
  pub opens : (s t : Turn) (r : Record) (prefix plain ad sealed : List ℕ) → AreAmong ts s t
      → s.line ≡ Seal plain ad → s.reply ≡ Gives sealed
      → primary_of s.before ≡ Some r → prefix_of r ≡ Some prefix
      → t.line ≡ Open sealed ad → HasSameKey r t.before → t.reply ≡ Gives plain
  pub dopens : (s t : Turn) (r : Record) (prefix plain ad sealed : List ℕ) → AreAmong ts s t
      → s.line ≡ Dseal plain ad → s.reply ≡ Gives sealed
      → primary_of s.before ≡ Some r → prefix_of r ≡ Some prefix
      → t.line ≡ Dopen sealed ad → HasSameKey r t.before → t.reply ≡ Gives plain
  pub opens_present : (s t : Turn) (r : Record) (plain ad sealed : List ℕ) → AreAmong ts s t
      → s.line ≡ Seal plain ad → s.reply ≡ Gives sealed → primary_of s.before ≡ Some r
      → t.line ≡ Open sealed ad → HasKey r t.before
      → (other : List ℕ) × (t.reply ≡ Gives other)
  pub dopens_present : (s t : Turn) (r : Record) (plain ad sealed : List ℕ) → AreAmong ts s t
      → s.line ≡ Dseal plain ad → s.reply ≡ Gives sealed → primary_of s.before ≡ Some r
      → t.line ≡ Dopen sealed ad → HasKey r t.before
      → (other : List ℕ) × (t.reply ≡ Gives other)
  pub verifies : (s t : Turn) (r : Record) (tag body : List ℕ) → AreAmong ts s t
      → s.line ≡ Tag body → s.reply ≡ Gives tag → primary_of s.before ≡ Some r
      → t.line ≡ Verify tag body → HasKey r t.before → t.reply ≡ Done

-- what the lines that were answered asked, in a session that saves its keyset so
abbrev pub resolved_lines : Table → Form → StoreAnswers → Keys → (answered : List (List ℕ)) → (random : List ℕ)
    → List Line
resolved_lines table form answers keys answered random =
    saving_lines table form answers keys (map line_of answered) random

-- their turns
abbrev pub turns_of : Table → Form → StoreAnswers → Keys → (answered : List (List ℕ))
    → (random : List ℕ) → List Turn
turns_of table form answers keys answered random =
    turns table keys (resolved_lines table form answers keys answered random) random

-- Files were asked for, one after another, of a store with the files that are told, and it answered so.
pub record StoreGave (answers : StoreAnswers) (files : Files) : Type 0 where
  pub asked : List FileAsked
  pub after : Option Files
  pub asks : AsksOver asked (Some files) after
  pub agrees : Agrees answers [] asked

-- a file of this name has the keyset, written in this form
pub record IsSavedAs (form : Form) (keys : Keys) (store : StoreState) (name : List ℕ) : Type 0 where
  pub iv : List ℕ
  pub bytes : List ℕ
  pub written : form.written keys iv ≡ Ok bytes
  pub has : Has store name bytes

-- The first lines of the input were answered, and all of them where the session was done; what was
-- written are the replies of their turns, over the keyset of the file and one after another, and at a
-- write fault the first bytes of these; and over the program's table the turns are readable. Lines that save the
-- keyset, in this form, are answered as the store did, of which the lines asked for the files; and where one was
-- answered ok, the keyset before it is in a file of that name after the run. At a write fault the last lines may
-- not have asked for a file.
pub record HasReplies (table : Table) (form : Form) (keys : Keys) (told : Told) (old : World) (s : Status)
    (new : World) : Type 0 where
  pub answers : StoreAnswers
  pub store : StoreGave answers told.files
  pub answered : List (List ℕ)
  pub later : List (List ℕ)
  pub cut : lines_of told.input ≡ answered ++ later
  pub all : s ≡ status.Done → later ≡ []
  pub whole : length (turns_of table form answers keys answered told.random) ≡ length answered
  pub unasked : List FileAsked
  pub files : flat_map files_of (resolved_lines table form answers keys answered told.random)
      ≡ store.asked ++ unasked
  pub none_unasked : s ≢ status.WriteFault → unasked ≡ []
  pub saved : s ≢ status.WriteFault → (i : ℕ) (t : Turn) (name : List ℕ) (outcome : Outcome)
      → slice_get (turns_of table form answers keys answered told.random) i ≡ Some t
      → t.line ≡ Save name outcome → t.reply ≡ Done → IsSavedAs form t.before new.store name
  pub took : s ≢ status.WriteFault →
      Took old.sink new.sink (replies_text (turns_of table form answers keys answered told.random))
  pub front : s ≡ status.WriteFault →
      TookPrefix old.sink new.sink (replies_text (turns_of table form answers keys answered told.random))
  pub readable : table ≡ standard_table → AreReadable (turns_of table form answers keys answered told.random)

-- a run of `session` over objects that tell, whatever its status, over a file that is a keyset, or that gives one
-- under the keyset in the file of the lock
pub record IsReadable (table : Table) (words : List (List ℕ)) (old : World) (s : Status)
    (new : World) : Type 0 where
  pub replies : (told : Told) (lock : Lock) (name : List ℕ) (form : Format) (out : KeysetFile)
      (saved_only : Bool) (keys : Keys) → Tells old told
      → words_of words ≡ Ok (session lock name form out saved_only)
      → (gives : FileGives table lock name form told keys)
      → HasReplies table (with_saved_only saved_only (form_under table gives.master out.form)) keys told old s new

-- However a run of these words ends, also where memory was wanting before it, it is readable.
abbrev pub SessionsAreReadable : Type 0
SessionsAreReadable = (table : Table) (words : List (List ℕ)) (old : World) (s : Status)
    (new : World) → Ends (allocates (plan_of table words)) old s new
    → IsReadable table words old s new

-- Whatever a run answers as the stated answer says, is readable, unless the store failed where a line saved the
-- keyset.
abbrev pub AnswersAreReadable : Type 0
AnswersAreReadable = (table : Table) (words : List (List ℕ)) (old : World) (s : Status)
    (new : World) → IsStated s → (Rose old.store.faults new.store.faults → ⊥)
    → Answers (plan_of table words) old s new
    → IsReadable table words old s new
