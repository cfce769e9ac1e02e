-- What a run shows of a keyset that it puts under a master.
--
--   ShowsInfoAlone    a text is made of sealed bytes, and of the info of a keyset without its keys
--   PutsSealed        a run puts out one such text, and nothing else
--   LockedRunsPut     so does each run that puts a keyset under a master
--   LockedLinesSave   so does each line of a session that saves the keyset
--   LockedSessionsSave   and each session at its end; its output are the replies
--   SealedAlike       texts of two keysets that differ in keys alone differ in the sealed bytes alone
use Rattle.std.specs.Prelude.{◌≡◌, ℕ, Bool, List, [], length, Option, Some, None}
use Rattle.std.specs.FinMap as map
use Rattle.std.specs.List.{Contains}
use Rattle.keyset_model.specs.Keyset.{Keys}
use Rattle.keyset_model.specs.Writing.{binary_of}
use Rattle.managers.specs.Table.{Table}
use Rattle.seal_wrap.specs.Info.{info_of, without_keys}
use Rattle.seal_wrap.specs.Wrapped.{Wrapped, wrap_of, wrapped_text}
use Rattle.tink_spec.specs.Files.{Files}
use Rattle.tinkey_session.specs.Laws.{IsEdited}
use Rattle.tinkey_session.specs.Saving.{FileAsked, StoreAnswers, files_after}
use Rattle.wrapped_prims.specs.Answers.{Sealed, seal_answer}
use Rattle.tinkey_plans.specs.declared.status.Status.TheVariants as status
use Rattle.tinkey_plans.specs.Commands.{command_plan}
use Rattle.tinkey_plans.specs.Plan.{Answer, Told, answer}
use Rattle.tinkey_plans.specs.Session.{saving_session}
use Rattle.tinkey_plans.specs.Wrapping.{is_json}
use Rattle.tinkey_words.specs.declared.words.rows.Format.{Format}
use Rattle.tinkey_words.specs.Words.{Asked, Master, KeysetFile, as_taken, convert_keyset, create_keyset, edit_keyset, session, under}
use Rattle.tinkey_readable.specs.Lying.{LiesBehind, OpensMaster}
use Rattle.tinkey_readable.specs.Runs.{IsCreated, IsEdit, told_session}

-- The text is made of two things alone: bytes that this master sealed, of the binary form of the keyset; and
-- the info of the keyset without its key messages and key material types.
pub record ShowsInfoAlone (table : Table) (over keys : Keys) (form : Format) (text : List ℕ) : Type 0
  where
    pub random : List ℕ
    pub sealed : Sealed
    pub seals : seal_answer over table (binary_of keys) [] random ≡ Some sealed
    pub is : text ≡ wrapped_text (is_json form) sealed.bytes (info_of (without_keys keys))

-- The text is a new file of this name, and nothing else is new, neither a file nor a byte of output; or where
-- none is named, it is the output.
abbrev pub PutsAlone : Option (List ℕ) → Told → (text : List ℕ) → Answer → Type 0
PutsAlone None told text a = (a.output ≡ text) × (a.files ≡ told.files)
PutsAlone (Some name) told text a = (a.output ≡ []) × (a.files ≡ map.insert told.files name text)

-- What a run puts out is such a text alone, of this keyset under the master that lies in the file of the lock.
pub record PutsSealed (table : Table) (lock : Master) (out : KeysetFile) (told : Told) (keys : Keys)
    (a : Answer) : Type 0 where
  pub over : Keys
  pub opens : OpensMaster table lock told over
  pub text : List ℕ
  pub shows : ShowsInfoAlone table over keys out.form text
  pub alone : PutsAlone out.file told text a

-- the master that a command puts a keyset under, and the place that it puts it
pub record SealedPut : Type 0 where
  pub lock : Master
  pub out : KeysetFile

-- the commands that put a keyset under a master, but for the session
abbrev pub sealed_put : Asked → Option SealedPut
sealed_put (create_keyset (Some lock) template out) = Some (record { lock = lock; out = out })
sealed_put (edit_keyset (Some lock) edit in' out) = Some (record { lock = lock; out = out })
sealed_put (convert_keyset (Some lock) as_taken in' out) = Some (record { lock = lock; out = out })
sealed_put (convert_keyset lock (under new) in' out) = Some (record { lock = new; out = out })
sealed_put _ = None

-- the keyset that such a run makes: the first one of a template, or what the command does to the keyset that
-- lies behind its lock
abbrev pub Makes : Table → Told → Keys → Asked → Type 0
Makes table told keys (create_keyset lock template out) = IsCreated template told.random keys
Makes table told keys (edit_keyset lock edit in' out) = (old : Keys)
    × LiesBehind table lock in' told old × IsEdit edit told.random old keys
Makes table told keys (convert_keyset lock new in' out) = LiesBehind table lock in' told keys
Makes table told keys _ = ⊥

-- A run that puts a keyset under a master, and is Done, puts out the text of the keyset that it makes, and
-- nothing else. One that is refused puts out nothing, as each command that is whole (commands_are_whole).
abbrev pub LockedRunsPut : Type 0
LockedRunsPut = (table : Table) (asked : Asked) (told : Told) (put : SealedPut)
    → sealed_put asked ≡ Some put
    → (answer (command_plan table asked) told).status ≡ status.Done
    → (keys : Keys) × Makes table told keys asked
    × PutsSealed table put.lock put.out told keys (answer (command_plan table asked) told)

-- Each file that the lines of a session under a master ask for, whatever it is given and however far it comes,
-- has such a text, of the keyset after some edits.
abbrev pub LockedLinesSave : Type 0
LockedLinesSave = (table : Table) (over keys : Keys) (form : Format) (saved_only : Bool) (answers : StoreAnswers)
    (taken random : List ℕ) (ended : Bool) (a : FileAsked)
    → Contains (saving_session table (Some over) form saved_only keys answers taken random ended).asked a
    → (saved : Keys) × IsEdited keys saved × ShowsInfoAlone table over saved form a.bytes

-- these files have such a text of the last keyset more, where a file is named for it
abbrev pub SavesLast : Table → (over last : Keys) → Option (List ℕ) → Format → (files new : Files) → Type 0
SavesLast table over last None form files new = new ≡ files
SavesLast table over last (Some file) form files new = (text : List ℕ)
    × ShowsInfoAlone table over last form text × (new ≡ map.insert files file text)

-- What is new after a session under a master that is Done are the files that its lines asked for, and that of the
-- last keyset; its output are the replies to its lines.
abbrev pub LockedSessionsSave : Type 0
LockedSessionsSave = (table : Table) (lock : Master) (name : List ℕ) (form : Format) (out : KeysetFile)
    (saved_only : Bool) (told : Told)
    → let a = answer (command_plan table (session (Some lock) name form out saved_only)) told in
    a.status ≡ status.Done
    → (over old : Keys) × OpensMaster table lock told over
    × LiesBehind table (Some lock) (record { file = Some name; form = form }) told old
    × (let x = told_session table (Some over) out.form saved_only old told in (a.output ≡ x.output)
    × SavesLast table over x.keys out.file out.form (files_after told.files x.asked) a.files)

-- Two keysets that differ in key messages and key material types alone, and whose binary forms have one length,
-- have texts under one master, of the same random bytes, that differ in the sealed bytes alone; and these have
-- one length.
abbrev pub SealedAlike : Type 0
SealedAlike = (table : Table) (over one two : Keys) (json : Bool) (random : List ℕ) (wrapped : Wrapped)
    → without_keys one ≡ without_keys two → length (binary_of one) ≡ length (binary_of two)
    → wrap_of one over table random json ≡ Some wrapped
    → (other : Wrapped) × (wrap_of two over table random json ≡ Some other)
    × (sealed resealed : List ℕ) × (length sealed ≡ length resealed)
    × (wrapped.text ≡ wrapped_text json sealed (info_of (without_keys one)))
    × (other.text ≡ wrapped_text json resealed (info_of (without_keys one)))
