-- Saving, in a session that has a store: the keyset is written first, which may draw random bytes, and then a new file
-- is asked for.
--
--   Form        how a session saves
--   FileAsked   a file that was asked for, and why it wasn't made, if it wasn't
--   StoreAnswers  what a store answers, by the files asked for before
--   outcome_of  what becomes of a keyset that is to be saved
--   makes       whether a line seals or tags
--   resolved    a line, with what becomes of the keyset if it saves it, or refused while the keyset isn't saved
--   by_files    what a store answers that holds these files, and never fails
--   Asks        what asking for files did to the store, one after another
--   Agrees      a store answers as this one did
use Rattle.std.specs.Prelude.{◌≡◌, ℕ, List, [], ◌∷◌, ◌++◌, take, nat_le, Bool, true, false, ◌&&◌, Option, Some, None, Result, Ok, Err, if◌then◌else◌}
use Rattle.std.specs.FinMap as map
use Rattle.std.specs.Option.{is_none}
use Rattle.std.specs.Result.{result_ok}
use Rattle.keyset_model.specs.Keyset.{Keys}
use Rattle.tink_spec.specs.Files.{Files, StoreState, HoldsSome, Added, MayAdd}
use Rattle.tink_spec.specs.Outside.{Rose, Stood}
use Rattle.tinkey_session.specs.Lines.{Line, Seal, Dseal, Reseal, Dreseal, Tag, Save, Outcome, Bad}
use Rattle.tinkey_session.specs.declared.reply.LineRefusal.{LineRefusal}
use Rattle.tinkey_session.specs.declared.reply.LineRefusal.TheVariants.{BadLine, NotSaved, OutputExists, StoreFault}

-- ---- writing

-- How a session saves. A keyset is written in a form, in clear or under a master: how many random bytes that draws, and
-- what it becomes with these, the bytes of a file or a refusal. They are an IV, of which 16 bytes are the most that
-- count. `saved_only` says whether lines that seal or tag are refused while the keyset isn't saved.
pub record Form : Type 0 where
  pub size : Keys → ℕ
  pub written : Keys → (iv : List ℕ) → Result (List ℕ) LineRefusal
  pub saved_only : Bool

-- how many random bytes a keyset draws
abbrev pub iv_drawn : Form → Keys → ℕ
iv_drawn form keys = if nat_le (form.size keys) 16 then form.size keys else 16

-- what it becomes with the first of these random bytes
abbrev pub written_by : Form → Keys → (random : List ℕ) → Result (List ℕ) LineRefusal
written_by form keys random = form.written keys (take (iv_drawn form keys) random)

-- a session that saves nothing refuses each save as a bad line
abbrev pub no_form : Form
no_form = record { size = λ keys. 0; written = λ keys iv. Err BadLine; saved_only = false }

-- the same form, in a session that seals and tags only what is saved, or always
abbrev pub with_saved_only : (saved_only : Bool) → Form → Form
with_saved_only saved_only form = record form { saved_only = saved_only }

-- ---- a save

-- a keyset that isn't written is refused for that, and any other for what the store answers
abbrev pub why_of : Option LineRefusal → Result (List ℕ) LineRefusal → Option LineRefusal
why_of why (Ok bytes) = why
why_of why (Err refusal) = Some refusal

-- what becomes of a keyset that is to be saved, if the store answers so
abbrev pub outcome_of : Form → Keys → (random : List ℕ) → (why : Option LineRefusal) → Outcome
outcome_of form keys random why = record {
  size = form.size keys;
  why = why_of why (written_by form keys random);
  file = result_ok (written_by form keys random);
}

-- a file of this name, with these bytes, was asked for; it was made, or this is why not
pub record FileAsked : Type 0 where
  pub name : List ℕ
  pub bytes : List ℕ
  pub why : Option LineRefusal

-- the file that is asked for, where there are bytes for one
abbrev pub file_asked : (name : List ℕ) → (why : Option LineRefusal) → Option (List ℕ) → List FileAsked
file_asked name why None = []
file_asked name why (Some bytes) = record { name = name; bytes = bytes; why = why } ∷ []

-- the file that a line asks for, if it does
abbrev pub files_of : Line → List FileAsked
files_of (Save name outcome) = file_asked name outcome.why outcome.file
files_of line = []

-- why a store makes no file of this name, after the files asked for before; none where it makes one
abbrev pub StoreAnswers : Type 0
StoreAnswers = (before : List FileAsked) → (name : List ℕ) → Option LineRefusal

-- What a line comes to be, after the files asked for before, over a keyset, with these random bytes. `unsaved` says that
-- an accepted edit stands that no file has.
abbrev pub Resolves : Type 0
Resolves = (before : List FileAsked) → (unsaved : Bool) → Keys → (random : List ℕ) → Line → Line

-- as it is read
abbrev pub as_read : Resolves
as_read before unsaved keys random line = line

-- whether a line makes what only keys can open or verify: it seals or tags
abbrev pub makes : Line → Bool
makes (Seal plain ad) = true
makes (Dseal plain ad) = true
makes (Reseal sealed ad) = true
makes (Dreseal sealed ad) = true
makes (Tag body) = true
makes line = false

-- if the keyset is to be saved first, a line that seals or tags is refused
abbrev pub unless_unsaved : (refuses : Bool) → Line → Line
unless_unsaved refuses line = if makes line && refuses then Bad NotSaved else line

-- a line with what becomes of the keyset, if it is to be saved
abbrev pub resolved : Form → StoreAnswers → Resolves
resolved form answers before unsaved keys random (Save name outcome) =
    Save name (outcome_of form keys random (answers before name))
resolved form answers before unsaved keys random line =
    unless_unsaved (form.saved_only && unsaved) line

-- the name under which a line saves the keyset, if it does
abbrev pub name_saved : Line → Option (List ℕ)
name_saved (Save name outcome) = Some name
name_saved line = None

-- ---- the store

-- the files after those that were made
abbrev pub files_after : Files → List FileAsked → Files
files_after files [] = files
files_after files (a ∷ later) =
    files_after (if is_none a.why then map.insert files a.name a.bytes else files) later

-- a name that is taken
abbrev pub why_taken : Option (List ℕ) → Option LineRefusal
why_taken None = None
why_taken (Some bytes) = Some OutputExists

-- a store that holds these files at first, and never fails
abbrev pub by_files : Files → StoreAnswers
by_files files before name = why_taken (map.get (files_after files before) name)

-- what asking for a file did to the store
pub data AsksFor (a : FileAsked) (old new : StoreState) : Type 0 where
  made : a.why ≡ None → Added old new a.name a.bytes → Stood old.faults new.faults
      → new.given ≡ old.given → AsksFor a old new
  there : a.why ≡ Some OutputExists → HoldsSome old a.name → old ≡ new → AsksFor a old new
  failed : a.why ≡ Some StoreFault → MayAdd old new a.name a.bytes → Rose old.faults new.faults
      → new.given ≡ old.given → AsksFor a old new

-- one after another; with none the store is as it was
abbrev pub Asks : List FileAsked → StoreState → StoreState → Type 0
Asks [] old new = old ≡ new
Asks (a ∷ later) old new = (mid : StoreState) × AsksFor a old mid × Asks later mid new

-- a store answers so, after the files asked for before
abbrev pub Agrees : StoreAnswers → (before asked : List FileAsked) → Type 0
Agrees answers before [] = Unit {0}
Agrees answers before (a ∷ later) =
    (answers before a.name ≡ a.why) × Agrees answers (before ++ a ∷ []) later
