-- Calls of the library, by handles that are made of keysets: what they seal and tag, open and verify. A handle
-- is a ready keyset, and what a call says is what the clauses of ReadyKeyset say.
--
--   asked_by, input_of   the work that a call asks for, and what it is done on
--   IsMadeIn, IsHandle   a handle of a text in a form, and of a keyset, in clear or encrypted
--   WasCalled            a call was done, by a handle of a keyset with this primary record
--   Says                 what a call says if this output is the answer
--   CallsGive            each call for work on an input says so
--   IsNotMadeIn          why no handle was made of a text
use Rattle.std.specs.Prelude.{◌≡◌, ℕ, ◌<◌, List, length, take, Some, Result, Ok, Err}
use Rattle.key_msgs.specs.declared.primitive.Primitive.{Primitive}
use Rattle.keyset_json.specs.Reading.{reads_json}
use Rattle.keyset_model.specs.Keyset.{Keys, primary_of}
use Rattle.keyset_model.specs.Reading.{reads_binary}
use Rattle.keyset_model.specs.declared.record.Record.{Record}
use Rattle.ready_keysets.specs.Texts.{IsNoKeyset, IsOf}
use Rattle.ready_keysets.specs.Unwrapping.{Lack, keyset_inside}
use Rattle.ready_keysets.specs.Working.{IsOutcome, IsTooLong}
use Rattle.ready_keysets.specs.declared.ready.ReadyKeyset.{ReadyKeyset}
use Rattle.ready_keysets.specs.declared.refusal.Refusal.{Refusal}
use Rattle.ready_keysets.specs.declared.refusal.Refusal.TheVariants as refusals
use Rattle.ready_keysets.specs.declared.work.Work.{Work}
use Rattle.ready_keysets.specs.declared.work.Work.TheVariants as calls
use Rattle.tinkey_plans.specs.Wrapping.{is_json}
use Rattle.tinkey_readable.specs.LockedRuns.{GivesUnder}
use Rattle.tinkey_readable.specs.Runs.{Written, keyset_of}
use Rattle.tinkey_words.specs.declared.words.rows.Format.{Format}
use Rattle.tinkey_words.specs.declared.words.rows.Format.TheVariants as formats
use Rattle.tinkey_words.specs.Words.{AskedWork, primitive_for, to_derive, to_dopen, to_dseal, to_open, to_seal, to_tag, to_verify}

-- the work of keys that a call asks for, as a command does
abbrev pub asked_by : Work → AskedWork
asked_by (calls.Seal plain ad random) = to_seal ad.now
asked_by (calls.Open sealed ad) = to_open ad.now
asked_by (calls.Dseal plain ad) = to_dseal ad.now
asked_by (calls.Dopen sealed ad) = to_dopen ad.now
asked_by (calls.Tag body) = to_tag
asked_by (calls.Verify tag body) = to_verify tag.now
asked_by (calls.Derive input size) = to_derive size

-- what it is done on, as on the input of the command
abbrev pub input_of : Work → List ℕ
input_of (calls.Seal plain ad random) = plain.now
input_of (calls.Open sealed ad) = sealed.now
input_of (calls.Dseal plain ad) = plain.now
input_of (calls.Dopen sealed ad) = sealed.now
input_of (calls.Tag body) = body.now
input_of (calls.Verify tag body) = body.now
input_of (calls.Derive input size) = input.now

-- ---- handles

-- a handle for this primitive was made of this text, in this form
abbrev pub IsMadeIn : Format → Primitive → (text : List ℕ) → ReadyKeyset → Type 0
IsMadeIn formats.Json primitive text ready = IsOf primitive (reads_json text) ready
IsMadeIn formats.Binary primitive text ready = IsOf primitive (reads_binary text) ready

-- what an encrypted text and its master's text give
abbrev pub inside_of : (master text : Written) → Result Keys Lack
inside_of master text =
    keyset_inside text.bytes (is_json text.form) master.bytes (is_json master.form)

-- A handle for this primitive was made of this keyset: of the text that it is, in either form; or of an
-- encrypted text and the text of a master, under which it gives the keyset.
pub data IsHandle (primitive : Primitive) (keys : Keys) (ready : ReadyKeyset) : Type 0 where
  of_text : (written : Written) → keyset_of written ≡ Some keys →
      IsMadeIn written.form primitive written.bytes ready → IsHandle primitive keys ready
  of_wrapped : (master text : Written) (over : Keys) → keyset_of master ≡ Some over →
      GivesUnder over text keys → IsOf primitive (inside_of master text) ready →
      IsHandle primitive keys ready

-- why none was made of this text, in this form
abbrev pub IsNotMadeIn : Format → Primitive → (text : List ℕ) → Refusal → Type 0
IsNotMadeIn formats.Json primitive text refusal =
    IsNoKeyset primitive (length text) (reads_json text) refusal
IsNotMadeIn formats.Binary primitive text refusal =
    IsNoKeyset primitive (length text) (reads_binary text) refusal

-- ---- calls

-- A call for this work on this input was done by a handle of a keyset whose primary record this is: this output
-- stands at the front of the caller's bytes.
pub record WasCalled (work : AskedWork) (input output : List ℕ) (r : Record) : Type 0 where
  pub keys : Keys
  pub primary : primary_of keys ≡ Some r
  pub ready : ReadyKeyset
  pub handle : IsHandle (primitive_for work) keys ready
  pub call : Work
  pub asks : asked_by call ≡ work
  pub takes : input_of call ≡ input
  pub old : List ℕ
  pub new : List ℕ
  pub size : ℕ
  pub outcome : IsOutcome ready.keys.primitive ready.keyset call old new (Ok size)
  pub gave : take size new ≡ output

-- What a call says whose answer is this output: it stands at the front of the caller's bytes; or else an input
-- is longer than a call takes, the caller's bytes are fewer than the output, or memory was refused.
abbrev pub Says : Work → (output old new : List ℕ) → Result ℕ Refusal → Type 0
Says call output old new (Ok size) = take size new ≡ output
Says call output old new (Err refusals.TooLong) = IsTooLong call
Says call output old new (Err refusals.NoRoom) = length old < length output
Says call output old new (Err refusals.NoMemory) = Unit {0}
Says call output old new (Err _) = ⊥

-- each call of this handle for this work on this input says so
abbrev pub CallsGive : AskedWork → ReadyKeyset → (input output : List ℕ) → Type 0
CallsGive work ready input output = (call : Work) (old new : List ℕ) (result : Result ℕ Refusal)
    → asked_by call ≡ work → input_of call ≡ input
    → IsOutcome ready.keys.primitive ready.keyset call old new result
    → Says call output old new result

-- so it is by each handle of a keyset that has the record's key as it is said here
abbrev pub IsCalled : (While : Record → Keys → Type 0) → AskedWork → (input output : List ℕ) → Record
    → Type 0
IsCalled While work input output r = (keys : Keys) (ready : ReadyKeyset)
    → IsHandle (primitive_for work) keys ready → While r keys → CallsGive work ready input output
