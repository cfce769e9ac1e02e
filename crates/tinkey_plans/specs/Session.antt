-- The session of a command, as steps of plans. What its lines are answered is said apart from
-- plans, in Serving and Talking of tinkey_session.
use Rattle.std.specs.Prelude.{ℕ, List, length, nat_le, Bool, false, Option, Some, None, Result, Ok, Err, if◌then◌else◌}
use Rattle.key_msgs.specs.declared.key.KeyKind.{KeyKind}
use Rattle.key_msgs.specs.declared.primitive.Primitive.TheVariants.{Aead}
use Rattle.keyset_model.specs.Writing.{binary_of}
use Rattle.keyset_model.specs.Keyset.{Keys}
use Rattle.managers.specs.Table.{Table}
use Rattle.managers.specs.Uses.{iv_size}
use Rattle.tinkey_session.specs.Saving.{Form, StoreAnswers, with_saved_only}
use Rattle.tinkey_session.specs.Talking.{Exchange, saving, talk_by}
use Rattle.tinkey_session.specs.declared.reply.LineRefusal.{LineRefusal}
use Rattle.tinkey_session.specs.declared.reply.LineRefusal.TheVariants.{KeysetTooLong}
use Rattle.wrapped_prims.specs.Answers.{primary_key}
use Rattle.seal_wrap.specs.Wrapped.{Wrapped, wrap_of}
use Rattle.tinkey_plans.specs.declared.origin.Origin.TheVariants as origins
use Rattle.tinkey_plans.specs.declared.status.Status.TheVariants as status
use Rattle.tinkey_words.specs.declared.words.rows.Format.{Format}
use Rattle.tinkey_plans.specs.Plan.{Plan, ends, creates, looks, exchanges}
use Rattle.tinkey_plans.specs.Locks.{opens_lock, takes_under, writes_under}
use Rattle.tinkey_plans.specs.Steps.{keyset_limit, written_in}
use Rattle.tinkey_plans.specs.Wrapping.{is_json, wrapped_limit}
use Rattle.tinkey_words.specs.Words.{Lock, KeysetFile}

-- the keyset becomes a new file of this name, in this form, in clear or under a master; where none is
-- named, it goes nowhere
abbrev pub saves_as : Table → (master : Option Keys) → Option (List ℕ) → Format → Keys → Plan
saves_as table master None form keys = ends status.Done tt
saves_as table master (Some name) form keys =
    writes_under table master form keys (λ output. creates name output status.OutExists tt)

-- the keyset becomes the new file of this place, or where it names none, it goes nowhere
abbrev pub saves : Table → (master : Option Keys) → KeysetFile → Keys → Plan
saves table master place keys = saves_as table master place.file place.form keys

-- the name of a new file is free, where one is named
abbrev pub finds_free : (file : Option (List ℕ)) → (Unit {0} → Plan) → Plan
finds_free None next = next tt
finds_free (Some name) next = looks name status.OutExists tt (next tt)

-- bytes within a limit of keysets are a file
abbrev pub file_within : (limit : ℕ) → List ℕ → Result (List ℕ) LineRefusal
file_within limit bytes = if nat_le (length bytes) limit then Ok bytes else Err KeysetTooLong

-- so is a text that was wrapped
abbrev pub wrapped_within : Option Wrapped → Result (List ℕ) LineRefusal
wrapped_within None = Err KeysetTooLong
wrapped_within (Some wrapped) = file_within wrapped_limit wrapped.text

-- how many bytes the IV has under a primary key
abbrev pub iv_under : Option KeyKind → ℕ
iv_under None = 0
iv_under (Some key) = iv_size key

-- the binary form of a keyset is short enough to be read again
abbrev pub is_short : Keys → Bool
is_short keys = nat_le (length (binary_of keys)) keyset_limit

-- How a line writes the keyset that it saves, as `writes_under` does: in clear
abbrev pub form_clear : Format → Form
form_clear form = record {
  size = λ keys. 0;
  written = λ keys iv. file_within keyset_limit (written_in form keys);
  saved_only = false;
}

-- under a master
abbrev pub form_sealed : Table → (master : Keys) → Format → Form
form_sealed table master form = record {
  size = λ keys. if is_short keys then iv_under (primary_key master table Aead) else 0;
  written = λ keys iv. if is_short keys then wrapped_within (wrap_of keys master table iv (is_json form))
      else Err KeysetTooLong;
  saved_only = false;
}

-- or in either way
abbrev pub form_under : Table → (master : Option Keys) → Format → Form
form_under table None form = form_clear form
form_under table (Some master) form = form_sealed table master form

-- the session over a keyset, whose lines save it in this form, in clear or under a master; and seal and tag only
-- under a keyset that a file has, or always
abbrev pub saving_session : Table → (master : Option Keys) → Format → (saved_only : Bool) → Keys → StoreAnswers
    → Exchange
saving_session table master form saved_only keys answers =
    talk_by (saving table (with_saved_only saved_only (form_under table master form)) answers) keys

-- The lines of the input are answered over this keyset, and then the last one is saved. A line saves it in the form in
-- which the last one is saved. The name that it
-- is to have is looked up before a byte of the input is taken, so that no reply is given for a keyset that
-- has no place.
abbrev pub holds_session : Table → (master : Option Keys) → (out : KeysetFile) → (saved_only : Bool) → Keys → Plan
holds_session table master out saved_only keys =
    finds_free out.file (λ free.
    exchanges (saving_session table master out.form saved_only keys) (saves table master out))

-- session: over the keyset in the file of this name, in clear or under a lock, which the last keyset is put
-- under, too; whether lines seal and tag only under a keyset that a file has is said
abbrev pub session_plan : Table → Lock → List ℕ → Format → (out : KeysetFile) → (saved_only : Bool) → Plan
session_plan table lock name form out saved_only =
    opens_lock table lock (λ master.
    takes_under origins.Keyset table master (record { file = Some name; form = form })
    (holds_session table master out saved_only))
