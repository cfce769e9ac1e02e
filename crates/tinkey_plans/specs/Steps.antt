-- The steps that commands share. Each is a word with the rest of the plan behind it, which takes
-- what the step gives; the refusals of a step are its own.
use Rattle.std.specs.Prelude.{◌≡◌, ◌⊎◌, ℕ, Bool, true, false, ◌&&◌, List, length, nat_le, Option, Some, None, Result, Ok, Err, if◌then◌else◌}
use Rattle.key_msgs.specs.Templates.{Row, row_named, is_asymmetric}
use Rattle.keyset_model.specs.Keyset.{Keys}
use Rattle.keyset_model.specs.Reading.{Refusal, Wire, Fault, reads_binary}
use Rattle.keyset_model.specs.Writing.{binary_of}
use Rattle.keyset_json.specs.Reading.{reads_json}
use Rattle.keyset_json.specs.Reading as Json
use Rattle.keyset_json.specs.Writing.{json_of}
use Rattle.keyset_json.specs.declared.reading.JsonError.{JsonError}
use Rattle.keyset_json.specs.declared.reading.JsonError.TheVariants as json_errors
use Rattle.keyset_model.specs.declared.keyset.KeysetRefusal.{KeysetRefusal}
use Rattle.keyset_model.specs.declared.keyset.KeysetRefusal.TheVariants as keyset_faults
use Rattle.keyset_model.specs.declared.reading.ReadError.{ReadError}
use Rattle.keyset_model.specs.declared.reading.ReadError.TheVariants as errors
use Rattle.seal_wrap.specs.Unwrapped.{is_wrapped_binary, is_wrapped_json}
use Rattle.tinkey_cmds.specs.Draws.{Draw}
use Rattle.tinkey_cmds.specs.Edits.{Edit}
use Rattle.tinkey_cmds.specs.declared.command.EditError.{EditError}
use Rattle.tinkey_cmds.specs.declared.command.EditError.TheVariants as given
use Rattle.tinkey_cmds.specs.declared.command.EditRefusal.{EditRefusal}
use Rattle.tinkey_session.specs.Serving.{edit_named, no_template, or_refused}
use Rattle.tinkey_session.specs.declared.reply.Refusal.{Refusal as Why}
use Rattle.tinkey_session.specs.declared.reply.Refusal.TheVariants as refused
use Rattle.tinkey_plans.specs.Origins.{begins_of}
use Rattle.tinkey_plans.specs.declared.origin.Begins.{Begins}
use Rattle.tinkey_plans.specs.declared.origin.Origin.{Origin}
use Rattle.tinkey_plans.specs.declared.origin.Origin.TheVariants as origins
use Rattle.tinkey_plans.specs.declared.status.Status.{Status}
use Rattle.tinkey_plans.specs.declared.status.Status.TheVariants as status
use Rattle.tinkey_plans.specs.Ends.{World, Ends}
use Rattle.tinkey_plans.specs.Plan.{Plan, ends, writes, creates, allocates, loads, reads_all, draws, keysets}
use Rattle.tinkey_words.specs.declared.words.rows.Format.{Format}
use Rattle.tinkey_words.specs.declared.words.rows.Format.TheVariants as formats
use Rattle.tinkey_words.specs.Words.{KeysetFile, AskedEdit}

-- a keyset of more bytes is too long
abbrev pub keyset_limit : ℕ
keyset_limit = 1048576

-- a whole input of more bytes is too long
abbrev pub input_limit : ℕ
input_limit = 16777216

-- What is to be opened may have 1,024 bytes more, so that what was sealed of an input within its limit
-- is within this one.
abbrev pub sealed_limit : ℕ
sealed_limit = 16778240

-- The status of a keyset from this place that begins so, with a field that can't be cut or read, or with this
-- fault. One that is an encrypted keyset is told as that, too.
abbrev pub wire_status : Origin → Begins → (locked : Bool) → (at : ℕ) → Status
wire_status from begins locked at =
    if locked then status.ProtoLocked at from else status.BadProto at from begins

abbrev pub fault_status : Origin → (locked : Bool) → KeysetRefusal → Status
fault_status from locked fault =
    if locked then status.KeysetLocked fault from else status.Keyset fault from

-- they are the answer
abbrev pub ends_at : Origin → Begins → (locked : Bool) → (at : ℕ) → Plan
ends_at from begins locked at =
    if locked then ends (status.ProtoLocked at from) tt else ends (status.BadProto at from begins) tt

abbrev pub ends_faulty : Origin → (locked : Bool) → KeysetRefusal → Plan
ends_faulty from locked fault =
    if locked then ends (status.KeysetLocked fault from) tt else ends (status.Keyset fault from) tt

-- the status is this one, or memory was refused while it was settled
abbrev pub OrStarved : Status → Status → Type 0
OrStarved s result = (result ≡ s) ⊎ (result ≡ status.NoMemory)

-- ---- the binary form

-- The status of a keyset that can't be read, and of want of memory. Where all of its keys are read, it takes an
-- info to tell it from a keyset in clear.
abbrev pub refusal_of : Origin → Begins → (locked : (informed : Bool) → Bool) → ReadError → Status
refusal_of from begins locked (errors.Wire wire) = wire_status from begins (locked false) wire.at
refusal_of from begins locked (errors.Fault fault) = fault_status from (locked true) fault
refusal_of from begins locked errors.NoMemory = status.NoMemory

-- the keyset goes on, or its refusal is the answer
abbrev pub with_keyset : Origin → Begins → (locked : (informed : Bool) → Bool) → Result Keys Refusal
    → (Keys → Plan) → Plan
with_keyset from begins locked (Err (Wire at)) next = ends_at from begins (locked false) at
with_keyset from begins locked (Err (Fault fault)) next = ends_faulty from (locked true) fault
with_keyset from begins locked (Ok keys) next = next keys

-- ---- JSON

-- the keyset has no key
abbrev pub has_no_key : KeysetRefusal → Bool
has_no_key keyset_faults.Empty = true
has_no_key _ = false

-- the status of a keyset that can't be read as JSON, and of want of memory
abbrev pub json_refusal_of : Origin → Begins → (locked : Bool) → JsonError → Status
json_refusal_of from begins locked json_errors.NotJson = status.NotJson from begins
json_refusal_of from begins locked (json_errors.Shape path) = status.Shape path from
json_refusal_of from begins locked (json_errors.Fault fault) =
    fault_status from (locked && has_no_key fault) fault
json_refusal_of from begins locked json_errors.NoMemory = status.NoMemory

-- The keyset goes on, or what is wrong with its JSON is the answer. One that has no key because it is encrypted
-- is told as that.
abbrev pub with_json : Origin → Begins → (locked : Bool) → Result Keys Json.Refusal → (Keys → Plan) → Plan
with_json from begins locked (Err Json.NotJson) next = ends (status.NotJson from begins) tt
with_json from begins locked (Err (Json.Shape path)) next = ends (status.Shape path from) tt
with_json from begins locked (Err (Json.Fault fault)) next = ends_faulty from (locked && has_no_key fault) fault
with_json from begins locked (Ok keys) next = next keys

-- ---- a keyset in either form

-- the keyset of these bytes, which come from this place
abbrev pub keyset_in : Origin → Format → List ℕ → (Keys → Plan) → Plan
keyset_in from formats.Json bytes next =
    allocates (with_json from (begins_of bytes) (is_wrapped_json bytes) (reads_json bytes) next)
keyset_in from formats.Binary bytes next =
    allocates (with_keyset from (begins_of bytes) (is_wrapped_binary bytes) (reads_binary bytes) next)

-- the bytes of a keyset in the file of this name, which this option gives, within a limit
abbrev pub loads_bytes : Origin → (limit : ℕ) → (name : List ℕ) → (List ℕ → Plan) → Plan
loads_bytes from limit name next =
    loads name limit (status.InMissing from) (status.KeysetTooLong from) tt tt next

-- those that the whole input is
abbrev pub reads_bytes : (limit : ℕ) → (List ℕ → Plan) → Plan
reads_bytes limit next = reads_all limit (status.KeysetTooLong origins.StandardInput) tt next

-- those in a file, or where none is named, those that the whole input is
abbrev pub takes_bytes : Origin → (limit : ℕ) → (file : Option (List ℕ)) → (List ℕ → Plan) → Plan
takes_bytes from limit (Some name) next = loads_bytes from limit name next
takes_bytes from limit None next = reads_bytes limit next

-- where they come from: the file that this option gives, or standard input
abbrev pub origin_of : Origin → (file : Option (List ℕ)) → Origin
origin_of from (Some name) = from
origin_of from None = origins.StandardInput

-- the keyset in the file of this name, which this option gives
abbrev pub loads_keyset : Origin → List ℕ → Format → (Keys → Plan) → Plan
loads_keyset from name form next =
    loads_bytes from keyset_limit name (λ bytes. keyset_in from form bytes next)

-- the keyset that the whole input is
abbrev pub reads_keyset : Format → (Keys → Plan) → Plan
reads_keyset form next =
    reads_bytes keyset_limit (λ bytes. keyset_in origins.StandardInput form bytes next)

-- the keyset in the file that this option gives, or where none is named, the one that the whole input is
abbrev pub keyset_at : Origin → Option (List ℕ) → Format → (Keys → Plan) → Plan
keyset_at from file form next =
    takes_bytes from keyset_limit file (λ bytes. keyset_in (origin_of from file) form bytes next)

-- the keyset that lies at this place, which --in gives
abbrev pub takes_keyset : KeysetFile → (Keys → Plan) → Plan
takes_keyset place next = keyset_at origins.In place.file place.form next

-- the whole input, within this limit
abbrev pub reads_input : (limit : ℕ) → (List ℕ → Plan) → Plan
reads_input limit next = reads_all limit status.InputTooLong tt next

-- a value that is worked out in memory
abbrev pub works_out : {A : Type 0} → A → (A → Plan) → Plan
works_out value next = allocates (next value)

-- a refusal is the answer
abbrev pub refuses : Why → Plan
refuses why = ends (status.Refused why) tt

-- the row goes on, or the name is refused
abbrev pub with_row : Option Row → List ℕ → (Row → Plan) → Plan
with_row (Some row) name next = next row
with_row None name next = refuses (no_template (is_asymmetric name))

-- the template of this name
abbrev pub finds_template : List ℕ → (Row → Plan) → Plan
finds_template name next = with_row (row_named name) name next

-- the edit that is asked for, of the template of its name where it has one
abbrev pub finds_edit : AskedEdit → (Edit → Plan) → Plan
finds_edit asked next = or_refused refuses (edit_named asked) next

-- the status of an edit that gives no keyset
abbrev pub edit_refusal : EditError → Status
edit_refusal (given.Refused fault) = status.Refused (refused.Command fault)
edit_refusal given.EntropyFault = status.EntropyFault
edit_refusal given.NoMemory = status.NoMemory

-- what was made goes on, or the refusal of the edit is the answer
abbrev pub with_made : {A : Type 0} → Result A EditRefusal → (A → Plan) → Plan
with_made (Ok value) next = next value
with_made (Err fault) next = ends (status.Refused (refused.Command fault)) tt

-- the keyset that random bytes give
abbrev pub makes_keyset : Draw Keys → (Keys → Plan) → Plan
makes_keyset give next = draws keysets give (λ given. allocates (with_made given next))

-- these bytes become a new file of this name, or where there is none, go to the sink
abbrev pub puts : Option (List ℕ) → List ℕ → Plan
puts (Some name) output = creates name output status.OutExists tt
puts None output = writes output

-- a keyset written in this form
abbrev pub written_in : Format → Keys → List ℕ
written_in formats.Json keys = json_of keys
written_in formats.Binary keys = binary_of keys

-- bytes within a limit of keysets go on
abbrev pub within_limit : (limit : ℕ) → (List ℕ → Plan) → List ℕ → Plan
within_limit limit next bytes =
    if nat_le (length bytes) limit then next bytes else ends status.KeysetOutgrown tt

-- The written form of a keyset. One that is longer than what is read as a keyset is refused, before
-- anything is put out.
abbrev pub writes_keyset : Format → Keys → (List ℕ → Plan) → Plan
writes_keyset form keys next = works_out (written_in form keys) (within_limit keyset_limit next)

-- the keyset in its written form becomes a new file, or where none is named, goes to the sink
abbrev pub puts_keyset : KeysetFile → Keys → Plan
puts_keyset place keys = writes_keyset place.form keys (puts place.file)

-- the status of what was done, or why it wasn't
abbrev pub status_of : Result (Unit {0}) Status → Status
status_of (Ok done) = status.Done
status_of (Err s) = s

-- the plan was done to its end, or ended so
abbrev pub Finishes : Plan → World → Result (Unit {0}) Status → World → Type 0
Finishes p old result new = Ends p old (status_of result) new

-- What a step leaves to the rest of the plan, which takes values as they are seen. Where it gives a
-- value, each end of the rest is an end of the whole, for any rest; where it gives a status, the
-- whole has ended with that.
abbrev pub PassesAs : {A B : Type 0} → (A → B) → ((B → Plan) → Plan) →
    World → Result A Status → World → Type 0
PassesAs {B = B} view step old (Ok value) new = (next : B → Plan) (s : Status) (last : World) →
    Ends (next (view value)) new s last → Ends (step next) old s last
PassesAs {B = B} view step old (Err s) new = (next : B → Plan) → Ends (step next) old s new

-- the same of values that the rest takes as they are
abbrev pub Passes : {A : Type 0} → ((A → Plan) → Plan) → World → Result A Status → World → Type 0
Passes step old result new = PassesAs (λ value. value) step old result new
