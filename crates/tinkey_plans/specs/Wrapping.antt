-- Keysets sealed under a master, as steps of plans. What a wrapped text is, and what one gives, is said apart from
-- plans, in Wrapped and Unwrapped of seal_wrap.
use Rattle.std.specs.Prelude.{ℕ, Bool, true, false, List, Option, Result, Ok, Err, if◌then◌else◌}
use Rattle.std.specs.Option.{option_map}
use Rattle.std.specs.Result.{is_ok}
use Rattle.key_msgs.specs.declared.primitive.Primitive.TheVariants.{Aead}
use Rattle.keyset_json.specs.Reading.{reads_json}
use Rattle.keyset_model.specs.Keyset.{Keys}
use Rattle.keyset_model.specs.Reading.{reads_binary}
use Rattle.managers.specs.Table.{Table}
use Rattle.seal_wrap.specs.Unwrapped.{Refusal, OuterWire, NotJson, Member, NotOpened, InnerWire, Fault, sealed_in, unwrap_of}
use Rattle.seal_wrap.specs.Wrapped.{Wrapped, wrap_of}
use Rattle.seal_wrap.specs.declared.encrypted.unwrapping.UnwrapFault.{UnwrapFault}
use Rattle.seal_wrap.specs.declared.encrypted.unwrapping.UnwrapFault.TheVariants as faults
use Rattle.tinkey_cmds.specs.Draws.{Draw, Drawn}
use Rattle.tinkey_plans.specs.Sealers.{keyset_sealer_of}
use Rattle.tinkey_plans.specs.Origins.{begins_of}
use Rattle.tinkey_plans.specs.declared.origin.Begins.{Begins}
use Rattle.tinkey_plans.specs.declared.origin.Begins.TheVariants as begun
use Rattle.tinkey_plans.specs.declared.origin.Origin.{Origin}
use Rattle.tinkey_plans.specs.declared.origin.Origin.TheVariants as origins
use Rattle.tinkey_plans.specs.declared.sealer.Sealer.{Sealer}
use Rattle.tinkey_plans.specs.declared.sealer.Unopened.TheVariants as unopened
use Rattle.tinkey_plans.specs.declared.status.Status.{Status}
use Rattle.tinkey_plans.specs.declared.status.Status.TheVariants as status
use Rattle.tinkey_plans.specs.Plan.{Plan, ends, allocates, draws, sealings}
use Rattle.tinkey_plans.specs.Steps.{loads_keyset, takes_bytes, with_made, within_limit}
use Rattle.tinkey_plans.specs.Handles.{handles}
use Rattle.tinkey_words.specs.declared.words.rows.Format.{Format}
use Rattle.tinkey_words.specs.declared.words.rows.Format.TheVariants as formats

-- a wrapped text of more bytes is too long
abbrev pub wrapped_limit : ℕ
wrapped_limit = 4194304

-- the form is JSON, and not the binary one
abbrev pub is_json : Format → Bool
is_json formats.Json = true
is_json formats.Binary = false

-- the keyset in the file of this name, which this option gives, and each ENABLED record of which can serve as
-- an AEAD
abbrev pub loads_master : Origin → Table → (name : List ℕ) → Format → (Keys → Plan) → Plan
loads_master from table name form next =
    loads_keyset from name form (λ master. handles from table Aead master (λ fit. next master))

-- ---- wrapping

-- a text, and the random bytes that it leaves
abbrev pub as_wrapping : Wrapped → Drawn (List ℕ)
as_wrapping wrapped = record { answer = Ok wrapped.text; left = wrapped.left }

-- the text of a keyset under its master, in this form, of random bytes
abbrev pub wraps : Keys → (master : Keys) → Table → Format → Draw (List ℕ)
wraps keys master table form random =
    option_map as_wrapping (wrap_of keys master table random (is_json form))

-- that text goes on, unless it is longer than what is read as one
abbrev pub makes_wrapped : Keys → (master : Keys) → Table → Format → (List ℕ → Plan) → Plan
makes_wrapped keys master table form next =
    allocates (draws sealings (wraps keys master table form)
    (λ made. allocates (with_made made (within_limit wrapped_limit next))))

-- ---- unwrapping

-- the wrapped text in the file that --in gives, or where none is named, the whole input
abbrev pub takes_wrapped : (file : Option (List ℕ)) → (List ℕ → Plan) → Plan
takes_wrapped file next = takes_bytes origins.In wrapped_limit file next

-- the bytes are a keyset in clear, in this form
abbrev pub is_keyset : Format → List ℕ → Bool
is_keyset formats.Json bytes = is_ok (reads_json bytes)
is_keyset formats.Binary bytes = is_ok (reads_binary bytes)

-- what is told of the key that sealed a wrapped text, by its encrypted bytes
abbrev pub keyset_sealer : Format → (master : Keys) → (text : List ℕ) → Sealer
keyset_sealer form master text = keyset_sealer_of master (sealed_in (is_json form) text)

-- the status of a text that doesn't open, and is a keyset in clear or isn't: then this is told of the key that
-- sealed it
abbrev pub unopened_status : Origin → (clear : Bool) → Sealer → Status
unopened_status from clear sealer =
    if clear then status.KeysetInClear from else status.OpenFailed unopened.Keyset sealer

-- it is the answer
abbrev pub ends_unopened : Origin → (clear : Bool) → Sealer → Plan
ends_unopened from clear sealer =
    if clear then ends (status.KeysetInClear from) tt else ends (status.OpenFailed unopened.Keyset sealer) tt

-- The keyset goes on, or why the text gives none is the answer: of a text that begins so, from this place. A
-- place in the keyset inside is told as one in the text around it is, but how the text begins says nothing of it.
abbrev pub with_unwrapped : Origin → Begins → (clear : Bool) → Sealer → Result Keys Refusal
    → (Keys → Plan) → Plan
with_unwrapped from begins clear sealer (Err (OuterWire at)) next =
    ends (status.BadProto at from begins) tt
with_unwrapped from begins clear sealer (Err NotJson) next = ends (status.NotJson from begins) tt
with_unwrapped from begins clear sealer (Err Member) next = ends (status.WrappedMember from) tt
with_unwrapped from begins clear sealer (Err NotOpened) next = ends_unopened from clear sealer
with_unwrapped from begins clear sealer (Err (InnerWire at)) next =
    ends (status.BadProto at from begun.Otherwise) tt
with_unwrapped from begins clear sealer (Err (Fault fault)) next = ends (status.Keyset fault from) tt
with_unwrapped from begins clear sealer (Ok keys) next = next keys

-- the same statuses, of the code's faults
abbrev pub unwrap_refusal : Origin → Begins → (clear : Bool) → Sealer → UnwrapFault → Status
unwrap_refusal from begins clear sealer (faults.OuterWire at) = status.BadProto at from begins
unwrap_refusal from begins clear sealer faults.NotJson = status.NotJson from begins
unwrap_refusal from begins clear sealer faults.Member = status.WrappedMember from
unwrap_refusal from begins clear sealer faults.NotOpened = unopened_status from clear sealer
unwrap_refusal from begins clear sealer (faults.InnerWire at) = status.BadProto at from begun.Otherwise
unwrap_refusal from begins clear sealer (faults.Fault fault) = status.Keyset fault from
unwrap_refusal from begins clear sealer faults.NoMemory = status.NoMemory

-- the keyset that a wrapped text from this place gives under its master
abbrev pub unwraps : Origin → (master : Keys) → Table → Format → (text : List ℕ) → (Keys → Plan) → Plan
unwraps from master table form text next =
    allocates (with_unwrapped from (begins_of text) (is_keyset form text) (keyset_sealer form master text)
    (unwrap_of master table text (is_json form)) next)
