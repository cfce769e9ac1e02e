-- What holds of a plan where it holds of its ends: the parts of which the commands' plans are made.
use Rattle.std.proofs.Common.{ℕ, Bool, true, false, List, [], Option, Some, None, Result, Ok, Err}
use Rattle.std.specs.Prelude.{if◌then◌else◌, ◌&&◌, length, nat_le}
use Rattle.key_msgs.specs.Templates.{Row, row_named, type_made}
use Rattle.keyset_json.specs.Reading as Json
use Rattle.keyset_json.specs.Reading.{reads_json}
use Rattle.keyset_model.specs.Keyset.{Keys}
use Rattle.keyset_model.specs.Reading.{Refusal, Wire, Fault, reads_binary}
use Rattle.managers.specs.Table.{Table}
use Rattle.tinkey_cmds.specs.Draws.{Draw}
use Rattle.tinkey_cmds.specs.Edits.{Edit}
use Rattle.tinkey_cmds.specs.declared.command.EditRefusal.{EditRefusal}
use Rattle.tinkey_session.specs.Serving.{edit_named, or_refused}
use Rattle.tinkey_session.specs.declared.reply.Refusal.{Refusal as Why}
use Rattle.wrapped_prims.specs.Answers.{open_answer, dopen_answer, verify_answer, derive_answer}
use Rattle.wrapped_prims.specs.Fitness.{Unfit, unfit}
use Rattle.tinkey_plans.specs.Origins.{begins_of}
use Rattle.tinkey_plans.specs.declared.origin.Begins.{Begins}
use Rattle.tinkey_plans.specs.declared.origin.Origin.{Origin}
use Rattle.tinkey_plans.specs.declared.origin.Origin.TheVariants as origins
use Rattle.tinkey_plans.specs.declared.status.Status.TheVariants as status
use Rattle.tinkey_words.specs.declared.words.rows.Format.{Format}
use Rattle.tinkey_words.specs.declared.words.rows.Format.TheVariants as formats
use Rattle.tinkey_plans.specs.Plan.{Plan, ends}
use Rattle.tinkey_plans.specs.Steps.{has_no_key, refuses, with_keyset, with_json, keyset_in, with_row, finds_edit, with_made, keyset_limit, loads_bytes, origin_of, reads_bytes, takes_bytes, writes_keyset, written_in}
use Rattle.tinkey_plans.specs.Handles.{unless_unfit}
use Rattle.tinkey_plans.specs.Using.{seals, with_opened, with_verified, with_derived, works}
use Rattle.tinkey_plans.specs.Locks.{keyset_under, limit_under, loads_locked, opens_lock, opens_master, opens_new_lock, put_origin, takes_locked, takes_under, writes_under}
use Rattle.tinkey_plans.specs.declared.sealer.Sealer.{Sealer}
use Rattle.tinkey_plans.specs.declared.sealer.Unopened.{Unopened}
use Rattle.tinkey_plans.specs.declared.sealer.Unopened.TheVariants as unopened
use Rattle.tinkey_plans.specs.Wrapping.{is_json, is_keyset, keyset_sealer, makes_wrapped, with_unwrapped, wrapped_limit, wraps}
use Rattle.seal_wrap.specs.Unwrapped as unwrapped
use Rattle.seal_wrap.specs.Unwrapped.{is_wrapped_binary, is_wrapped_json, unwrap_of}
use Rattle.tinkey_words.specs.Words.{AskedEdit, AskedEnvelope, AskedWork, Lock, Master, NewLock, KeysetFile, as_taken, in_clear, under, to_eseal, to_eopen, to_ereseal, to_seal, to_open, to_dseal, to_dopen, to_reseal, to_dreseal, to_tag, to_verify, to_derive}
use Rattle.tinkey_plans.specs.Plan.{IsStated, Made, Of, allocates, draws, envelopings, sealings}
use Rattle.tinkey_plans.specs.declared.status.Status.{Status}
use Rattle.key_msgs.specs.KeyTypes.{primitive_of_type}
use Rattle.key_msgs.specs.declared.primitive.Primitive.{Primitive}
use Rattle.key_msgs.specs.declared.primitive.Primitive.TheVariants.{Aead, Daead, Mac, Prf, Stream}
use Rattle.key_msgs.specs.declared.rule.Rule.{Rule}
use Rattle.managers.specs.Schemes.{Scheme}
use Rattle.envelopes.specs.Enveloped.{Parts, envelope, open_envelope_of, parts_in}
use Rattle.segment_stream.specs.Range.{stream_failed, past_end}
use Rattle.tinkey_plans.specs.KeyOf.{with_lines}
use Rattle.tinkey_plans.specs.Ranging.{with_range}
use Rattle.tinkey_plans.specs.FileRange.{Opened}
use Rattle.tinkey_plans.specs.Envelopes.{envelopes, finds_dek, seals_envelope, with_aead, with_enveloped, with_parts, with_scheme}
use Rattle.tinkey_plans.specs.declared.unfit.UnfitKey.{UnfitKey}

-- the rest of a plan is so, whatever it takes
abbrev pub AreAll : {A : Type 0} → (Plan → Type 0) → (A → Plan) → Type 0
AreAll {A} P next = (value : A) → P (next value)

-- every end is so, and a plan that allocates is so where all that follows is
pub record IsClosed (P : Plan → Type 0) : Type 0 where
  pub ended : (s : Status) (stated : IsStated s) → P (ends s stated)
  pub allocated : (next : Plan) → P next → P (allocates next)

-- a plan that draws this is so where all that follows is
abbrev pub IsClosedAt : (P : Plan → Type 0) (kind : Made) → Draw (Of kind) → Type 0
IsClosedAt P kind give =
    (next : Result (Of kind) EditRefusal → Plan) → AreAll P next → P (draws kind give next)

ended_each : (P : Plan → Type 0) → IsClosed P → (b : Bool) (s t : Status) (a : IsStated s) (other : IsStated t) → P (if b then ends s a else ends t other)
ended_each P c true s t a other = c.ended s a
ended_each P c false s t a other = c.ended t other

pub with_keyset_each : (P : Plan → Type 0) → IsClosed P → (from : Origin) (begins : Begins) (locked : Bool → Bool) (r : Result Keys Refusal) (next : Keys → Plan) → AreAll P next → P (with_keyset from begins locked r next)
with_keyset_each P c from begins locked (Err (Wire at)) next all = ended_each P c (locked false) (status.ProtoLocked at from) (status.BadProto at from begins) tt tt
with_keyset_each P c from begins locked (Err (Fault fault)) next all = ended_each P c (locked true) (status.KeysetLocked fault from) (status.Keyset fault from) tt tt
with_keyset_each P c from begins locked (Ok keys) next all = all keys

pub with_json_each : (P : Plan → Type 0) → IsClosed P → (from : Origin) (begins : Begins) (locked : Bool) (r : Result Keys Json.Refusal) (next : Keys → Plan) → AreAll P next → P (with_json from begins locked r next)
with_json_each P c from begins locked (Err Json.NotJson) next all = c.ended _ _
with_json_each P c from begins locked (Err (Json.Shape path)) next all = c.ended _ _
with_json_each P c from begins locked (Err (Json.Fault fault)) next all = ended_each P c (locked && has_no_key fault) (status.KeysetLocked fault from) (status.Keyset fault from) tt tt
with_json_each P c from begins locked (Ok keys) next all = all keys

pub keyset_each : (P : Plan → Type 0) → IsClosed P → (from : Origin) (form : Format) (bytes : List ℕ) (next : Keys → Plan) → AreAll P next → P (keyset_in from form bytes next)
keyset_each P c from formats.Json bytes next all = c.allocated _ (with_json_each P c from (begins_of bytes) (is_wrapped_json bytes) (reads_json bytes) next all)
keyset_each P c from formats.Binary bytes next all = c.allocated _ (with_keyset_each P c from (begins_of bytes) (is_wrapped_binary bytes) (reads_binary bytes) next all)

pub within_each : (P : Plan → Type 0) → IsClosed P → (b : Bool) (next : Plan) → P next → P (if b then next else ends status.KeysetOutgrown tt)
within_each P c true next is = is
within_each P c false next is = c.ended _ _

pub written_each : (P : Plan → Type 0) → IsClosed P → (form : Format) (keys : Keys) (next : List ℕ → Plan) → AreAll P next → P (writes_keyset form keys next)
written_each P c form keys next all = c.allocated _ (within_each P c (nat_le (length (written_in form keys)) keyset_limit) (next (written_in form keys)) (all (written_in form keys)))

pub row_each : (P : Plan → Type 0) → IsClosed P → (found : Option Row) (name : List ℕ) (next : Row → Plan) → AreAll P next → P (with_row found name next)
row_each P c (Some row) name next all = all row
row_each P c None name next all = c.ended _ _

pub edit_each : (P : Plan → Type 0) → IsClosed P → (asked : AskedEdit) (next : Edit → Plan) → AreAll P next → P (finds_edit asked next)
edit_each P c asked next all = by (edit_named asked)
  where
    by : (found : Result Edit Why) → P (or_refused refuses found next)
    by (Ok edit) = all edit
    by (Err why) = c.ended _ _

pub made_each : (P : Plan → Type 0) → IsClosed P → {A : Type 0} (given : Result A EditRefusal) (next : A → Plan) → AreAll P next → P (with_made given next)
made_each P c (Ok value) next all = all value
made_each P c (Err fault) next all = c.ended _ _

pub fit_each : (P : Plan → Type 0) → IsClosed P → (name : ℕ → UnfitKey) (found : Option (ℕ × Unfit)) (next : Plan) → P next → P (unless_unfit name found next)
fit_each P c name None next all = all
fit_each P c name (Some found) next all = c.ended _ _

pub opened_each : (P : Plan → Type 0) → IsClosed P → (what : Unopened) (sealer : Sealer) (found : Option (List ℕ)) (next : List ℕ → Plan) → AreAll P next → P (with_opened what sealer found next)
opened_each P c what sealer None next all = c.ended _ _
opened_each P c what sealer (Some plain) next all = all plain

pub verified_each : (P : Plan → Type 0) → IsClosed P → (b : Bool) (next : List ℕ → Plan) → AreAll P next → P (with_verified b next)
verified_each P c true next all = all []
verified_each P c false next all = c.ended _ _

pub wrapped_each : (P : Plan → Type 0) → IsClosed P → (keys master : Keys) (table : Table) (form : Format) → IsClosedAt P sealings (wraps keys master table form) → (next : List ℕ → Plan) → AreAll P next → P (makes_wrapped keys master table form next)
wrapped_each P c keys master table form drawn next all = c.allocated _ (drawn _ (λ made. c.allocated _ (made_each P c made _ (λ text. within_each P c (nat_le (length text) wrapped_limit) (next text) (all text)))))

pub unwrapped_each : (P : Plan → Type 0) → IsClosed P → (from : Origin) (begins : Begins) (clear : Bool) (sealer : Sealer) (r : Result Keys unwrapped.Refusal) (next : Keys → Plan) → AreAll P next → P (with_unwrapped from begins clear sealer r next)
unwrapped_each P c from begins clear sealer (Ok keys) next all = all keys
unwrapped_each P c from begins clear sealer (Err (unwrapped.OuterWire at)) next all = c.ended _ _
unwrapped_each P c from begins clear sealer (Err unwrapped.NotJson) next all = c.ended _ _
unwrapped_each P c from begins clear sealer (Err unwrapped.Member) next all = c.ended _ _
unwrapped_each P c from begins clear sealer (Err unwrapped.NotOpened) next all = ended_each P c clear (status.KeysetInClear from) (status.OpenFailed unopened.Keyset sealer) tt tt
unwrapped_each P c from begins clear sealer (Err (unwrapped.InnerWire at)) next all = c.ended _ _
unwrapped_each P c from begins clear sealer (Err (unwrapped.Fault fault)) next all = c.ended _ _

-- such a plan is so, too, that loads the bytes of a keyset, or reads them
pub record IsOpen (P : Plan → Type 0) : Type 0 where
  pub closed : IsClosed P
  pub loaded : (from : Origin) (limit : ℕ) (name : List ℕ) (next : List ℕ → Plan) → AreAll P next → P (loads_bytes from limit name next)
  pub read : (limit : ℕ) (next : List ℕ → Plan) → AreAll P next → P (reads_bytes limit next)

bytes_each : (P : Plan → Type 0) → IsOpen P → (from : Origin) (limit : ℕ) (file : Option (List ℕ)) (next : List ℕ → Plan) → AreAll P next → P (takes_bytes from limit file next)
bytes_each P o from limit (Some name) next all = o.loaded from limit name next all
bytes_each P o from limit None next all = o.read limit next all

keyset_under_each : (P : Plan → Type 0) → IsOpen P → (from : Origin) (table : Table) (master : Option Keys) (form : Format) (bytes : List ℕ) (next : Keys → Plan) → AreAll P next → P (keyset_under from table master form bytes next)
keyset_under_each P o from table None form bytes next all = keyset_each P o.closed from form bytes next all
keyset_under_each P o from table (Some master) form bytes next all = o.closed.allocated _ (unwrapped_each P o.closed from (begins_of bytes) (is_keyset form bytes) (keyset_sealer form master bytes) (unwrap_of master table bytes (is_json form)) next all)

master_each : (P : Plan → Type 0) → IsOpen P → (from : Origin) (table : Table) (master : Master) (next : Option Keys → Plan) → AreAll P next → P (opens_master from table master next)
master_each P o from table master next all = o.loaded from keyset_limit master.file _ (λ bytes. keyset_each P o.closed from master.form bytes _ (λ keys. o.closed.allocated _ (fit_each P o.closed _ (unfit keys Aead table) _ (all (Some keys)))))

pub lock_each : (P : Plan → Type 0) → IsOpen P → (table : Table) (lock : Lock) (next : Option Keys → Plan) → AreAll P next → P (opens_lock table lock next)
lock_each P o table None next all = all None
lock_each P o table (Some master) next all = master_each P o origins.Master table master next all

pub new_lock_each : (P : Plan → Type 0) → IsOpen P → (table : Table) (new : NewLock) (taken : Option Keys) (next : Option Keys → Plan) → AreAll P next → P (opens_new_lock table new taken next)
new_lock_each P o table as_taken taken next all = all taken
new_lock_each P o table in_clear taken next all = all None
new_lock_each P o table (under master) taken next all = master_each P o (put_origin taken) table master next all

pub under_each : (P : Plan → Type 0) → IsOpen P → (from : Origin) (table : Table) (master : Option Keys) (place : KeysetFile) (next : Keys → Plan) → AreAll P next → P (takes_under from table master place next)
under_each P o from table master place next all = bytes_each P o from (limit_under master) place.file (λ bytes. keyset_under (origin_of from place.file) table master place.form bytes next) (λ bytes. keyset_under_each P o (origin_of from place.file) table master place.form bytes next all)

pub locked_each : (P : Plan → Type 0) → IsOpen P → (from : Origin) (table : Table) (lock : Lock) (place : KeysetFile) (next : Keys → Plan) → AreAll P next → P (takes_locked from table lock place next)
locked_each P o from table lock place next all = lock_each P o table lock _ (λ master. under_each P o from table master place next all)

pub loaded_each : (P : Plan → Type 0) → IsOpen P → (table : Table) (lock : Lock) (name : List ℕ) (form : Format) (next : Keys → Plan) → AreAll P next → P (loads_locked table lock name form next)
loaded_each P o table lock name form next all = locked_each P o origins.Keyset table lock (record { file = Some name; form = form }) next all

pub written_under_each : (P : Plan → Type 0) → IsClosed P → (table : Table) (master : Option Keys) (form : Format) (keys : Keys) → ((m : Keys) → IsClosedAt P sealings (wraps keys m table form)) → (next : List ℕ → Plan) → AreAll P next → P (writes_under table master form keys next)
written_under_each P c table None form keys drawn next all = written_each P c form keys next all
written_under_each P c table (Some m) form keys drawn next all = written_each P c formats.Binary keys (λ plain. makes_wrapped keys m table form next) (λ plain. wrapped_each P c keys m table form (drawn m) next all)

pub lines_each : (P : Plan → Type 0) → IsClosed P → (found : Option (List ℕ)) (next : List ℕ → Plan) → AreAll P next → P (with_lines found next)
lines_each P c None next all = c.ended _ _
lines_each P c (Some lines) next all = c.allocated _ (all lines)

pub range_each : (P : Plan → Type 0) → IsClosed P → (opened : Opened) (next : List ℕ → Plan) → AreAll P next → P (with_range opened next)
range_each P c (Ok plain) next all = all plain
range_each P c (Err (stream_failed number)) next all = c.ended _ _
range_each P c (Err past_end) next all = c.ended _ _

pub derived_each : (P : Plan → Type 0) → IsClosed P → (asked : ℕ) (found : Option (Result (List ℕ) ℕ)) (next : List ℕ → Plan) → AreAll P next → P (with_derived asked found next)
derived_each P c asked None next all = all []
derived_each P c asked (Some (Ok bytes)) next all = all bytes
derived_each P c asked (Some (Err greatest)) next all = c.ended _ _

pub work_each : (P : Plan → Type 0) → IsClosed P → (table : Table) (keys : Keys) (work : AskedWork) (input : List ℕ) → ((plain ad : List ℕ) → IsClosedAt P sealings (seals keys table plain ad)) → (next : List ℕ → Plan) → AreAll P next → P (works table keys work input next)
work_each P c table keys (to_seal ad) input drawn next all = c.allocated _ (drawn input ad _ (λ made. c.allocated _ (made_each P c made next all)))
work_each P c table keys (to_open ad) input drawn next all = c.allocated _ (opened_each P c _ _ (open_answer keys table input ad) next all)
work_each P c table keys (to_dseal ad) input drawn next all = c.allocated _ (all _)
work_each P c table keys (to_dopen ad) input drawn next all = c.allocated _ (opened_each P c _ _ (dopen_answer keys table input ad) next all)
work_each P c table keys (to_reseal ad) input drawn next all = c.allocated _ (opened_each P c _ _ (open_answer keys table input ad) _ (λ plain. c.allocated _ (drawn plain ad _ (λ made. c.allocated _ (made_each P c made next all)))))
work_each P c table keys (to_dreseal ad) input drawn next all = c.allocated _ (opened_each P c _ _ (dopen_answer keys table input ad) _ (λ plain. c.allocated _ (all _)))
work_each P c table keys to_tag input drawn next all = c.allocated _ (all _)
work_each P c table keys (to_verify tag) input drawn next all = c.allocated _ (verified_each P c (verify_answer keys table tag input) next all)
work_each P c table keys (to_derive size) input drawn next all = c.allocated _ (derived_each P c size (derive_answer keys table input size) next all)

pub aead_each : (P : Plan → Type 0) → IsClosed P → (primitive : Primitive) (next : Plan) → P next → P (with_aead primitive next)
aead_each P c Aead next all = all
aead_each P c Daead next all = c.ended _ _
aead_each P c Mac next all = c.ended _ _
aead_each P c Prf next all = c.ended _ _
aead_each P c Stream next all = c.ended _ _

pub dek_each : (P : Plan → Type 0) → IsClosed P → (template : List ℕ) (next : Row → Plan) → AreAll P next → P (finds_dek template next)
dek_each P c template next all = row_each P c (row_named template) template _ (λ row. aead_each P c (primitive_of_type (type_made row)) (next row) (all row))

pub scheme_each : (P : Plan → Type 0) → IsClosed P → (found : Option Scheme) (next : Scheme → Plan) → AreAll P next → P (with_scheme found next)
scheme_each P c None next all = c.ended _ _
scheme_each P c (Some scheme) next all = all scheme

pub enveloped_each : (P : Plan → Type 0) → IsClosed P → (r : Result (List ℕ) Rule) (next : List ℕ → Plan) → AreAll P next → P (with_enveloped r next)
enveloped_each P c (Ok bytes) next all = all bytes
enveloped_each P c (Err rule) next all = c.ended _ _

pub parts_each : (P : Plan → Type 0) → IsClosed P → (sealer : Sealer) (found : Option Parts) (next : Parts → Plan) → AreAll P next → P (with_parts sealer found next)
parts_each P c sealer None next all = c.ended _ _
parts_each P c sealer (Some parts) next all = all parts

pub envelope_each : (P : Plan → Type 0) → IsClosed P → (table : Table) (keys : Keys) (scheme : Scheme) (row : Row) (work : AskedEnvelope) (input : List ℕ) → ((ad : List ℕ) → IsClosedAt P envelopings (seals_envelope keys table scheme row input ad)) → ((plain ad : List ℕ) → IsClosedAt P sealings (seals keys table plain ad)) → (next : List ℕ → Plan) → AreAll P next → P (envelopes table keys scheme row work input next)
envelope_each P c table keys scheme row (to_eseal ad) input drawn sealed next all = c.allocated _ (drawn ad _ (λ made. c.allocated _ (made_each P c made _ (λ enveloped. enveloped_each P c enveloped next all))))
envelope_each P c table keys scheme row (to_eopen ad) input drawn sealed next all = c.allocated _ (opened_each P c _ _ (open_envelope_of keys table scheme input ad) next all)
envelope_each P c table keys scheme row to_ereseal input drawn sealed next all = c.allocated _ (parts_each P c _ (parts_in keys table scheme input) _ (λ parts. c.allocated _ (sealed parts.value [] _ (λ made. c.allocated _ (made_each P c made _ (λ key. all (envelope key parts.payload)))))))
