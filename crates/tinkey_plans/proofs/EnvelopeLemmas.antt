-- That under the standard table no data key is refused, nor wants a manager.
use Rattle.std.proofs.Common.{arith, ◌≡◌, ◌∙◌, refl, ap, subst, inl, inr, ℕ, Bool, true, false, List, [], ◌++◌, length, take, drop, replicate, length-append, Contains, zero, suc, ◌∷◌, Option, Some, None, Result, Ok, Err}
use Rattle.std.specs.Prelude.{find, ◌&&◌, if◌then◌else◌, nat_lt, option_map}
use Rattle.std.specs.Option.{option_and_then}
use Rattle.std.proofs.lemmas.List.{length-replicate, length-take-le}
use Rattle.std.proofs.lemmas.Option.{same_Some}
use Rattle.std.specs.Str.{bytes_eq}
use Rattle.key_msgs.specs.KeyTypes.{primitive_of_type}
use Rattle.key_msgs.specs.Templates.{Row, is_asymmetric, random_of, row_named, templates, type_made}
use Rattle.key_msgs.specs.declared.key.KeyKind.{KeyKind}
use Rattle.key_msgs.specs.declared.primitive.Primitive.{Primitive}
use Rattle.key_msgs.specs.declared.primitive.Primitive.TheVariants.{Aead, Daead, Mac, Prf, Stream}
use Rattle.key_msgs.specs.declared.rule.Rule.{Rule}
use Rattle.keyset_json.specs.Reading as Json
use Rattle.keyset_json.specs.Reading.{reads_json}
use Rattle.keyset_model.specs.Keyset.{Keys}
use Rattle.keyset_model.specs.Reading.{Refusal, Wire, Fault, reads_binary}
use Rattle.managers.specs.Schemes.{Scheme}
use Rattle.managers.specs.Standard.{standard_table}
use Rattle.managers.specs.Table.{scheme_at}
use Rattle.envelopes.specs.EnvelopeLaws.{DataKeysAreServed, DataKeysAreValid, IsDataKeyRow}
use Rattle.envelopes.specs.Enveloped.{Enveloped, Parts, behind_data_key, data_key_of, envelope, envelope_of, open_envelope_of, parts_in, under_data_key}
use Rattle.envelopes.specs.Enveloping.{url_made}
use Rattle.seal_wrap.specs.Unwrapped as unwrapped
use Rattle.seal_wrap.specs.Unwrapped.{is_wrapped_binary, is_wrapped_json, unwrap_of}
use Rattle.tinkey_cmds.specs.Draws.{Drawn}
use Rattle.tinkey_cmds.specs.declared.command.EditRefusal.{EditRefusal}
use Rattle.tinkey_session.specs.Serving.{cannot_serve, no_template}
use Rattle.tinkey_session.specs.declared.reply.Refusal.TheVariants.{Command}
use Rattle.wrapped_prims.specs.Answers.{Sealed, seal_answer, seal_behind}
use Rattle.wrapped_prims.specs.Fitness.{Unfit, unfit}
use Rattle.tinkey_plans.specs.declared.status.Status.{Status}
use Rattle.tinkey_plans.specs.Origins.{begins_of}
use Rattle.tinkey_plans.specs.declared.origin.Begins.{Begins}
use Rattle.tinkey_plans.specs.declared.origin.Begins.TheVariants as begun
use Rattle.tinkey_plans.specs.declared.origin.Origin.{Origin}
use Rattle.tinkey_plans.specs.declared.origin.Origin.TheVariants as origins
use Rattle.tinkey_plans.specs.declared.status.Status.TheVariants as status
use Rattle.tinkey_words.specs.declared.words.rows.Format.{Format}
use Rattle.tinkey_words.specs.declared.words.rows.Format.TheVariants as formats
use Rattle.tinkey_words.specs.Words.{AskedEnvelope, Lock, to_eseal, to_eopen, to_ereseal}
use Rattle.tinkey_plans.specs.Commands.{asked_plan}
use Rattle.tinkey_plans.specs.Ends.{Ends, Settles, World, create_failed, create_starved, made, name_taken, draw_failed, draw_starved, load_absent, load_failed, load_long, load_starved, loaded, read, read_failed, read_starved, settled, too_long, write_failed, wrote}
use Rattle.tinkey_plans.specs.Envelopes.{as_enveloped, envelope_limit, envelope_output, envelopes, reseals_key, seals_envelope, with_aead, with_enveloped, with_parts, with_scheme}
use Rattle.tinkey_plans.specs.Laws.{DataKeysCome, IsDekStatus}
use Rattle.tinkey_plans.specs.Plan.{IsStated, Plan, allocates, creates, ends, writes}
use Rattle.tinkey_plans.specs.Locks.{loads_locked, opens_lock, takes_under}
use Rattle.tinkey_plans.specs.Steps.{has_no_key, keyset_in, keyset_limit, loads_bytes, puts, reads_input, with_json, with_keyset, with_made, with_row}
use Rattle.tinkey_plans.specs.Handles.{handles, unless_unfit}
use Rattle.tinkey_plans.specs.Using.{with_opened}
use Rattle.tinkey_plans.specs.declared.sealer.Sealer.{Sealer}
use Rattle.tinkey_plans.specs.declared.sealer.Unopened.{Unopened}
use Rattle.tinkey_plans.specs.declared.sealer.Unopened.TheVariants as unopened
use Rattle.tinkey_plans.specs.Wrapping.{is_json, is_keyset, keyset_sealer, unwraps, with_unwrapped, wrapped_limit}
use Rattle.tinkey_plans.specs.UnfitKeys.{unfit_key}
use Rattle.tinkey_plans.specs.declared.unfit.UnfitKey.{UnfitKey}

-- a template that is found stands in the table
found_contains : {A : Type 0} (p : A → Bool) (xs : List A) (x : A) → find p xs ≡ Some x → Contains xs x
found_contains p [] x e = absurd (cc)
found_contains {A = A} p (y ∷ ys) x e = by (p y) (found_contains p ys x) e
  where
    by : (b : Bool) → (find p ys ≡ Some x → Contains ys x) → (if b then Some y else find p ys) ≡ Some x → Contains (y ∷ ys) x
    by true later e = (zero, omega arith, same_Some _ _ e)
    by false later e = let c = later e in (suc c.0, omega (arith, c.1), c.2)

pub row_known : (name : List ℕ) (row : Row) → row_named name ≡ Some row → Contains templates row
unfolding row_named
row_known name row is = found_contains (λ row. bytes_eq row.name name) templates row is

-- no run of the plan ends so
abbrev Clears : Plan → Type 0
Clears p = (old : World) (s : Status) (new : World) → Ends p old s new → IsDekStatus s → ⊥

clear_end : (t : Status) (stated : IsStated t) → (IsDekStatus t → ⊥) → Clears (ends t stated)
clear_end t stated other old s new (is, same) d = other (subst IsDekStatus is d)

clear_memory : (next : Plan) → Clears next → Clears (allocates next)
clear_memory next clear old s new (inl run) d = clear old s new run d
clear_memory next clear old s new (inr (is, same)) d = subst IsDekStatus is d

clear_writes : (output : List ℕ) → Clears (writes output)
clear_writes output old s new (wrote is only stood took) d = subst IsDekStatus is d
clear_writes output old s new (write_failed is only rose front) d = subst IsDekStatus is d

clear_creates : (name output : List ℕ) → Clears (creates name output status.OutExists tt)
clear_creates name output old s new (made is only stood given added) d = subst IsDekStatus is d
clear_creates name output old s new (name_taken is only kept stood given there) d = subst IsDekStatus is d
clear_creates name output old s new (create_failed is only rose given may) d = subst IsDekStatus is d
clear_creates name output old s new (create_starved is only kept stood given) d = subst IsDekStatus is d

-- a new file, or the sink
clear_puts : (out : Option (List ℕ)) (output : List ℕ) → Clears (puts out output)
clear_puts (Some name) output = clear_creates name output
clear_puts None output = clear_writes output

-- ---- the work

clear_opened : (what : Unopened) (sealer : Sealer) (o : Option (List ℕ)) (out : Option (List ℕ)) → Clears (with_opened what sealer o (puts out))
clear_opened what sealer None out = clear_end (status.OpenFailed what sealer) tt (λ d. d)
clear_opened what sealer (Some plain) out = clear_puts out plain

clear_sealing : (given : Result (List ℕ) EditRefusal) (payload : List ℕ) (out : Option (List ℕ)) → Clears (with_made given (λ sealed. puts out (envelope sealed payload)))
clear_sealing (Ok sealed) payload out = clear_puts out (envelope sealed payload)
clear_sealing (Err fault) payload out = clear_end (status.Refused (Command fault)) tt (λ d. d)

-- a data key that is sealed anew
clear_resealed : (keys : Keys) (parts : Parts) (out : Option (List ℕ)) → Clears (reseals_key standard_table keys parts (puts out))
clear_resealed keys parts out old s new (inl (settled drawn entropy given drew stood settles run)) d =
    clear_memory _ (clear_sealing given parts.payload out) (record old { entropy = entropy }) s new run d
clear_resealed keys parts out old s new (inl (draw_failed is only spent)) d = subst IsDekStatus is d
clear_resealed keys parts out old s new (inl (draw_starved partly is only drawn drew stood none)) d = subst IsDekStatus is d
clear_resealed keys parts out old s new (inr (is, same)) d = subst IsDekStatus is d

clear_parts : (sealer : Sealer) (o : Option Parts) (keys : Keys) (out : Option (List ℕ)) → Clears (with_parts sealer o (λ parts. reseals_key standard_table keys parts (puts out)))
clear_parts sealer None keys out = clear_end (status.OpenFailed unopened.DataKey sealer) tt (λ d. d)
clear_parts sealer (Some parts) keys out = clear_resealed keys parts out

clear_enveloped : (r : Result (List ℕ) Rule) (out : Option (List ℕ)) → ((rule : Rule) → r ≡ Err rule → ⊥) → Clears (with_enveloped r (puts out))
clear_enveloped (Ok bytes) out never = clear_puts out bytes
clear_enveloped (Err rule) out never = absurd (never rule refl)

clear_made : (given : Result (Result (List ℕ) Rule) EditRefusal) (out : Option (List ℕ)) → ((rule : Rule) → given ≡ Ok (Err rule) → ⊥) → Clears (with_made given (λ e. with_enveloped e (puts out)))
clear_made (Ok r) out never = clear_enveloped r out (λ rule e. never rule (ap Ok e))
clear_made (Err fault) out never = clear_end (status.Refused (Command fault)) tt (λ d. d)

-- what is sealed under a valid data key is no refusal
payload_never : (sealed : List ℕ) (o : Option Sealed) (e : Enveloped) (rule : Rule) → option_map (λ (payload : Sealed). record { answer = Ok (envelope sealed payload.bytes); left = payload.left }) o ≡ Some e → e.answer ≡ Err rule → ⊥
payload_never sealed None e rule is err = absurd (cc)
payload_never sealed (Some payload) e rule is err = let clash : Ok (envelope sealed payload.bytes) ≡ Err rule = ap (λ (x : Enveloped). x.answer) (same_Some _ _ is) ∙ err in absurd (cc)

behind_never : (plain ad : List ℕ) (key : KeyKind) (o : Option Sealed) (e : Enveloped) (rule : Rule) → option_and_then (behind_data_key plain ad key) o ≡ Some e → e.answer ≡ Err rule → ⊥
behind_never plain ad key None e rule is err = absurd (cc)
behind_never plain ad key (Some sealed) e rule is err = payload_never sealed.bytes (seal_behind [] plain ad sealed.left key) e rule is err

under_never : (keys : Keys) (value plain ad rest : List ℕ) (r : Result KeyKind Rule) (key : KeyKind) (few : Bool) (e : Enveloped) (rule : Rule) → r ≡ Ok key → (if few then None else under_data_key keys standard_table value plain ad rest r) ≡ Some e → e.answer ≡ Err rule → ⊥
under_never keys value plain ad rest r key true e rule valid is err = absurd (cc)
under_never keys value plain ad rest (Ok k) key false e rule valid is err = behind_never plain ad k (seal_answer keys standard_table value [] rest) e rule is err
under_never keys value plain ad rest (Err other) key false e rule valid is err = absurd (cc)

same_answer : (a b : Result (List ℕ) Rule) → ◌≡◌ {A = Result (Result (List ℕ) Rule) EditRefusal} (Ok a) (Ok b) → a ≡ b
same_answer a b is = cc

some_enveloped : (o : Option Enveloped) (rule : Rule) (left : List ℕ) → option_map as_enveloped o ≡ Some (record { answer = Ok (Err rule); left = left }) → (e : Enveloped) × (o ≡ Some e) × (e.answer ≡ Err rule)
some_enveloped None rule left is = absurd (cc)
some_enveloped (Some e) rule left is =
    let same : Ok e.answer ≡ Ok (Err rule) = ap (λ (x : Drawn (Result (List ℕ) Rule)). x.answer) (same_Some _ _ is) in
    (e, refl, same_answer e.answer (Err rule) same)

no_refusal : DataKeysAreValid → (keys : Keys) (scheme : Scheme) (row : Row) (plain ad drawn : List ℕ) (rule : Rule) → IsDataKeyRow row → scheme_at standard_table Aead (url_made row) ≡ Some scheme → Settles (seals_envelope keys standard_table scheme row plain ad) drawn (Ok (Err rule)) → ⊥
no_refusal valid keys scheme row plain ad drawn rule known served settles =
    let more : List ℕ = replicate (random_of row) 0 in
    let random : List ℕ = drawn ++ more in
    let e = some_enveloped (envelope_of keys standard_table scheme row plain ad random) rule more (settles more) in
    let whole : length (take (random_of row) random) ≡ random_of row = length-take-le (random_of row) random (omega (arith, length-append drawn more, length-replicate {A = ℕ} (random_of row) 0)) in
    under_never keys (data_key_of row (take (random_of row) random)) plain ad (drop (random_of row) random) _ _ (nat_lt (length random) (random_of row)) e.0 rule (valid row scheme (take (random_of row) random) known served whole) e.1 e.2

clear_work : DataKeysAreValid → (keys : Keys) (scheme : Scheme) (row : Row) (work : AskedEnvelope) (out : Option (List ℕ)) (input : List ℕ) → IsDataKeyRow row → scheme_at standard_table Aead (url_made row) ≡ Some scheme → Clears (envelopes standard_table keys scheme row work input (puts out))
clear_work valid keys scheme row (to_eopen ad) out input known served old s new run d = clear_memory _ (clear_opened _ _ (open_envelope_of keys standard_table scheme input ad) out) old s new run d
clear_work valid keys scheme row to_ereseal out input known served old s new run d = clear_memory _ (clear_parts _ (parts_in keys standard_table scheme input) keys out) old s new run d
clear_work valid keys scheme row (to_eseal ad) out input known served old s new (inl (settled drawn entropy given drew stood settles run)) d =
    clear_memory _ (clear_made given out (λ rule e. no_refusal valid keys scheme row input ad drawn rule known served (subst (λ g. Settles (seals_envelope keys standard_table scheme row input ad) drawn g) e settles))) (record old { entropy = entropy }) s new run d
clear_work valid keys scheme row (to_eseal ad) out input known served old s new (inl (draw_failed is only spent)) d = subst IsDekStatus is d
clear_work valid keys scheme row (to_eseal ad) out input known served old s new (inl (draw_starved parts is only drawn drew stood none)) d = subst IsDekStatus is d
clear_work valid keys scheme row (to_eseal ad) out input known served old s new (inr (is, same)) d = subst IsDekStatus is d

-- ---- the steps before it

clear_input : (limit : ℕ) (next : List ℕ → Plan) → ((input : List ℕ) → Clears (next input)) → Clears (reads_input limit next)
clear_input limit next clear old s new (read all source gave stood within end run) d = clear all (record old { source = source }) s new run d
clear_input limit next clear old s new (too_long is only stood count) d = subst IsDekStatus is d
clear_input limit next clear old s new (read_failed is only rose upto) d = subst IsDekStatus is d
clear_input limit next clear old s new (read_starved is only stood upto) d = subst IsDekStatus is d

clear_scheme : (found : Option Scheme) (scheme : Scheme) (next : Scheme → Plan) → found ≡ Some scheme → Clears (next scheme) → Clears (with_scheme found next)
clear_scheme found scheme next is clear old s new run d = clear old s new (subst (λ o. Ends (with_scheme o next) old s new) is run) d

clear_unfit : (name : ℕ → UnfitKey) (u : Option (ℕ × Unfit)) (next : Plan) → Clears next → Clears (unless_unfit name u next)
clear_unfit name None next clear = clear
clear_unfit name (Some found) next clear = clear_end (status.Unfit (cannot_serve found.0 found.1) (name found.0)) tt (λ d. d)

clear_either : (b : Bool) (s t : Status) (a : IsStated s) (other : IsStated t) → (IsDekStatus s → ⊥) → (IsDekStatus t → ⊥) → Clears (if b then ends s a else ends t other)
clear_either true s t a other first second = clear_end s a first
clear_either false s t a other first second = clear_end t other second

clear_binary : (from : Origin) (begins : Begins) (locked : Bool → Bool) (r : Result Keys Refusal) (next : Keys → Plan) → ((keys : Keys) → Clears (next keys)) → Clears (with_keyset from begins locked r next)
clear_binary from begins locked (Err (Wire at)) next clear = clear_either (locked false) (status.ProtoLocked at from) (status.BadProto at from begins) tt tt (λ d. d) (λ d. d)
clear_binary from begins locked (Err (Fault fault)) next clear = clear_either (locked true) (status.KeysetLocked fault from) (status.Keyset fault from) tt tt (λ d. d) (λ d. d)
clear_binary from begins locked (Ok keys) next clear = clear keys

clear_json : (from : Origin) (begins : Begins) (locked : Bool) (r : Result Keys Json.Refusal) (next : Keys → Plan) → ((keys : Keys) → Clears (next keys)) → Clears (with_json from begins locked r next)
clear_json from begins locked (Err Json.NotJson) next clear = clear_end (status.NotJson from begins) tt (λ d. d)
clear_json from begins locked (Err (Json.Shape path)) next clear = clear_end (status.Shape path from) tt (λ d. d)
clear_json from begins locked (Err (Json.Fault fault)) next clear = clear_either (locked && has_no_key fault) (status.KeysetLocked fault from) (status.Keyset fault from) tt tt (λ d. d) (λ d. d)
clear_json from begins locked (Ok keys) next clear = clear keys

clear_keyset : (from : Origin) (form : Format) (bytes : List ℕ) (next : Keys → Plan) → ((keys : Keys) → Clears (next keys)) → Clears (keyset_in from form bytes next)
clear_keyset from formats.Json bytes next clear = clear_memory _ (clear_json from (begins_of bytes) (is_wrapped_json bytes) (reads_json bytes) next clear)
clear_keyset from formats.Binary bytes next clear = clear_memory _ (clear_binary from (begins_of bytes) (is_wrapped_binary bytes) (reads_binary bytes) next clear)

clear_load : (from : Origin) (limit : ℕ) (name : List ℕ) (next : List ℕ → Plan) → ((bytes : List ℕ) → Clears (next bytes)) → Clears (loads_bytes from limit name next)
clear_load from limit name next clear old s new (loaded bytes store kept stood given within holds run) d = clear bytes (record old { store = store }) s new run d
clear_load from limit name next clear old s new (load_absent is only kept stood given holds) d = subst IsDekStatus is d
clear_load from limit name next clear old s new (load_long is only kept stood given holds) d = subst IsDekStatus is d
clear_load from limit name next clear old s new (load_failed is only kept rose given) d = subst IsDekStatus is d
clear_load from limit name next clear old s new (load_starved is only kept stood given) d = subst IsDekStatus is d

clear_unwrapped : (from : Origin) (begins : Begins) (clear' : Bool) (sealer : Sealer) (r : Result Keys unwrapped.Refusal) (next : Keys → Plan) → ((keys : Keys) → Clears (next keys)) → Clears (with_unwrapped from begins clear' sealer r next)
clear_unwrapped from begins clear' sealer (Err (unwrapped.OuterWire at)) next clear = clear_end (status.BadProto at from begins) tt (λ d. d)
clear_unwrapped from begins clear' sealer (Err unwrapped.NotJson) next clear = clear_end (status.NotJson from begins) tt (λ d. d)
clear_unwrapped from begins clear' sealer (Err unwrapped.Member) next clear = clear_end (status.WrappedMember from) tt (λ d. d)
clear_unwrapped from begins clear' sealer (Err unwrapped.NotOpened) next clear = clear_either clear' (status.KeysetInClear from) (status.OpenFailed unopened.Keyset sealer) tt tt (λ d. d) (λ d. d)
clear_unwrapped from begins clear' sealer (Err (unwrapped.InnerWire at)) next clear = clear_end (status.BadProto at from begun.Otherwise) tt (λ d. d)
clear_unwrapped from begins clear' sealer (Err (unwrapped.Fault fault)) next clear = clear_end (status.Keyset fault from) tt (λ d. d)
clear_unwrapped from begins clear' sealer (Ok keys) next clear = clear keys

clear_under : (master : Option Keys) (name : List ℕ) (form : Format) (next : Keys → Plan) → ((keys : Keys) → Clears (next keys)) → Clears (takes_under origins.Keyset standard_table master (record { file = Some name; form = form }) next)
clear_under None name form next clear = clear_load origins.Keyset keyset_limit name (λ bytes. keyset_in origins.Keyset form bytes next) (λ bytes. clear_keyset origins.Keyset form bytes next clear)
clear_under (Some master) name form next clear = clear_load origins.Keyset wrapped_limit name (λ text. unwraps origins.Keyset master standard_table form text next) (λ text. clear_memory (with_unwrapped origins.Keyset (begins_of text) (is_keyset form text) (keyset_sealer form master text) (unwrap_of master standard_table text (is_json form)) next) (clear_unwrapped origins.Keyset (begins_of text) (is_keyset form text) (keyset_sealer form master text) (unwrap_of master standard_table text (is_json form)) next clear))

clear_lock : (lock : Lock) (next : Option Keys → Plan) → ((master : Option Keys) → Clears (next master)) → Clears (opens_lock standard_table lock next)
clear_lock None next clear = clear None
clear_lock (Some master) next clear = clear_load origins.Master keyset_limit master.file (λ bytes. keyset_in origins.Master master.form bytes (λ keys. handles origins.Master standard_table Aead keys (λ fit. next (Some keys)))) (λ bytes. clear_keyset origins.Master master.form bytes (λ keys. handles origins.Master standard_table Aead keys (λ fit. next (Some keys))) (λ keys. clear_memory (unless_unfit (unfit_key origins.Master keys) (unfit keys Aead standard_table) (next (Some keys))) (clear_unfit _ (unfit keys Aead standard_table) (next (Some keys)) (clear (Some keys)))))

clear_locked : (lock : Lock) (name : List ℕ) (form : Format) (next : Keys → Plan) → ((keys : Keys) → Clears (next keys)) → Clears (loads_locked standard_table lock name form next)
clear_locked lock name form next clear = clear_lock lock _ (λ master. clear_under master name form next clear)

clear_aead : (p : Primitive) (next : Plan) → (p ≡ Aead → Clears next) → Clears (with_aead p next)
clear_aead Aead next clear = clear refl
clear_aead Daead next clear = clear_end status.DekTemplate tt (λ d. d)
clear_aead Mac next clear = clear_end status.DekTemplate tt (λ d. d)
clear_aead Prf next clear = clear_end status.DekTemplate tt (λ d. d)
clear_aead Stream next clear = clear_end status.DekTemplate tt (λ d. d)

clear_row : (found : Option Row) (name : List ℕ) (next : Row → Plan) → ((row : Row) → found ≡ Some row → Clears (next row)) → Clears (with_row found name next)
clear_row (Some row) name next clear = clear row refl
clear_row None name next clear = clear_end (status.Refused (no_template (is_asymmetric name))) tt (λ d. d)

clear_envelope : DataKeysAreServed → DataKeysAreValid → (lock : Lock) (name : List ℕ) (form : Format) (template : List ℕ) (work : AskedEnvelope) (out : Option (List ℕ)) → Clears (envelope_output standard_table lock name form template work (puts out))
clear_envelope served valid lock name form template work out =
    clear_row (row_named template) template _ (λ row named.
    clear_aead (primitive_of_type (type_made row)) _ (λ aead.
    let scheme = served row aead in
    clear_locked lock name form _ (λ keys.
    clear_memory _ (clear_unfit _ (unfit keys Aead standard_table) _
    (clear_scheme (scheme_at standard_table Aead (url_made row)) scheme.0 _ scheme.1
    (clear_input (envelope_limit work) _ (λ input.
    clear_work valid keys scheme.0 row work out input (record { known = row_known template row named; aead = aead }) scheme.1)))))))

pub data_keys_come : DataKeysAreServed → DataKeysAreValid → DataKeysCome
data_keys_come served valid words lock name form template work out old s new is run =
    clear_envelope served valid lock name form template work out old s new (subst (λ p. Ends p old s new) (ap (λ r. asked_plan standard_table r words) is) run)
