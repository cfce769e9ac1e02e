-- Keysets that lie in clear or under a master, and those that are put so: what an answer that is Done says of
-- them, and that it comes where they go on.
use Rattle.std.proofs.Common.{arith, ◌≡◌, ◌∙◌, sym, refl, ap, subst, ℕ, ◌+◌, ◌≤◌, Bool, true, false, List, [], length, nat_le, Option, Some, None, option_map, Result, Ok, Err}
use Rattle.std.specs.Prelude.{◌&&◌, drop, if◌then◌else◌}
use Rattle.std.specs.FinMap as map
use Rattle.std.specs.Result.{result_ok}
use Rattle.std.proofs.lemmas.Bool.{leb-true}
use Rattle.std.proofs.lemmas.Bool.Decides.{nat_tests}
use Rattle.std.proofs.lemmas.Option.{same_Some}
use Rattle.key_msgs.specs.declared.primitive.Primitive.TheVariants.{Aead}
use Rattle.keyset_json.specs.Reading.{reads_json}
use Rattle.keyset_json.specs.Reading as json
use Rattle.keyset_model.specs.Keyset.{Keys, fault_of}
use Rattle.keyset_model.specs.Reading.{reads_binary}
use Rattle.keyset_model.specs.Reading as binary
use Rattle.keyset_model.specs.Writing.{ReadKeysFit}
use Rattle.keyset_model.specs.declared.keyset.KeysetRefusal.{KeysetRefusal}
use Rattle.managers.specs.Standard.{standard_table}
use Rattle.managers.specs.Table.{Table}
use Rattle.seal_wrap.specs.Unwrapped.{Fault, InnerWire, Member, NotJson, NotOpened, OuterWire, Refusal, is_wrapped_binary, is_wrapped_json, unwrap_of}
use Rattle.seal_wrap.specs.Wrapped.{Wrapped, wrap_of}
use Rattle.tinkey_cmds.specs.Draws.{Drawn}
use Rattle.wrapped_prims.specs.Fitness.{unfit}
use Rattle.wrapped_prims.specs.Laws.{IsKeyset}
use Rattle.tinkey_plans.specs.Origins.{begins_of}
use Rattle.tinkey_plans.specs.declared.origin.Begins.{Begins}
use Rattle.tinkey_plans.specs.declared.origin.Origin.{Origin}
use Rattle.tinkey_plans.specs.declared.origin.Origin.TheVariants as origins
use Rattle.tinkey_plans.specs.declared.status.Status.TheVariants as status
use Rattle.tinkey_plans.specs.Handles.{handles, unless_unfit}
use Rattle.tinkey_plans.specs.Locks.{keyset_under, limit_under, loads_locked, opens_lock, opens_master, opens_new_lock, put_origin, puts_under, takes_locked, takes_under, writes_under}
use Rattle.tinkey_plans.specs.Plan.{Answer, Plan, Told, answer, create_answer, draw_answer, ends, load_answer, refused}
use Rattle.tinkey_plans.specs.Steps.{has_no_key, keyset_in, keyset_limit, origin_of, puts, takes_bytes, with_json, with_keyset, with_made, within_limit, written_in}
use Rattle.tinkey_plans.specs.declared.sealer.Sealer.{Sealer}
use Rattle.tinkey_plans.specs.Wrapping.{as_wrapping, ends_unopened, is_json, is_keyset, keyset_sealer, makes_wrapped, with_unwrapped, wrapped_limit}
use Rattle.tinkey_words.specs.declared.words.rows.Format.{Format}
use Rattle.tinkey_words.specs.declared.words.rows.Format.TheVariants as formats
use Rattle.tinkey_words.specs.Words.{Lock, Master, NewLock, KeysetFile, as_taken, in_clear, under}
use Rattle.tinkey_readable.specs.Anywhere.{IsTaken, ServesAsMaster}
use Rattle.tinkey_readable.specs.Lying.{FitsThere, GivesKeyset, IsMaster, Lies, LiesAs, LiesBehind, LiesThere, Lying, MasterLiesIn, OpensLock, OpensMaster, OpensNewLock, SealsUnder, clear, lock_in}
use Rattle.tinkey_readable.specs.Runs.{IsFree, LiesIn, Written, bytes_at, keyset_of, read_in}
use Rattle.tinkey_readable.proofs.LockLemmas.{unwrapped_is_keyset}
use Rattle.tinkey_readable.proofs.ReachLemmas.{IsDoneAnswer, behind, bytes_reached, keyset_reached, loaded, loaded_within, unfit_done, went_on, went_test}
use Rattle.tinkey_readable.proofs.RunLemmas.{read_faultless, read_keyset}
use Rattle.tinkey_readable.proofs.WrappedRunLemmas.{within_done}
use Rattle.tinkey_plans.specs.UnfitKeys.{unfit_key}

-- ---- bytes

bytes_there : (from : Origin) (limit : ℕ) (file : Option (List ℕ)) (next : List ℕ → Plan) (told : Told) → IsDoneAnswer (answer (takes_bytes from limit file next) told) → (bytes : List ℕ) × (bytes_at file told.files told.input ≡ Some bytes) × (length bytes ≤ limit)
bytes_there from limit None next told done =
    (told.input, refl, leb-true (length told.input) limit (went_test (nat_le (length told.input) limit) (answer (next told.input) (record told { input = [] })) (record (refused told (status.KeysetTooLong origins.StandardInput)) { input = Some (drop (limit + 1) told.input) }) (λ h. absurd (cc)) done))
bytes_there from limit (Some name) next told done = by (map.get told.files name) refl done
  where
    go : List ℕ → Answer
    go b = answer (next b) told

    by : (found : Option (List ℕ)) → map.get told.files name ≡ found → IsDoneAnswer (load_answer found limit (refused told (status.InMissing from)) (refused told (status.KeysetTooLong from)) go) → (bytes : List ℕ) × (map.get told.files name ≡ Some bytes) × (length bytes ≤ limit)
    by None is gone = absurd (cc)
    by (Some bytes) is gone = (bytes, is, loaded_within (map.get told.files name) bytes limit (refused told (status.InMissing from)) (refused told (status.KeysetTooLong from)) go is (λ h. absurd (cc)) done)

bytes_taken : (from : Origin) (limit : ℕ) (file : Option (List ℕ)) (bytes : List ℕ) (next : List ℕ → Plan) (told : Told) → bytes_at file told.files told.input ≡ Some bytes → length bytes ≤ limit → answer (takes_bytes from limit file next) told ≡ answer (next bytes) (behind file told)
bytes_taken from limit (Some name) bytes next told there within =
    loaded (map.get told.files name) bytes limit (refused told (status.InMissing from)) (refused told (status.KeysetTooLong from)) (λ b. answer (next b) told) there within
bytes_taken from limit None bytes next told there within =
    let same : told.input ≡ bytes = same_Some _ _ there in
    let short = subst (λ b. length b ≤ limit) (sym same) within in
    let test : nat_le (length told.input) limit ≡ true = grind (arith, nat_tests, short) in
    went_on (nat_le (length told.input) limit) (answer (next told.input) (record told { input = [] })) (record (refused told (status.KeysetTooLong origins.StandardInput)) { input = Some (drop (limit + 1) told.input) }) test
    ∙ ap (λ b. answer (next b) (record told { input = [] })) same

-- ---- a keyset

not_faulty : (from : Origin) (b : Bool) (fault : KeysetRefusal) (told : Told) → IsDoneAnswer (answer (if b then ends (status.KeysetLocked fault from) tt else ends (status.Keyset fault from) tt) told) → ⊥
not_faulty from true fault told done = cc
not_faulty from false fault told done = cc

not_cut : (from : Origin) (begins : Begins) (b : Bool) (at : ℕ) (told : Told) → IsDoneAnswer (answer (if b then ends (status.ProtoLocked at from) tt else ends (status.BadProto at from begins) tt) told) → ⊥
not_cut from begins true at told done = cc
not_cut from begins false at told done = cc

read_there : (from : Origin) (form : Format) (bytes : List ℕ) (next : Keys → Plan) (told : Told) → IsDoneAnswer (answer (keyset_in from form bytes next) told) → (keys : Keys) × (read_in form bytes ≡ Some keys)
read_there from formats.Json bytes next told done = by (reads_json bytes) done
  where
    by : (r : Result Keys json.Refusal) → IsDoneAnswer (answer (with_json from (begins_of bytes) (is_wrapped_json bytes) r next) told) → (keys : Keys) × (result_ok r ≡ Some keys)
    by (Ok keys) done = (keys, refl)
    by (Err json.NotJson) done = absurd (cc)
    by (Err (json.Shape path)) done = absurd (cc)
    by (Err (json.Fault fault)) done = absurd (not_faulty from (is_wrapped_json bytes && has_no_key fault) fault told done)
read_there from formats.Binary bytes next told done = by (reads_binary bytes) done
  where
    by : (r : Result Keys binary.Refusal) → IsDoneAnswer (answer (with_keyset from (begins_of bytes) (is_wrapped_binary bytes) r next) told) → (keys : Keys) × (result_ok r ≡ Some keys)
    by (Ok keys) done = (keys, refl)
    by (Err (binary.Wire at)) done = absurd (not_cut from (begins_of bytes) (is_wrapped_binary bytes false) at told done)
    by (Err (binary.Fault fault)) done = absurd (not_faulty from (is_wrapped_binary bytes true) fault told done)

not_unopened : (from : Origin) (clear : Bool) (sealer : Sealer) (told : Told) → IsDoneAnswer (answer (ends_unopened from clear sealer) told) → ⊥
not_unopened from true sealer told done = cc
not_unopened from false sealer told done = cc

given_there : (from : Origin) (begins : Begins) (clear' : Bool) (sealer : Sealer) (r : Result Keys Refusal) (next : Keys → Plan) (told : Told) → IsDoneAnswer (answer (with_unwrapped from begins clear' sealer r next) told) → (keys : Keys) × (r ≡ Ok keys)
given_there from begins clear' sealer (Ok keys) next told done = (keys, refl)
given_there from begins clear' sealer (Err (OuterWire at)) next told done = absurd (cc)
given_there from begins clear' sealer (Err NotJson) next told done = absurd (cc)
given_there from begins clear' sealer (Err Member) next told done = absurd (cc)
given_there from begins clear' sealer (Err NotOpened) next told done = absurd (not_unopened _ clear' sealer told done)
given_there from begins clear' sealer (Err (InnerWire at)) next told done = absurd (cc)
given_there from begins clear' sealer (Err (Fault fault)) next told done = absurd (cc)

keyset_there : (from : Origin) (table : Table) (master : Option Keys) (form : Format) (bytes : List ℕ) (next : Keys → Plan) (told : Told) → IsDoneAnswer (answer (keyset_under from table master form bytes next) told) → (keys : Keys) × GivesKeyset table master form bytes keys
keyset_there from table None form bytes next told done = read_there from form bytes next told done
keyset_there from table (Some over) form bytes next told done = given_there from (begins_of bytes) (is_keyset form bytes) (keyset_sealer form over bytes) (unwrap_of over table bytes (is_json form)) next told done

pub keyset_given : (from : Origin) (table : Table) (master : Option Keys) (form : Format) (bytes : List ℕ) (keys : Keys) (next : Keys → Plan) (told : Told) → GivesKeyset table master form bytes keys → answer (keyset_under from table master form bytes next) told ≡ answer (next keys) told
keyset_given from table None form bytes keys next told gives = keyset_reached from form bytes keys next told gives
keyset_given from table (Some over) form bytes keys next told gives = ap (λ (o : Result Keys Refusal). answer (with_unwrapped from (begins_of bytes) (is_keyset form bytes) (keyset_sealer form over bytes) o next) told) gives

pub given_faultless : (table : Table) (master : Option Keys) (form : Format) (bytes : List ℕ) (keys : Keys) → GivesKeyset table master form bytes keys → fault_of keys ≡ None
given_faultless table None form bytes keys gives = read_faultless (record { bytes = bytes; form = form }) keys gives
given_faultless table (Some over) form bytes keys gives = (unwrapped_is_keyset table over (is_json form) bytes keys gives).faultless

-- one that lies at a place
pub takes_there : (from : Origin) (table : Table) (master : Option Keys) (place : KeysetFile) (next : Keys → Plan) (told : Told) → IsDoneAnswer (answer (takes_under from table master place next) told) → (keys : Keys) × LiesThere table master place told keys
takes_there from table master place next told done =
    let read : List ℕ → Plan = λ bytes. keyset_under (origin_of from place.file) table master place.form bytes next in
    let b = bytes_there from (limit_under master) place.file read told done in
    let t = bytes_taken from (limit_under master) place.file b.0 read told b.1 b.2 in
    let k = keyset_there (origin_of from place.file) table master place.form b.0 next (behind place.file told) (ap (λ (a : Answer). a.status) (sym t) ∙ done) in
    (k.0, record { bytes = b.0; there = b.1; within = b.2; gives = k.1 })

pub takes_reached : (from : Origin) (table : Table) (master : Option Keys) (place : KeysetFile) (keys : Keys) (next : Keys → Plan) (told : Told) → LiesThere table master place told keys → answer (takes_under from table master place next) told ≡ answer (next keys) (behind place.file told)
takes_reached from table master place keys next told lies =
    bytes_taken from (limit_under master) place.file lies.bytes (λ bytes. keyset_under (origin_of from place.file) table master place.form bytes next) told lies.there lies.within
    ∙ keyset_given (origin_of from place.file) table master place.form lies.bytes keys next (behind place.file told) lies.gives

-- ---- a lock

abbrev master_place : Master → KeysetFile
master_place lock = record { file = Some lock.file; form = lock.form }

abbrev fits_master : Origin → Table → (Option Keys → Plan) → Keys → Plan
fits_master from table next over = handles from table Aead over (λ fit. next (Some over))

master_there : (from : Origin) (table : Table) (lock : Master) (next : Option Keys → Plan) (told : Told) → IsDoneAnswer (answer (opens_master from table lock next) told) → (over : Keys) × OpensMaster table lock told over
master_there from table lock next told done =
    let k = takes_there from table None (master_place lock) (fits_master from table next) told done in
    let t = takes_reached from table None (master_place lock) k.0 (fits_master from table next) told k.1 in
    let d : IsDoneAnswer (answer (unless_unfit (unfit_key from k.0) (unfit k.0 Aead table) (next (Some k.0))) told) = ap (λ (a : Answer). a.status) (sym t) ∙ done in
    (k.0, record { lies = k.1; fit = unfit_done _ (unfit k.0 Aead table) (next (Some k.0)) told d })

pub lock_there : (table : Table) (lock : Lock) (next : Option Keys → Plan) (told : Told) → IsDoneAnswer (answer (opens_lock table lock next) told) → (master : Option Keys) × OpensLock table lock told master
lock_there table None next told done = (None, tt)
lock_there table (Some lock) next told done = let m = master_there origins.Master table lock next told done in (Some m.0, m.1)

master_reached : (from : Origin) (table : Table) (lock : Master) (over : Keys) (next : Option Keys → Plan) (told : Told) → OpensMaster table lock told over → answer (opens_master from table lock next) told ≡ answer (next (Some over)) told
master_reached from table lock over next told opens =
    takes_reached from table None (master_place lock) over (fits_master from table next) told opens.lies
    ∙ ap (λ u. answer (unless_unfit (unfit_key from over) u (next (Some over))) told) opens.fit

pub lock_reached : (table : Table) (lock : Lock) (master : Option Keys) (next : Option Keys → Plan) (told : Told) → OpensLock table lock told master → answer (opens_lock table lock next) told ≡ answer (next master) told
lock_reached table None None next told opens = refl
lock_reached table None (Some over) next told opens = absurd opens
lock_reached table (Some lock) None next told opens = absurd opens
lock_reached table (Some lock) (Some over) next told opens = master_reached origins.Master table lock over next told opens

-- the one that a keyset is put under
pub new_lock_there : (table : Table) (new : NewLock) (taken : Option Keys) (next : Option Keys → Plan) (told : Told) → IsDoneAnswer (answer (opens_new_lock table new taken next) told) → (put : Option Keys) × OpensNewLock table new taken told put
new_lock_there table as_taken taken next told done = (taken, refl)
new_lock_there table in_clear taken next told done = (None, refl)
new_lock_there table (under master) taken next told done = let m = master_there (put_origin taken) table master next told done in (Some m.0, m.1)

pub new_lock_reached : (table : Table) (new : NewLock) (taken put : Option Keys) (next : Option Keys → Plan) (told : Told) → OpensNewLock table new taken told put → answer (opens_new_lock table new taken next) told ≡ answer (next put) told
new_lock_reached table as_taken taken put next told opens = ap (λ m. answer (next m) told) opens
new_lock_reached table in_clear taken put next told opens = ap (λ m. answer (next m) told) opens
new_lock_reached table (under master) taken None next told opens = absurd opens
new_lock_reached table (under master) taken (Some over) next told opens = master_reached (put_origin taken) table master over next told opens

-- a keyset behind a lock
pub behind_there : (from : Origin) (table : Table) (lock : Lock) (place : KeysetFile) (next : Keys → Plan) (told : Told) → IsDoneAnswer (answer (takes_locked from table lock place next) told) → (keys : Keys) × LiesBehind table lock place told keys
behind_there from table lock place next told done =
    let taken : Option Keys → Plan = λ master. takes_under from table master place next in
    let m = lock_there table lock taken told done in
    let o = lock_reached table lock m.0 taken told m.1 in
    let k = takes_there from table m.0 place next told (ap (λ (a : Answer). a.status) (sym o) ∙ done) in
    (k.0, record { master = m.0; opens = m.1; lies = k.1 })

pub behind_reached : (from : Origin) (table : Table) (lock : Lock) (place : KeysetFile) (keys : Keys) (next : Keys → Plan) (told : Told) → LiesBehind table lock place told keys → answer (takes_locked from table lock place next) told ≡ answer (next keys) (behind place.file told)
behind_reached from table lock place keys next told lies =
    lock_reached table lock lies.master (λ master. takes_under from table master place next) told lies.opens
    ∙ takes_reached from table lies.master place keys next told lies.lies

-- that of a file
pub loads_there : (table : Table) (lock : Lock) (name : List ℕ) (form : Format) (next : Keys → Plan) (told : Told) → IsDoneAnswer (answer (loads_locked table lock name form next) told) → (keys : Keys) × LiesBehind table lock (record { file = Some name; form = form }) told keys
loads_there table lock name form next told done = behind_there origins.Keyset table lock (record { file = Some name; form = form }) next told done

pub loads_reached : (table : Table) (lock : Lock) (name : List ℕ) (form : Format) (keys : Keys) (next : Keys → Plan) (told : Told) → LiesBehind table lock (record { file = Some name; form = form }) told keys → answer (loads_locked table lock name form next) told ≡ answer (next keys) told
loads_reached table lock name form keys next told lies = behind_reached origins.Keyset table lock (record { file = Some name; form = form }) keys next told lies

pub behind_faultless : (table : Table) (lock : Lock) (place : KeysetFile) (told : Told) (keys : Keys) → LiesBehind table lock place told keys → fault_of keys ≡ None
behind_faultless table lock place told keys lies = given_faultless table lies.master place.form lies.lies.bytes keys lies.lies.gives

-- ---- a keyset that is put

-- bytes that were put, and the name was free
pub name_free : (file : Option (List ℕ)) (bytes : List ℕ) (told : Told) → IsDoneAnswer (answer (puts file bytes) told) → IsFree file told.files
name_free None bytes told done = tt
name_free (Some name) bytes told done = by (map.get told.files name) done
  where
    by : (found : Option (List ℕ)) → IsDoneAnswer (create_answer found told name bytes (refused told status.OutExists)) → found ≡ None
    by None done = refl
    by (Some x) done = absurd (cc)

fits_within : (limit : ℕ) (next : List ℕ → Plan) (bytes : List ℕ) (told : Told) → length bytes ≤ limit → answer (within_limit limit next bytes) told ≡ answer (next bytes) told
fits_within limit next bytes told within =
    let test : nat_le (length bytes) limit ≡ true = grind (arith, nat_tests, within) in
    ap (λ (b : Bool). answer (if b then next bytes else ends status.KeysetOutgrown tt) told) test

abbrev wrapped_so : (List ℕ → Plan) → Told → Option Wrapped → Answer
wrapped_so next told o =
    draw_answer (option_map as_wrapping o) (refused told status.EntropyFault) (λ (d : Drawn (List ℕ)). answer (with_made d.answer (within_limit wrapped_limit next)) (record told { random = d.left }))

-- the bytes of a keyset that fits there, and the random bytes that are left behind them
abbrev pub fitting_bytes : (table : Table) (master : Option Keys) (form : Format) (keys : Keys) (random : List ℕ) → FitsThere table master form keys random → List ℕ
fitting_bytes table None form keys random fits = written_in form keys
fitting_bytes table (Some over) form keys random fits = fits.wrapped.text

abbrev pub fitting_left : (table : Table) (master : Option Keys) (form : Format) (keys : Keys) (random : List ℕ) → FitsThere table master form keys random → List ℕ
fitting_left table None form keys random fits = random
fitting_left table (Some over) form keys random fits = fits.wrapped.left

text_there : (table : Table) (over : Keys) (form : Format) (keys : Keys) (next : List ℕ → Plan) (told : Told) → length (written_in formats.Binary keys) ≤ keyset_limit → IsDoneAnswer (answer (makes_wrapped keys over table form next) told) → SealsUnder table over form keys told.random
text_there table over form keys next told within done = by (wrap_of keys over table told.random (is_json form)) refl done
  where
    by : (o : Option Wrapped) → wrap_of keys over table told.random (is_json form) ≡ o → IsDoneAnswer (wrapped_so next told o) → SealsUnder table over form keys told.random
    by None is done = absurd (cc)
    by (Some w) is done = record { within = within; wrapped = w; made = is; short = (within_done wrapped_limit next w.text (record told { random = w.left }) done).0 }

pub writes_there : (table : Table) (master : Option Keys) (form : Format) (keys : Keys) (next : List ℕ → Plan) (told : Told) → IsDoneAnswer (answer (writes_under table master form keys next) told) → FitsThere table master form keys told.random
writes_there table None form keys next told done = (within_done keyset_limit next (written_in form keys) told done).0
writes_there table (Some over) form keys next told done =
    let make : List ℕ → Plan = λ plain. makes_wrapped keys over table form next in
    let w = within_done keyset_limit make (written_in formats.Binary keys) told done in
    text_there table over form keys next told w.0 (ap (λ (a : Answer). a.status) (sym w.1) ∙ done)

pub writes_reached : (table : Table) (master : Option Keys) (form : Format) (keys : Keys) (next : List ℕ → Plan) (told : Told) (fits : FitsThere table master form keys told.random)
    → answer (writes_under table master form keys next) told ≡ answer (next (fitting_bytes table master form keys told.random fits)) (record told { random = fitting_left table master form keys told.random fits })
writes_reached table None form keys next told fits = fits_within keyset_limit next (written_in form keys) told fits
writes_reached table (Some over) form keys next told fits =
    fits_within keyset_limit (λ plain. makes_wrapped keys over table form next) (written_in formats.Binary keys) told fits.within
    ∙ ap (wrapped_so next told) fits.made
    ∙ fits_within wrapped_limit next fits.wrapped.text (record told { random = fits.wrapped.left }) fits.short

-- a keyset that was put fits there, and its name was free
pub put_there : (table : Table) (master : Option Keys) (out : KeysetFile) (keys : Keys) (told : Told) → IsDoneAnswer (answer (puts_under table master out keys) told) → (FitsThere table master out.form keys told.random) × IsFree out.file told.files
put_there table master out keys told done =
    let fits = writes_there table master out.form keys (puts out.file) told done in
    let w = writes_reached table master out.form keys (puts out.file) told fits in
    let left = record told { random = fitting_left table master out.form keys told.random fits } in
    (fits, name_free out.file (fitting_bytes table master out.form keys told.random fits) left (ap (λ (a : Answer). a.status) (sym w) ∙ done))

pub put_comes : (table : Table) (master : Option Keys) (out : KeysetFile) (keys : Keys) (told : Told) → FitsThere table master out.form keys told.random → IsFree out.file told.files → IsDoneAnswer (answer (puts_under table master out keys) told)
put_comes table master out keys told fits free =
    ap (λ (a : Answer). a.status) (writes_reached table master out.form keys (puts out.file) told fits)
    ∙ bytes_reached out.file (fitting_bytes table master out.form keys told.random fits) (record told { random = fitting_left table master out.form keys told.random fits }) free

-- ---- a keyset outside

same_given : (r : Result Keys Refusal) (one two : Keys) → r ≡ Ok one → r ≡ Ok two → one ≡ two
same_given r one two is other = cc

-- what is taken from the files is the keyset that lies there
pub same_lying : (lying : Lying) (old keys : Keys) (told : Told) (lock name : List ℕ) → Lies lying old → LiesAs lying told lock name → LiesBehind standard_table (lock_in lying.master lock) (record { file = Some name; form = lying.text.form }) told keys → keys ≡ old
same_lying lying old keys told lock name is there lies = by lying.master is.master lies.master is.read there.opens lies.opens is.gives lies.lies.gives
  where
    bytes : lies.lies.bytes ≡ lying.text.bytes
    bytes = same_Some _ _ (sym lies.lies.there ∙ there.lies)

    by : (master : Option Written) (one two : Option Keys) → IsMaster master one → MasterLiesIn master told lock → OpensLock standard_table (lock_in master lock) told two → GivesKeyset standard_table one lying.text.form lying.text.bytes old → GivesKeyset standard_table two lying.text.form lies.lies.bytes keys → keys ≡ old
    by None None None read opens opened gives taken = same_Some _ _ (sym taken ∙ ap (read_in lying.text.form) bytes ∙ gives)
    by None (Some over) two read opens opened gives taken = absurd read
    by None None (Some over) read opens opened gives taken = absurd opened
    by (Some master) None two read opens opened gives taken = absurd read
    by (Some master) (Some over) None read opens opened gives taken = absurd opened
    by (Some master) (Some over) (Some other) read opens opened gives taken =
        let there : opened.lies.bytes ≡ master.bytes = same_Some _ _ (sym opened.lies.there ∙ opens) in
        let same : other ≡ over = same_Some _ _ (sym opened.lies.gives ∙ ap (read_in master.form) there ∙ read) in
        let here = ap (λ k. unwrap_of k standard_table lies.lies.bytes (is_json lying.text.form)) same ∙ ap (λ b. unwrap_of over standard_table b (is_json lying.text.form)) bytes in
        same_given (unwrap_of over standard_table lying.text.bytes (is_json lying.text.form)) keys old (sym here ∙ taken) gives

-- one that can be taken is taken
pub taken_behind : (lying : Lying) (keys : Keys) (told : Told) (lock name : List ℕ) → IsTaken lying keys → LiesAs lying told lock name → LiesBehind standard_table (lock_in lying.master lock) (record { file = Some name; form = lying.text.form }) told keys
taken_behind lying keys told lock name taken there = record {
  master = taken.master;
  opens = by lying.master taken.master taken.opens there.opens;
  lies = record { bytes = lying.text.bytes; there = there.lies; within = taken.within; gives = taken.gives };
}
  where
    by : (master : Option Written) (over : Option Keys) → ServesAsMaster master over → MasterLiesIn master told lock → OpensLock standard_table (lock_in master lock) told over
    by None None serves there = tt
    by None (Some over) serves there = absurd serves
    by (Some master) None serves there = absurd serves
    by (Some master) (Some over) serves there = record { lies = record { bytes = master.bytes; there = there; within = serves.within; gives = serves.read }; fit = serves.fit }

-- what is taken is a keyset
pub given_is_keyset : ReadKeysFit → (table : Table) (master : Option Keys) (form : Format) (bytes : List ℕ) (keys : Keys) → GivesKeyset table master form bytes keys → length bytes ≤ limit_under master → IsKeyset keys
given_is_keyset fit table None form bytes keys gives within = read_keyset fit form bytes keys within gives
given_is_keyset fit table (Some over) form bytes keys gives within = unwrapped_is_keyset table over (is_json form) bytes keys gives

-- what lies in clear was within the limit
pub clear_within : (table : Table) (name : List ℕ) (written : Written) (told : Told) (keys : Keys) → LiesIn written told name → LiesBehind table None (record { file = Some name; form = written.form }) told keys → length written.bytes ≤ keyset_limit
clear_within table name written told keys there lies = subst (λ b. length b ≤ keyset_limit) (same_Some _ _ (sym lies.lies.there ∙ there)) (by lies.master lies.opens lies.lies.within)
  where
    by : (master : Option Keys) → OpensLock table None told master → length lies.lies.bytes ≤ limit_under master → length lies.lies.bytes ≤ keyset_limit
    by None opens within = within
    by (Some over) opens within = absurd opens

pub clear_lies : (written : Written) (keys : Keys) → keyset_of written ≡ Some keys → Lies (clear written) keys
clear_lies written keys read = record { master = None; read = tt; gives = read }

pub clear_taken : (written : Written) (keys : Keys) → keyset_of written ≡ Some keys → length written.bytes ≤ keyset_limit → IsTaken (clear written) keys
clear_taken written keys read within = record { master = None; opens = tt; gives = read; within = within }
