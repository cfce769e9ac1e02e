-- Work by the keys of a keyset that lies under the lock of a master.
use Rattle.std.proofs.Common.{◌≡◌, ◌∙◌, sym, ap, subst, ℕ, ◌≤◌, Bool, [], List, length, Option, Some, None, Result, Ok, Err}
use Rattle.std.specs.FinMap as map
use Rattle.key_msgs.specs.declared.primitive.Primitive.TheVariants.{Aead}
use Rattle.keyset_model.specs.Keyset.{Keys}
use Rattle.keyset_model.specs.Reading as reading
use Rattle.keyset_model.specs.Reading.{reads_binary}
use Rattle.tinkey_readable.proofs.ReadIdLemmas.{read-ids}
use Rattle.managers.specs.Standard.{standard_table}
use Rattle.managers.specs.Table.{Table}
use Rattle.seal_wrap.specs.Unwrapped.{Refusal, inside, open_keyset, or_not_opened, sealed_in, unwrap_of}
use Rattle.seal_wrap.specs.Unwrapped as unwrapping
use Rattle.wrapped_prims.specs.Answers.{open_answer}
use Rattle.wrapped_prims.specs.Fitness.{unfit}
use Rattle.wrapped_prims.specs.Laws.{IsKeyset}
use Rattle.tinkey_plans.specs.declared.origin.Origin.{Origin}
use Rattle.tinkey_plans.specs.declared.origin.Origin.TheVariants as origins
use Rattle.tinkey_plans.specs.Handles.{handles, unless_unfit}
use Rattle.tinkey_plans.specs.Locks.{loads_locked, opens_master, takes_under}
use Rattle.tinkey_plans.specs.Plan.{Answer, Plan, Told, answer, writes}
use Rattle.tinkey_plans.specs.Steps.{keyset_limit, origin_of}
use Rattle.tinkey_plans.specs.Using.{limit_for, puts_output, works}
use Rattle.tinkey_plans.specs.Wrapping.{is_json, unwraps, wrapped_limit}
use Rattle.tinkey_readable.proofs.PutLemmas.{made_put, worked}
use Rattle.tinkey_readable.proofs.ReachLemmas.{IsDoneAnswer, behind, input_reached, load_done, load_reached, load_within, unfit_done, use_done, work_behind}
use Rattle.tinkey_readable.proofs.RunLemmas.{Started, read_binary_keyset, started_by}
use Rattle.tinkey_readable.proofs.WrappedRunLemmas.{given_keyset, text_done, text_reached}
use Rattle.tinkey_readable.specs.Anywhere.{ServesUnder}
use Rattle.tinkey_readable.specs.LockedRuns.{GivesUnder, IsDoneUnder, WasDoneUnder}
use Rattle.tinkey_readable.specs.Runs.{Written, bytes_at, keyset_of, read_in}
use Rattle.tinkey_words.specs.Words.{AskedWork, KeysetFile, primitive_for}
use Rattle.tinkey_words.specs.declared.words.rows.Format.{Format}
use Rattle.tinkey_plans.specs.UnfitKeys.{unfit_key}

-- ---- what a text gives is a keyset

inside_read : (read : Result Keys reading.Refusal) (keys : Keys) → inside read ≡ Ok keys → read ≡ Ok keys
inside_read (Ok given) keys is = let same : given ≡ keys = cc in ap Ok same
inside_read (Err (reading.Wire at)) keys is = absurd (cc)
inside_read (Err (reading.Fault fault)) keys is = absurd (cc)

opened_read : (found : Option (List ℕ)) (keys : Keys) → unwrapping.◌>>=◌ (or_not_opened found) (λ plain. inside (reads_binary plain)) ≡ Ok keys → (plain : List ℕ) × (reads_binary plain ≡ Ok keys)
opened_read None keys is = absurd (cc)
opened_read (Some plain) keys is = (plain, inside_read (reads_binary plain) keys is)

sealed_read : (table : Table) (master : Keys) (sealed : Result (List ℕ) Refusal) (keys : Keys) → unwrapping.◌>>=◌ sealed (open_keyset master table) ≡ Ok keys → (plain : List ℕ) × (reads_binary plain ≡ Ok keys)
sealed_read table master (Ok sealed) keys is = opened_read (open_answer master table sealed []) keys is
sealed_read table master (Err refusal) keys is = absurd (cc)

pub unwrapped_is_keyset : (table : Table) (master : Keys) (json : Bool) (text : List ℕ) (keys : Keys) → unwrap_of master table text json ≡ Ok keys → IsKeyset keys
unwrapped_is_keyset table master json text keys gives =
    let plain = sealed_read table master (sealed_in json text) keys gives in
    record { faultless = read_binary_keyset plain.0 keys plain.1; words = read-ids plain.0 keys plain.1 }

pub given_is_keyset : (master : Keys) (text : Written) (keys : Keys) → GivesUnder master text keys → IsKeyset keys
given_is_keyset master text keys gives = unwrapped_is_keyset standard_table master (is_json text.form) text.bytes keys gives

-- ---- the steps

pub record OpenedLock (table : Table) (master : Keys) (bytes : List ℕ) (next : Option Keys → Plan) (told : Told) (a : Answer) : Type 0 where
  pub within : length bytes ≤ keyset_limit
  pub fit : unfit master Aead table ≡ None
  pub goes_on : a ≡ answer (next (Some master)) told

pub lock_done : (from : Origin) (table : Table) (name : List ℕ) (form : Format) (bytes : List ℕ) (master : Keys) (next : Option Keys → Plan) (told : Told) → map.get told.files name ≡ Some bytes → read_in form bytes ≡ Some master
    → IsDoneAnswer (answer (opens_master from table (record { file = name; form = form }) next) told)
    → OpenedLock table master bytes next told (answer (opens_master from table (record { file = name; form = form }) next) told)
lock_done from table name form bytes master next told there e done =
    let fits : Keys → Plan = λ m. handles from table Aead m (λ fit. next (Some m)) in
    let l = load_done from name form bytes master fits told there e done in
    let d : IsDoneAnswer (answer (unless_unfit (unfit_key from master) (unfit master Aead table) (next (Some master))) told) = ap (λ (a : Answer). a.status) (sym l) ∙ done in
    let fit = unfit_done _ (unfit master Aead table) (next (Some master)) told d in
    record {
      within = load_within from name form bytes fits told there done;
      fit = fit;
      goes_on = l ∙ ap (λ u. answer (unless_unfit (unfit_key from master) u (next (Some master))) told) fit;
    }

pub lock_reached : (from : Origin) (table : Table) (name : List ℕ) (form : Format) (bytes : List ℕ) (master : Keys) (next : Option Keys → Plan) (told : Told) → map.get told.files name ≡ Some bytes → read_in form bytes ≡ Some master → length bytes ≤ keyset_limit → unfit master Aead table ≡ None
    → answer (opens_master from table (record { file = name; form = form }) next) told ≡ answer (next (Some master)) told
lock_reached from table name form bytes master next told there e within fit =
    load_reached from name form bytes master (λ m. handles from table Aead m (λ fit. next (Some m))) told there e within
    ∙ ap (λ u. answer (unless_unfit (unfit_key from master) u (next (Some master))) told) fit

pub under_done : (from : Origin) (master : Keys) (place : KeysetFile) (bytes : List ℕ) (keys : Keys) (next : Keys → Plan) (told : Told) → bytes_at place.file told.files told.input ≡ Some bytes → unwrap_of master standard_table bytes (is_json place.form) ≡ Ok keys
    → IsDoneAnswer (answer (takes_under from standard_table (Some master) place next) told)
    → answer (takes_under from standard_table (Some master) place next) told ≡ answer (next keys) (behind place.file told)
under_done from master place bytes keys next told there gives done =
    text_done from place.file bytes (λ text. unwraps (origin_of from place.file) master standard_table place.form text next) told there done
    ∙ given_keyset (origin_of from place.file) master place.form bytes keys next (behind place.file told) gives

pub under_reached : (from : Origin) (master : Keys) (place : KeysetFile) (bytes : List ℕ) (keys : Keys) (next : Keys → Plan) (told : Told) → bytes_at place.file told.files told.input ≡ Some bytes → unwrap_of master standard_table bytes (is_json place.form) ≡ Ok keys → length bytes ≤ wrapped_limit
    → answer (takes_under from standard_table (Some master) place next) told ≡ answer (next keys) (behind place.file told)
under_reached from master place bytes keys next told there gives within =
    text_reached from place.file bytes (λ text. unwraps (origin_of from place.file) master standard_table place.form text next) told there within
    ∙ given_keyset (origin_of from place.file) master place.form bytes keys next (behind place.file told) gives

-- the keyset in a file, behind its lock
pub locked_done : (master text : Written) (over keys : Keys) (lock name : List ℕ) (next : Keys → Plan) (told : Told) → map.get told.files lock ≡ Some master.bytes → keyset_of master ≡ Some over → map.get told.files name ≡ Some text.bytes → GivesUnder over text keys
    → IsDoneAnswer (answer (loads_locked standard_table (Some (record { file = lock; form = master.form })) name text.form next) told)
    → answer (loads_locked standard_table (Some (record { file = lock; form = master.form })) name text.form next) told ≡ answer (next keys) told
locked_done master text over keys lock name next told opens read lies gives done =
    let place : KeysetFile = record { file = Some name; form = text.form } in
    let o = lock_done origins.Master standard_table lock master.form master.bytes over (λ m. takes_under origins.Keyset standard_table m place next) told opens read done in
    o.goes_on ∙ under_done origins.Keyset over place text.bytes keys next told lies gives (ap (λ (a : Answer). a.status) (sym o.goes_on) ∙ done)

pub locked_reached : (master text : Written) (over keys : Keys) (lock name : List ℕ) (next : Keys → Plan) (told : Told) → map.get told.files lock ≡ Some master.bytes → keyset_of master ≡ Some over → map.get told.files name ≡ Some text.bytes → GivesUnder over text keys
    → length master.bytes ≤ keyset_limit → unfit over Aead standard_table ≡ None → length text.bytes ≤ wrapped_limit
    → answer (loads_locked standard_table (Some (record { file = lock; form = master.form })) name text.form next) told ≡ answer (next keys) told
locked_reached master text over keys lock name next told opens read lies gives within fit short =
    let place : KeysetFile = record { file = Some name; form = text.form } in
    lock_reached origins.Master standard_table lock master.form master.bytes over (λ m. takes_under origins.Keyset standard_table m place next) told opens read within fit
    ∙ under_reached origins.Keyset over place text.bytes keys next told lies gives short

-- ---- work

-- the steps behind the keyset
abbrev uses : AskedWork → (List ℕ → Plan) → Keys → Plan
uses work next keys = handles origins.Keyset standard_table (primitive_for work) keys (λ fit. work_behind standard_table keys work next)

-- work over such a keyset was done
pub started_under : (work : AskedWork) (master text : Written) (over old : Keys) (told : Told) (output : List ℕ) → keyset_of master ≡ Some over → GivesUnder over text old → WasDoneUnder work master text told output → Started work old told output
started_under work master text over old told output read gives was =
    let next = puts_output was.out in
    let l = locked_done master text over old was.lock was.name (uses work next) told was.opens read was.lies gives was.done in
    let u = use_done standard_table work next old told (ap (λ (a : Answer). a.status) (sym l) ∙ was.done) in
    started_by work old told output was.out u (ap (λ (a : Answer). a.status) (sym l) ∙ was.done)
    (ap (λ (a : Answer). bytes_at was.out.file a.files a.output) (sym l) ∙ was.gave) was.bytes

-- work over one is done, where its keys answer so
pub finished_under : (work : AskedWork) (master text : Written) (keys : Keys) (input output : List ℕ) → ServesUnder (primitive_for work) master text keys → length input ≤ limit_for work
    → ((told : Told) → (IsDoneAnswer (answer (works standard_table keys work input writes) told)) × ((answer (works standard_table keys work input writes) told).output ≡ output))
    → IsDoneUnder work master text input output
finished_under work master text keys input output serves fits gives told lock name out opens lies same free =
    let next = puts_output out in
    let left = record told { input = [] } in
    let r = locked_reached master text serves.over keys lock name (uses work next) told opens serves.opens.read lies serves.gives serves.opens.within serves.opens.fit serves.within
    ∙ ap (λ u. answer (unless_unfit (unfit_key origins.Keyset keys) u (work_behind standard_table keys work next)) told) serves.fit
    ∙ input_reached (limit_for work) (λ input. works standard_table keys work input next) told (subst (λ i. length i ≤ limit_for work) (sym same) fits)
    ∙ ap (λ i. answer (works standard_table keys work i next) left) same in
    let g = gives left in
    let w = worked standard_table keys work input writes left g.0 in
    let p = made_put (works standard_table keys work input) left out.hex out.file output w g.1 free in
    (ap (λ (a : Answer). a.status) r ∙ p.0, ap (λ (a : Answer). bytes_at out.file a.files a.output) r ∙ p.1)
