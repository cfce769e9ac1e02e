-- Locks, as steps.
use Rattle.std.proofs.Common.{◌≡◌, ap, refl, subst, sym, ℕ, ◌≤◌, Bool, List, Option, Some, None, Result, Ok, Err}
use Rattle.std.specs.Borrow.{Bor}
use Rattle.std.specs.Option.{option_copied, option_map}
use Rattle.std.specs.Result.{IsErrAnd}
use Rattle.key_msgs.specs.declared.primitive.Primitive.TheVariants.{Aead}
use Rattle.keyset_model.specs.Keyset.{Keys}
use Rattle.managers.specs.Table.{Table}
use Rattle.wrapped_prims.specs.Making.{IsOver}
use Rattle.wrapped_prims.specs.declared.held.Held.{Held}
use Rattle.tinkey_plans.specs.Ends.{World, Ends}
use Rattle.tinkey_plans.specs.Handles.{handles, IsServing}
use Rattle.tinkey_plans.specs.Locks.{keyset_under, limit_under, opens_lock, opens_master, opens_new_lock, put_origin, puts_under, takes_locked, takes_under, writes_under, Holds, IsLock, IsSomeLock, PassesLock}
use Rattle.tinkey_plans.specs.Plan.{Plan, exchanges}
use Rattle.tinkey_plans.specs.Session.{finds_free, holds_session, saves, saving_session}
use Rattle.keyset_model.specs.declared.keyset.Keyset.{Keyset}
use Rattle.tinkey_plans.specs.Steps.{keyset_in, keyset_limit, loads_keyset, makes_keyset, writes_keyset, Finishes, Passes, PassesAs}
use Rattle.tinkey_plans.specs.Wrapping.{makes_wrapped, unwraps, wrapped_limit}
use Rattle.tinkey_plans.specs.declared.origin.Origin.{Origin}
use Rattle.tinkey_plans.specs.declared.origin.Origin.TheVariants as origins
use Rattle.tinkey_plans.specs.declared.status.Status.{Status}
use Rattle.tinkey_cmds.specs.Edits.{Edit, first, step}
use Rattle.key_msgs.specs.Templates.{Row}
use Rattle.tinkey_plans.proofs.StepLemmas.{ends_there, passes_then}
use Rattle.tinkey_words.specs.Words.{Lock, Master, NewLock, KeysetFile}
use Rattle.tinkey_words.specs.declared.words.rows.Format.{Format}
use Rattle.tinkey_words.specs.declared.words.rows.Format.TheVariants as formats

-- ---- steps that end a plan

-- a step that gave a value, and the rest of the plan
pub finishes_then : {A : Type 0} (first : (A → Plan) → Plan) (rest : A → Plan) (old mid new : World) (value : A) (r : Result (Unit {0}) Status) → Passes first old (Ok value) mid → Finishes (rest value) mid r new → Finishes (first rest) old r new
finishes_then first rest old mid new value (Ok done) one two = one rest _ new two
finishes_then first rest old mid new value (Err s) one two = one rest _ new two

-- the same, where the rest takes the value as it is seen
pub finishes_then_as : {A B : Type 0} (view : A → B) (first : (B → Plan) → Plan) (rest : B → Plan) (old mid new : World) (value : A) (r : Result (Unit {0}) Status) → PassesAs view first old (Ok value) mid → Finishes (rest (view value)) mid r new → Finishes (first rest) old r new
finishes_then_as view first rest old mid new value (Ok done) one two = one rest _ new two
finishes_then_as view first rest old mid new value (Err s) one two = one rest _ new two

-- a step that ended the plan, with the status that a `?` hands on
pub finished_there : {A : Type 0} (first : (A → Plan) → Plan) (rest : A → Plan) (old new : World) (r : Result (Unit {0}) Status) (s : Status) → IsErrAnd r (λ e. e ≡ s) → Passes {A = A} first old (Err s) new → Finishes (first rest) old r new
finished_there first rest old new (Ok done) s is one = absurd is
finished_there first rest old new (Err e) s is one = rw is (one rest)

-- ---- a master

pub master_opened : {A B : Type 0} (from : Origin) (other : B → Option (Table × Keys × Held)) (table own : Table) (held : Held) (master : Master) (keys : Keys) (old mid : World) (h : A) (l : B) → other l ≡ Some (own, keys, held) → Passes (loads_keyset from master.file master.form) old (Ok keys) mid → PassesAs {A = A} (λ h. tt) (handles from table Aead keys) mid (Ok h) mid
    → IsOver own Aead keys held → own ≡ table → PassesLock other table (opens_master from table master) old (Ok l) mid
master_opened from other table own held master keys old mid h l is one two over same =
    record { passes = (Some keys, subst (λ (o : Option (Table × Keys × Held)). IsLock o table (Some keys)) (sym is) (record { is = (same, refl, over) }), λ next s last run. one (λ k. handles from table Aead k (λ fit. next (Some k))) s last (two (λ fit. next (Some keys)) s last run)) }

-- its keys can't serve
pub master_unfit : {B : Type 0} (from : Origin) (other : B → Option (Table × Keys × Held)) (table : Table) (master : Master) (keys : Keys) (old mid : World) (r : Result B Status) (s : Status) → IsErrAnd r (λ e. e ≡ s) → Passes (loads_keyset from master.file master.form) old (Ok keys) mid → ((next : Unit {0} → Plan) → Ends (handles from table Aead keys next) mid s mid)
    → PassesLock other table (opens_master from table master) old r mid
master_unfit from other table master keys old mid (Ok l) s is one two = absurd is
master_unfit from other table master keys old mid (Err e) s is one two = record { passes = λ next. rw is (one (λ k. handles from table Aead k (λ fit. next (Some k))) s mid (two (λ fit. next (Some keys)))) }

-- or there is no such keyset
pub master_unopened : {A : Type 0} (from : Origin) (held : A → Option (Table × Keys × Held)) (table : Table) (master : Master) (old new : World) (r : Result A Status) (s : Status) → IsErrAnd r (λ e. e ≡ s) → Passes {A = Keys} (loads_keyset from master.file master.form) old (Err s) new → PassesLock held table (opens_master from table master) old r new
master_unopened from held table master old new (Ok h) s is one = absurd is
master_unopened from held table master old new (Err e) s is one = record { passes = λ next. rw is (one (λ k. handles from table Aead k (λ fit. next (Some k)))) }

-- a master whose keys serve is some lock
pub master_is_lock : (own : Table) (keys : Keys) (held : Held) → IsOver own Aead keys held → IsSomeLock (Some (own, keys, held))
master_is_lock own keys held over = (own, Some keys, record { is = (refl, refl, over) })

-- the lock of a master is that master's, and without a lock there is none
pub locked_by : {A B : Type 0} (held : A → Table × Keys × Held) (other : B → Option (Table × Keys × Held)) (table : Table) (master : Master) (old new : World) (h : A) (l : B) → other l ≡ Some (held h) → PassesLock (λ x. Some (held x)) table (opens_master origins.Master table master) old (Ok h) new → PassesLock other table (opens_lock table (Some master)) old (Ok l) new
locked_by held other table master old new h l same opened =
    let p = opened.passes in
    record { passes = (p.0, subst (λ (o : Option (Table × Keys × Held)). IsLock o table p.0) (sym same) p.1, p.2) }

pub not_locked_by : {A B : Type 0} (held : A → Option (Table × Keys × Held)) (other : B → Option (Table × Keys × Held)) (table : Table) (master : Master) (old new : World) (r : Result B Status) (s : Status) → IsErrAnd r (λ e. e ≡ s) → PassesLock held table (opens_master origins.Master table master) old (Err s) new → PassesLock other table (opens_lock table (Some master)) old r new
not_locked_by held other table master old new (Ok l) s is opened = absurd is
not_locked_by held other table master old new (Err e) s is opened = record { passes = λ next. rw is (opened.passes next) }

pub no_lock : {B : Type 0} (other : B → Option (Table × Keys × Held)) (table : Table) (w : World) (l : B) → other l ≡ None → PassesLock other table (opens_lock table None) w (Ok l) w
no_lock other table w l none = record { passes = (None, record { is = subst (λ (o : Option (Table × Keys × Held)). Holds o table None) (sym none) tt }, λ next s last run. run) }

pub none_is_lock : (table : Table) → IsSomeLock None
none_is_lock table = (table, None, record { is = tt })

-- what is lent of what may be there
pub lent : {A B : Type 0} (f : A → B) (r : Option (Bor A)) (o : Option A) → option_copied r ≡ o → option_map (λ h. f h.now) r ≡ option_map f o
lent f None o is = ap (option_map f) is
lent f (Some h) o is = ap (option_map f) is

-- what is lent of a lock is that lock
pub lent_lock : {lent : Option (Table × Keys × Held)} {held : Option (Table × Keys × Held)} {table : Table} {master : Option Keys} → lent ≡ held → IsLock held table master → IsLock lent table master
lent_lock {table = table} {master = master} same is = record { is = subst (λ (h : Option (Table × Keys × Held)). Holds h table master) (sym same) is.is }

-- a lock was opened, and the plan was done behind it so
pub lock_then : {A : Type 0} {held : A → Option (Table × Keys × Held)} {table : Table} {old mid : World} {l : A} (lock : Lock) (rest : Table → Option Keys → Plan) (new : World) (r : Result (Unit {0}) Status) → PassesLock held table (opens_lock table lock) old (Ok l) mid
    → ((master : Option Keys) → IsLock (held l) table master → Finishes (rest table master) mid r new) → Finishes (opens_lock table lock (rest table)) old r new
lock_then {table = table} {old = old} {mid = mid} lock rest new r opened done = let p = opened.passes in finishes_then (opens_lock table lock) (rest table) old mid new p.0 r p.2 (done p.0 p.1)

pub master_then : {A : Type 0} {held : A → Option (Table × Keys × Held)} {table : Table} {old mid : World} {l : A} (from : Origin) (m : Master) (rest : Table → Option Keys → Plan) (new : World) (r : Result (Unit {0}) Status) → PassesLock held table (opens_master from table m) old (Ok l) mid
    → ((master : Option Keys) → IsLock (held l) table master → Finishes (rest table master) mid r new) → Finishes (opens_master from table m (rest table)) old r new
master_then {table = table} {old = old} {mid = mid} from m rest new r opened done = let p = opened.passes in finishes_then (opens_master from table m) (rest table) old mid new p.0 r p.2 (done p.0 p.1)

-- or it wasn't
pub lock_ends : {A : Type 0} {held : A → Option (Table × Keys × Held)} {table : Table} {old new : World} {s : Status} (lock : Lock) (rest : Table → Option Keys → Plan) (r : Result (Unit {0}) Status) → IsErrAnd r (λ e. e ≡ s) → PassesLock held table (opens_lock table lock) old (Err s) new → Finishes (opens_lock table lock (rest table)) old r new
lock_ends {table = table} {old = old} {new = new} {s = s} lock rest r is opened = finished_there {A = Option Keys} (opens_lock table lock) (rest table) old new r s is opened.passes

pub master_ends : {A : Type 0} {held : A → Option (Table × Keys × Held)} {table : Table} {old new : World} {s : Status} (from : Origin) (m : Master) (rest : Table → Option Keys → Plan) (r : Result (Unit {0}) Status) → IsErrAnd r (λ e. e ≡ s) → PassesLock held table (opens_master from table m) old (Err s) new → Finishes (opens_master from table m (rest table)) old r new
master_ends {table = table} {old = old} {new = new} {s = s} from m rest r is opened = finished_there {A = Option Keys} (opens_master from table m) (rest table) old new r s is opened.passes

-- the same where a keyset is taken behind it
pub lock_passes : {A : Type 0} {held : A → Option (Table × Keys × Held)} {table : Table} {old mid : World} {l : A} (from : Origin) (lock : Lock) (place : KeysetFile) (new : World) (r : Result Keyset Status) → PassesLock held table (opens_lock table lock) old (Ok l) mid
    → ((master : Option Keys) → IsLock (held l) table master → Passes (takes_under from table master place) mid r new) → Passes (takes_locked from table lock place) old r new
lock_passes {table = table} {old = old} {mid = mid} from lock place new r opened done = let p = opened.passes in passes_then (opens_lock table lock) (λ master. takes_under from table master place) old mid new p.0 r p.2 (done p.0 p.1)

pub lock_passes_none : {A : Type 0} {held : A → Option (Table × Keys × Held)} {table : Table} {old new : World} {s : Status} (from : Origin) (lock : Lock) (place : KeysetFile) (r : Result Keyset Status) → IsErrAnd r (λ e. e ≡ s) → PassesLock held table (opens_lock table lock) old (Err s) new → Passes (takes_locked from table lock place) old r new
lock_passes_none {table = table} {old = old} {new = new} {s = s} from lock place r is opened = ends_there {A = Option Keys} (opens_lock table lock) (λ master. takes_under from table master place) old new r s is opened.passes

-- what is held of a lock serves, where it is a master
pub lock_over : (own : Table) (keys : Keys) (held : Held) → IsSomeLock (Some (own, keys, held)) → IsOver own Aead keys held
lock_over own keys held (table, None, is) = absurd is.is
lock_over own keys held (table, Some master, is) = subst (λ (k : Keys). IsOver own Aead k held) (sym is.is.1) is.is.2

pub lock_serves : (own : Table) (keys : Keys) (held : Held) → IsSomeLock (Some (own, keys, held)) → IsServing own Aead held
lock_serves own keys held some = (keys, lock_over own keys held some)

-- ---- a keyset under a lock

pub limit_of_some : (own : Table × Keys × Held) (table : Table) (master : Option Keys) → IsLock (Some own) table master → wrapped_limit ≡ limit_under master
limit_of_some own table (Some m) is = refl
limit_of_some own table None is = absurd is.is

pub limit_of_none : (table : Table) (master : Option Keys) → IsLock None table master → keyset_limit ≡ limit_under master
limit_of_none table None is = refl
limit_of_none table (Some m) is = absurd is.is

-- and so is the option that gives the master of a keyset that is put
pub put_behind_some : (own : Table × Keys × Held) (table : Table) (taken : Option Keys) → IsLock (Some own) table taken → origins.NewMaster ≡ put_origin taken
put_behind_some own table (Some m) is = refl
put_behind_some own table None is = absurd is.is

pub put_behind_none : (table : Table) (taken : Option Keys) → IsLock None table taken → origins.OnlyMaster ≡ put_origin taken
put_behind_none table None is = refl
put_behind_none table (Some m) is = absurd is.is

-- bytes are within the limit, whichever lock it is
abbrev pub IsWithin : Option (Table × Keys × Held) → (size : ℕ) → Type 0
IsWithin held size = (master : Option Keys) (table : Table) → IsLock held table master → size ≤ limit_under master

pub within_wrapped : (own : Table × Keys × Held) (size : ℕ) → IsSomeLock (Some own) → IsWithin (Some own) size → size ≤ wrapped_limit
within_wrapped own size (table, Some m, is) within = within (Some m) table is
within_wrapped own size (table, None, is) within = absurd is.is

pub within_clear : (size : ℕ) → IsSomeLock None → IsWithin None size → size ≤ keyset_limit
within_clear size (table, None, is) within = within None table is
within_clear size (table, Some m, is) within = absurd is.is

pub given_under : (from : Origin) (own : Table) (keys : Keys) (held : Held) (table : Table) (master : Option Keys) (form : Format) (bytes : List ℕ) (w : World) (r : Result Keyset Status) → IsLock (Some (own, keys, held)) table master → Passes (unwraps from keys own form bytes) w r w → Passes (keyset_under from table master form bytes) w r w
given_under from own keys held table (Some m) form bytes w r is passes = subst (λ (t : Table). Passes (unwraps from m t form bytes) w r w) is.is.0 (subst (λ (k : Keys). Passes (unwraps from k own form bytes) w r w) is.is.1 passes)
given_under from own keys held table None form bytes w r is passes = absurd is.is

pub given_in_clear : (from : Origin) (table : Table) (master : Option Keys) (form : Format) (bytes : List ℕ) (w : World) (r : Result Keyset Status) → IsLock None table master → Passes (keyset_in from form bytes) w r w → Passes (keyset_under from table master form bytes) w r w
given_in_clear from table None form bytes w r is passes = passes
given_in_clear from table (Some m) form bytes w r is passes = absurd is.is

-- ---- a keyset that is put under one

pub sealed_unwritten : (own : Table) (its : Keys) (held : Held) (table : Table) (master : Option Keys) (form : Format) (keys : Keys) (old new : World) (r : Result (List ℕ) Status) (s : Status) → IsLock (Some (own, its, held)) table master → IsErrAnd r (λ e. e ≡ s) → Passes {A = List ℕ} (writes_keyset formats.Binary keys) old (Err s) new → Passes (writes_under table master form keys) old r new
sealed_unwritten own its held table (Some m) form keys old new r s lock is one = ends_there (writes_keyset formats.Binary keys) (λ plain next. makes_wrapped keys m table form next) old new r s is one
sealed_unwritten own its held table None form keys old new r s lock is one = absurd lock.is

pub sealed_written : (own : Table) (its : Keys) (held : Held) (table : Table) (master : Option Keys) (form : Format) (keys : Keys) (old new : World) (plain : List ℕ) (r : Result (List ℕ) Status) → IsLock (Some (own, its, held)) table master → Passes (writes_keyset formats.Binary keys) old (Ok plain) old → ((m : Keys) → IsOver own Aead m held → Passes (makes_wrapped keys m own form) old r new) → Passes (writes_under table master form keys) old r new
sealed_written own its held table (Some m) form keys old new plain r lock one two =
    passes_then (writes_keyset formats.Binary keys) (λ plain next. makes_wrapped keys m table form next) old old new plain r one (subst (λ (t : Table). Passes (makes_wrapped keys m t form) old r new) lock.is.0 (two m lock.is.2))
sealed_written own its held table None form keys old new plain r lock one two = absurd lock.is

pub written_in_clear : (table : Table) (master : Option Keys) (form : Format) (keys : Keys) (old new : World) (r : Result (List ℕ) Status) → IsLock None table master → Passes (writes_keyset form keys) old r new → Passes (writes_under table master form keys) old r new
written_in_clear table None form keys old new r is passes = passes
written_in_clear table (Some m) form keys old new r is passes = absurd is.is

-- ---- the plans of commands that put a keyset, from some step on

abbrev pub creates_under : Table → KeysetFile → Row → Option Keys → Plan
creates_under table out row master = makes_keyset (first row) (puts_under table master out)

abbrev pub creates_row : Table → Lock → KeysetFile → Row → Plan
creates_row table lock out row = opens_lock table lock (creates_under table out row)

abbrev pub edits_keys : Table → KeysetFile → Edit → Option Keys → Keys → Plan
edits_keys table out edit master keys = makes_keyset (step keys edit) (puts_under table master out)

abbrev pub edits_under : Table → (in' out : KeysetFile) → Edit → Option Keys → Plan
edits_under table in' out edit master = takes_under origins.In table master in' (edits_keys table out edit master)

abbrev pub edits_with : Table → Lock → (in' out : KeysetFile) → Edit → Plan
edits_with table lock in' out edit = opens_lock table lock (edits_under table in' out edit)

abbrev pub converts_to : Table → (in' out : KeysetFile) → (taken put : Option Keys) → Plan
converts_to table in' out taken put = takes_under origins.In table taken in' (puts_under table put out)

abbrev pub converts_under : Table → NewLock → (in' out : KeysetFile) → Option Keys → Plan
converts_under table new in' out taken = opens_new_lock table new taken (converts_to table in' out taken)

abbrev pub holds_under : Table → (name : List ℕ) → Format → (out : KeysetFile) → (saved_only : Bool) → Option Keys → Plan
holds_under table name form out saved_only master = takes_under origins.Keyset table master (record { file = Some name; form = form }) (holds_session table master out saved_only)

-- ---- a session under a lock

pub holds_ends : {held : Option (Table × Keys × Held)} {table : Table} {master : Option Keys} (name : List ℕ) (form : Format) (out : KeysetFile) (saved_only : Bool) (old new : World) (r : Result (Unit {0}) Status) (s : Status) → IsLock held table master → IsErrAnd r (λ e. e ≡ s) → Passes {A = Keys} (takes_under origins.Keyset table master (record { file = Some name; form = form })) old (Err s) new → Finishes (holds_under table name form out saved_only master) old r new
holds_ends {table = table} {master = master} name form out saved_only old new r s lock is one = finished_there {A = Keys} (takes_under origins.Keyset table master (record { file = Some name; form = form })) (holds_session table master out saved_only) old new r s is one

pub holds_then : {held : Option (Table × Keys × Held)} {table : Table} {master : Option Keys} (name : List ℕ) (form : Format) (out : KeysetFile) (saved_only : Bool) (old mid new : World) (keyset : Keyset) (r : Result (Unit {0}) Status) → IsLock held table master → Passes (takes_under origins.Keyset table master (record { file = Some name; form = form })) old (Ok keyset) mid → Finishes (holds_session table master out saved_only keyset) mid r new → Finishes (holds_under table name form out saved_only master) old r new
holds_then {table = table} {master = master} name form out saved_only old mid new keyset r lock one two = finishes_then {A = Keys} (takes_under origins.Keyset table master (record { file = Some name; form = form })) (holds_session table master out saved_only) old mid new keyset r one two

pub not_free : {held : Option (Table × Keys × Held)} {table : Table} {master : Option Keys} (out : KeysetFile) (saved_only : Bool) (keys : Keys) (old new : World) (r : Result (Unit {0}) Status) (s : Status) → IsLock held table master → IsErrAnd r (λ e. e ≡ s) → Passes {A = Unit {0}} (finds_free out.file) old (Err s) new → Finishes (holds_session table master out saved_only keys) old r new
not_free {table = table} {master = master} out saved_only keys old new r s lock is one = finished_there {A = Unit {0}} (finds_free out.file) (λ free. exchanges (saving_session table master out.form saved_only keys) (saves table master out)) old new r s is one

pub free_then : {held : Option (Table × Keys × Held)} {table : Table} {master : Option Keys} (out : KeysetFile) (saved_only : Bool) (keys : Keys) (old mid new : World) (r : Result (Unit {0}) Status) → IsLock held table master → Passes (finds_free out.file) old (Ok tt) mid → Finishes (exchanges (saving_session table master out.form saved_only keys) (saves table master out)) mid r new → Finishes (holds_session table master out saved_only keys) old r new
free_then {table = table} {master = master} out saved_only keys old mid new r lock one two = finishes_then (finds_free out.file) (λ free. exchanges (saving_session table master out.form saved_only keys) (saves table master out)) old mid new tt r one two
