-- Keysets in clear, or under the lock of a master, as steps of plans. Each command takes a keyset and puts
-- one by these, with a lock or without.
use Rattle.std.specs.Prelude.{◌≡◌, ℕ, List, Option, Some, None, Result, Ok, Err}
use Rattle.key_msgs.specs.declared.primitive.Primitive.TheVariants.{Aead}
use Rattle.keyset_model.specs.Keyset.{Keys}
use Rattle.managers.specs.Table.{Table}
use Rattle.wrapped_prims.specs.Making.{IsOver}
use Rattle.wrapped_prims.specs.declared.held.Held.{Held}
use Rattle.tinkey_plans.specs.Ends.{World}
use Rattle.tinkey_plans.specs.Plan.{Plan}
use Rattle.tinkey_plans.specs.Steps.{keyset_in, keyset_limit, origin_of, puts, takes_bytes, writes_keyset, Passes}
use Rattle.tinkey_plans.specs.Wrapping.{loads_master, makes_wrapped, unwraps, wrapped_limit}
use Rattle.tinkey_plans.specs.declared.origin.Origin.{Origin}
use Rattle.tinkey_plans.specs.declared.origin.Origin.TheVariants as origins
use Rattle.tinkey_plans.specs.declared.status.Status.{Status}
use Rattle.tinkey_words.specs.declared.words.rows.Format.{Format}
use Rattle.tinkey_words.specs.declared.words.rows.Format.TheVariants as formats
use Rattle.tinkey_words.specs.Words.{Lock, Master, NewLock, KeysetFile, as_taken, in_clear, under}

-- the keyset of this master, which this option gives, and each ENABLED record of which can serve as an AEAD
abbrev pub opens_master : Origin → Table → Master → (Option Keys → Plan) → Plan
opens_master from table master next =
    loads_master from table master.file master.form (λ keys. next (Some keys))

-- that of the lock; without a lock there is none
abbrev pub opens_lock : Table → Lock → (Option Keys → Plan) → Plan
opens_lock table None next = next None
opens_lock table (Some master) next = opens_master origins.Master table master next

-- The option that gives the master for a keyset that is put, by that of the one that is taken. Without one it is
-- the only master: wrap-keyset calls it --master, and convert-keyset --new-master.
abbrev pub put_origin : (taken : Option Keys) → Origin
put_origin None = origins.OnlyMaster
put_origin (Some master) = origins.NewMaster

-- the master's keyset for a keyset that is put, where this is that of the one that is taken
abbrev pub opens_new_lock : Table → NewLock → Option Keys → (Option Keys → Plan) → Plan
opens_new_lock table as_taken taken next = next taken
opens_new_lock table in_clear taken next = next None
opens_new_lock table (under master) taken next = opens_master (put_origin taken) table master next

-- how many bytes may be read as a keyset, and as one that is sealed under a master
abbrev pub limit_under : (master : Option Keys) → ℕ
limit_under None = keyset_limit
limit_under (Some master) = wrapped_limit

-- the keyset that these bytes are, in this form, or that they give under a master
abbrev pub keyset_under : Origin → Table → (master : Option Keys) → Format → List ℕ → (Keys → Plan) → Plan
keyset_under from table None form bytes next = keyset_in from form bytes next
keyset_under from table (Some master) form bytes next = unwraps from master table form bytes next

-- the keyset that lies at this place, in clear or under a master; its file, where it has one, is what this
-- option gives
abbrev pub takes_under : Origin → Table → (master : Option Keys) → KeysetFile → (Keys → Plan) → Plan
takes_under from table master place next =
    takes_bytes from (limit_under master) place.file (λ bytes.
    keyset_under (origin_of from place.file) table master place.form bytes next)

-- the same of a lock, which is opened before the keyset is taken
abbrev pub takes_locked : Origin → Table → Lock → KeysetFile → (Keys → Plan) → Plan
takes_locked from table lock place next =
    opens_lock table lock (λ master. takes_under from table master place next)

-- the same of the file of this name, which --keyset gives
abbrev pub loads_locked : Table → Lock → List ℕ → Format → (Keys → Plan) → Plan
loads_locked table lock name form next =
    takes_locked origins.Keyset table lock (record { file = Some name; form = form }) next

-- The keyset as it is put: written in this form, or under a master as an encrypted keyset of this form, the
-- IV of which is the last that is drawn. One whose binary form is longer than what is read as a keyset is
-- refused, so that what is sealed can be read again.
abbrev pub writes_under : Table → (master : Option Keys) → Format → Keys → (List ℕ → Plan) → Plan
writes_under table None form keys next = writes_keyset form keys next
writes_under table (Some master) form keys next =
    writes_keyset formats.Binary keys (λ plain. makes_wrapped keys master table form next)

-- it becomes a new file, or where none is named, goes to the sink
abbrev pub puts_under : Table → (master : Option Keys) → KeysetFile → Keys → Plan
puts_under table master place keys = writes_under table master place.form keys (puts place.file)

-- What is held of a lock, with the table that it is held under, is a master's keyset, with its keys, which can
-- serve; without a lock, nothing is held.
abbrev pub Holds : Option (Table × Keys × Held) → Table → (master : Option Keys) → Type 0
Holds None table None = Unit {0}
Holds (Some (own, keys, held)) table (Some master) =
    (own ≡ table) × (keys ≡ master) × IsOver own Aead master held
Holds _ table master = ⊥

-- so it is held
pub record IsLock (held : Option (Table × Keys × Held)) (table : Table) (master : Option Keys) : Type 0 where
  pub is : Holds held table master

-- what is held is some lock
abbrev pub IsSomeLock : Option (Table × Keys × Held) → Type 0
IsSomeLock held = (table : Table) × (master : Option Keys) × IsLock held table master

-- a step that opens a lock gave what is held of it, or ended the whole
abbrev pub Opens : {A : Type 0} → (A → Option (Table × Keys × Held)) → Table
    → ((Option Keys → Plan) → Plan) → World → Result A Status → World → Type 0
Opens held table step old (Ok lock) new =
    (master : Option Keys) × IsLock (held lock) table master × Passes step old (Ok master) new
Opens held table step old (Err s) new = Passes {A = Option Keys} step old (Err s) new

-- it did so
pub record PassesLock {A : Type 0} (held : A → Option (Table × Keys × Held)) (table : Table)
    (step : (Option Keys → Plan) → Plan) (old : World) (result : Result A Status) (new : World)
    : Type 0 where
  pub passes : Opens held table step old result new
