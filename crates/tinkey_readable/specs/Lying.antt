-- Where a keyset lies, in clear or sealed under a master, and where one fits.
--
--   LiesThere     a keyset lies at a place, in clear or under a master
--   OpensLock     what a lock opens to: the keyset of its master, or without a lock none
--   OpensNewLock  the same of the lock that a keyset is put under
--   LiesBehind    a keyset lies behind a lock, or without one in clear
--   FitsThere     a keyset can be written, in clear or under a master
--   FileGives     a file is a keyset, or gives one behind its lock, whether a command takes it or not
--   Lying         a keyset as it lies outside, in clear or under a master
--   LiesAs        it lies so in the files of a run
use Rattle.std.specs.Prelude.{◌≡◌, ℕ, ◌≤◌, List, length, Option, Some, None, Ok}
use Rattle.std.specs.FinMap as map
use Rattle.key_msgs.specs.declared.primitive.Primitive.TheVariants.{Aead}
use Rattle.keyset_model.specs.Keyset.{Keys}
use Rattle.keyset_model.specs.Writing.{binary_of}
use Rattle.managers.specs.Standard.{standard_table}
use Rattle.managers.specs.Table.{Table}
use Rattle.seal_wrap.specs.Unwrapped.{unwrap_of}
use Rattle.seal_wrap.specs.Wrapped.{Wrapped, wrap_of}
use Rattle.wrapped_prims.specs.Fitness.{unfit}
use Rattle.tinkey_plans.specs.Locks.{limit_under}
use Rattle.tinkey_plans.specs.Plan.{Told}
use Rattle.tinkey_plans.specs.Steps.{keyset_limit, written_in}
use Rattle.tinkey_plans.specs.Wrapping.{is_json, wrapped_limit}
use Rattle.tinkey_words.specs.declared.words.rows.Format.{Format}
use Rattle.tinkey_words.specs.Words.{Lock, Master, NewLock, KeysetFile, as_taken, in_clear, under}
use Rattle.tinkey_readable.specs.Runs.{LiesIn, Written, bytes_at, keyset_of, read_in}

-- these bytes are that keyset, in this form, or they give it under a master
abbrev pub GivesKeyset : Table → (master : Option Keys) → Format → List ℕ → Keys → Type 0
GivesKeyset table None form bytes keys = read_in form bytes ≡ Some keys
GivesKeyset table (Some over) form bytes keys = unwrap_of over table bytes (is_json form) ≡ Ok keys

-- A keyset lies in the file of this place, or where none is named, in the input, in clear or under a master:
-- it is there, within its limit, and well formed.
pub record LiesThere (table : Table) (master : Option Keys) (place : KeysetFile) (told : Told) (keys : Keys)
    : Type 0 where
  pub bytes : List ℕ
  pub there : bytes_at place.file told.files told.input ≡ Some bytes
  pub within : length bytes ≤ limit_under master
  pub gives : GivesKeyset table master place.form bytes keys

-- the keyset of a master lies in its file, in clear, and its ENABLED records can all serve as AEADs
pub record OpensMaster (table : Table) (master : Master) (told : Told) (over : Keys) : Type 0 where
  pub lies : LiesThere table None (record { file = Some master.file; form = master.form }) told over
  pub fit : unfit over Aead table ≡ None

-- the lock opens to that keyset; without a lock there is none
abbrev pub OpensLock : Table → Lock → Told → (master : Option Keys) → Type 0
OpensLock table None told None = Unit {0}
OpensLock table (Some lock) told (Some over) = OpensMaster table lock told over
OpensLock table _ told _ = ⊥

-- A keyset that was taken under one master, or in clear, is put under the same; in clear; or under the master
-- of this lock.
abbrev pub OpensNewLock : Table → NewLock → (taken : Option Keys) → Told → (put : Option Keys) → Type 0
OpensNewLock table as_taken taken told put = taken ≡ put
OpensNewLock table in_clear taken told put = None ≡ put
OpensNewLock table (under master) taken told put = OpensLock table (Some master) told put

-- a keyset lies behind a lock, or without one in clear
pub record LiesBehind (table : Table) (lock : Lock) (place : KeysetFile) (told : Told) (keys : Keys)
    : Type 0 where
  pub master : Option Keys
  pub opens : OpensLock table lock told master
  pub lies : LiesThere table master place told keys

-- A keyset can be sealed under a master: its binary form is within the limit of a keyset, and the random bytes
-- suffice for a text of it, which is within the limit of those.
pub record SealsUnder (table : Table) (over : Keys) (form : Format) (keys : Keys) (random : List ℕ)
    : Type 0 where
  pub within : length (binary_of keys) ≤ keyset_limit
  pub wrapped : Wrapped
  pub made : wrap_of keys over table random (is_json form) ≡ Some wrapped
  pub short : length wrapped.text ≤ wrapped_limit

-- a keyset is within the limit in its form, or where it is put under a master, it can be sealed so
abbrev pub FitsThere : Table → (master : Option Keys) → Format → Keys → (random : List ℕ) → Type 0
FitsThere table None form keys random = length (written_in form keys) ≤ keyset_limit
FitsThere table (Some over) form keys random = SealsUnder table over form keys random

-- the keyset in the file of a lock, whether it can serve or not; without a lock there is none
abbrev pub MasterThere : Lock → Told → (master : Option Keys) → Type 0
MasterThere None told None = Unit {0}
MasterThere (Some lock) told (Some over) = (bytes : List ℕ)
    × (map.get told.files lock.file ≡ Some bytes) × (read_in lock.form bytes ≡ Some over)
MasterThere _ told _ = ⊥

-- The file of this name is that keyset, or gives it under the keyset of the lock. Of limits nothing is said,
-- nor of what can serve.
pub record FileGives (table : Table) (lock : Lock) (name : List ℕ) (form : Format) (told : Told)
    (keys : Keys) : Type 0 where
  pub master : Option Keys
  pub read : MasterThere lock told master
  pub bytes : List ℕ
  pub there : map.get told.files name ≡ Some bytes
  pub gives : GivesKeyset table master form bytes keys

-- ---- a keyset outside

-- a keyset as it lies outside: in clear, or as a text under a master, which lies in clear itself
pub record Lying : Type 0 where
  pub master : Option Written
  pub text : Written

-- in clear
abbrev pub clear : Written → Lying
clear written = record { master = None; text = written }

-- as that text, under that master
abbrev pub sealed_under : (master text : Written) → Lying
sealed_under master text = record { master = Some master; text = text }

-- the keyset of its master, where there is one
abbrev pub IsMaster : Option Written → Option Keys → Type 0
IsMaster None None = Unit {0}
IsMaster (Some written) (Some over) = keyset_of written ≡ Some over
IsMaster _ _ = ⊥

-- this keyset lies so
pub record Lies (lying : Lying) (keys : Keys) : Type 0 where
  pub master : Option Keys
  pub read : IsMaster lying.master master
  pub gives : GivesKeyset standard_table master lying.text.form lying.text.bytes keys

-- the lock of a keyset that lies so, where the master lies in the file of this name
abbrev pub lock_in : Option Written → (file : List ℕ) → Lock
lock_in None file = None
lock_in (Some master) file = Some (record { file = file; form = master.form })

-- the master, where there is one, lies in that file
abbrev pub MasterLiesIn : Option Written → Told → (file : List ℕ) → Type 0
MasterLiesIn None told file = Unit {0}
MasterLiesIn (Some master) told file = LiesIn master told file

-- both lie in the files of a run
pub record LiesAs (lying : Lying) (told : Told) (lock name : List ℕ) : Type 0 where
  pub opens : MasterLiesIn lying.master told lock
  pub lies : LiesIn lying.text told name
