-- What making a handle says.
use Rattle.std.specs.Prelude.{◌≡◌, ◌<◌, ◌^◌, ℕ, List, map, Option, Some, None, Result, Ok, Err, slice_get}
use Rattle.std.specs.List.{AllByRecursion}
use Rattle.key_msgs.specs.declared.key.KeyKind.{KeyKind}
use Rattle.key_msgs.specs.declared.primitive.Primitive.{Primitive}
use Rattle.keyset_model.specs.Keyset.{Keys, primary_of, fault_of}
use Rattle.keyset_model.specs.declared.record.Record.{Record}
use Rattle.managers.specs.Schemes.{IsReading, key_under}
use Rattle.managers.specs.Table.{Entry, Table}
use Rattle.managers.specs.declared.interfaces.CheckFault.{CheckFault}
use Rattle.wrapped_prims.specs.Fitness.{Unfit, fault_of_record, unfit}
use Rattle.wrapped_prims.specs.Fitness as fitness
use Rattle.wrapped_prims.specs.Held.{AreServed, IsServed, kept_of}
use Rattle.wrapped_prims.specs.Prefixes.{places_of, prefix_index}
use Rattle.wrapped_prims.specs.declared.handle.HandleError.{HandleError}
use Rattle.wrapped_prims.specs.declared.handle.HandleError.TheVariants as faults
use Rattle.wrapped_prims.specs.declared.held.Held.{Held}
use Rattle.wrapped_prims.specs.declared.held.Kept.{Kept}

-- the record at fault is answered, with its first fault. Of want of memory nothing is said.
abbrev pub IsFaultOf : Option (ℕ × Unfit) → HandleError → Type 0
IsFaultOf found (faults.NoManager i) = found ≡ Some (i, fitness.NoManager)
IsFaultOf found (faults.BadKey i rule) = found ≡ Some (i, fitness.BadKey rule)
IsFaultOf found (faults.NotRaw i) = found ≡ Some (i, fitness.NotRaw)
IsFaultOf found faults.NoMemory = Unit {0}

-- the id is a number of 32 bits
abbrev pub HasWordId : Record → Type 0
HasWordId r = r.id < 2 ^ 32

-- what is held is a faultless keyset of which each record can serve, under this table
pub record IsOver (table : Table) (primitive : Primitive) (keys : Keys) (held : Held) : Type 0 where
  pub fit : unfit keys primitive table ≡ None
  pub faultless : fault_of keys ≡ None
  pub kept : held.slots.items ≡ map (kept_of table primitive) keys.records
  pub primary : slice_get keys.records held.primary ≡ primary_of keys
  pub index : held.index.entries ≡ prefix_index keys.records
  pub raw : held.raw.items ≡ places_of None keys.records
  pub served : AreServed table primitive held.slots.items
  pub words : AllByRecursion HasWordId keys.records

-- what the manager with this entry answers
abbrev pub IsCheckedBy : Option Entry → List ℕ → Result KeyKind CheckFault → Type 0
IsCheckedBy None value outcome = ⊥
IsCheckedBy (Some entry) value outcome = IsReading (key_under entry.scheme value) outcome

-- what is kept of the record of this place, or its fault
abbrev pub IsKeeping : Table → Primitive → Record → ℕ → Result (Option Kept) HandleError → Type 0
IsKeeping table primitive r i (Ok slot) =
    (fault_of_record table primitive r ≡ None) × (slot ≡ kept_of table primitive r)
    × IsServed table primitive slot
IsKeeping table primitive r i (Err (faults.NoManager j)) =
    (j ≡ i) × (fault_of_record table primitive r ≡ Some fitness.NoManager)
IsKeeping table primitive r i (Err (faults.BadKey j rule)) =
    (j ≡ i) × (fault_of_record table primitive r ≡ Some (fitness.BadKey rule))
IsKeeping table primitive r i (Err (faults.NotRaw j)) =
    (j ≡ i) × (fault_of_record table primitive r ≡ Some fitness.NotRaw)
IsKeeping table primitive r i (Err faults.NoMemory) = Unit {0}
