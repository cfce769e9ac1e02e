-- What it says of records that no fault of a keyset holds, apart from how faults are looked for.
use Rattle.std.specs.Prelude.{◌≡◌, ◌↔◌, ◌⊎◌, ℕ, ◌≤◌, List, length, Some, None, slice_get}
use Rattle.std.specs.List.{AllByRecursion}
use Rattle.keyset_model.specs.declared.record.Record.{Record}
use Rattle.keyset_model.specs.Keyset.{Keys, IsKnown, primary_of, fault_of}

-- the record is ENABLED and has this id
abbrev pub IsPrimary : ℕ → Record → Type 0
IsPrimary id r = (r.id ≡ id) × (r.status ≡ 1)

-- two places of ENABLED records with this id are one place
abbrev pub HasOneOf : ℕ → List Record → Type 0
HasOneOf id records = (i j : ℕ) (r s : Record)
    → slice_get records i ≡ Some r → slice_get records j ≡ Some s
    → IsPrimary id r → IsPrimary id s → i ≡ j

-- the key material type has a name and there is a URL, or the record is DESTROYED
pub record HasData (r : Record) : Type 0 where
  pub most_material : r.material ≤ 4
  pub material : (1 ≤ r.material) ⊎ (r.status ≡ 3)
  pub url : (1 ≤ length r.url) ⊎ (r.status ≡ 3)

-- 1 to 1,000 records, each of which is known and has its data; one is ENABLED and has the primary id, and
-- no other one is. Ids may repeat otherwise.
pub record IsWellFormed (keys : Keys) : Type 0 where
  pub least : 1 ≤ length keys.records
  pub most : length keys.records ≤ 1000
  pub known : AllByRecursion IsKnown keys.records
  pub has_data : AllByRecursion HasData keys.records
  pub primary : (r : Record) × (primary_of keys ≡ Some r) × (r.id ≡ keys.primary) × (r.status ≡ 1)
  pub one_primary : HasOneOf keys.primary keys.records

-- keys have no fault exactly where they are well formed
abbrev pub FaultlessKeysets : Type 0
FaultlessKeysets = (keys : Keys) → (fault_of keys ≡ None) ↔ IsWellFormed keys
