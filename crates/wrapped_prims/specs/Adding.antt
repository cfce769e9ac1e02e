-- What a handle holds while its keyset's records are added, one after another, or while the places of what it
-- keeps are listed anew.
use Rattle.std.specs.Prelude.{◌≡◌, ℕ, List, [], ◌∷◌, ◌++◌, drop, map, filter, not, is_some, Option, Some, None, slice_get}
use Rattle.std.specs.List.{AllByRecursion, IsDistinct}
use Rattle.std.specs.Map.{keys_of, lookup, set_value}
use Rattle.std.specs.Str.{bytes_eq}
use Rattle.key_msgs.specs.declared.primitive.Primitive.{Primitive}
use Rattle.keyset_model.specs.Keyset.{Keys, primary_of}
use Rattle.keyset_model.specs.declared.record.Record.{Record}
use Rattle.managers.specs.Table.{Table}
use Rattle.wrapped_prims.specs.Fitness.{unfit, unfit_from}
use Rattle.wrapped_prims.specs.Held.{AreServed, kept_of}
use Rattle.wrapped_prims.specs.Making.{HasWordId}
use Rattle.wrapped_prims.specs.Prefixes.{Index, places_from, places_of, prefix_index, prefixes}
use Rattle.wrapped_prims.specs.declared.held.Held.{Held}
use Rattle.wrapped_prims.specs.declared.held.Kept.{Kept}

-- nothing is held yet but the place of the primary record
pub record IsOfNone (at : ℕ) (held : Held) : Type 0 where
  pub slots : held.slots.items ≡ []
  pub index : held.index.entries ≡ []
  pub raw : held.raw.items ≡ []
  pub primary : held.primary ≡ at

-- an index with a place under a prefix, by what a look-up of the prefix gives
abbrev pub noted_behind : Option (List ℕ) → List ℕ → ℕ → Index → Index
noted_behind None prefix place index = index ++ (prefix, place ∷ []) ∷ []
noted_behind (Some places) prefix place index =
    set_value (bytes_eq prefix) index (places ++ place ∷ [])

-- an index with a place under a prefix, behind those that are there
abbrev pub noted : List ℕ → ℕ → Index → Index
noted prefix place index = noted_behind (lookup (bytes_eq prefix) index) prefix place index

-- the place of a kept key with this prefix, or with none, is kept where it is looked for
abbrev pub IsPlacedBy : Option (List ℕ) → ℕ → (old new : Held) → Type 0
IsPlacedBy None place old new =
    (new.index.entries ≡ old.index.entries) × (new.raw.items ≡ old.raw.items ++ place ∷ [])
IsPlacedBy (Some prefix) place old new = (new.index.entries ≡ noted prefix place old.index.entries)
    × (new.raw.items ≡ old.raw.items) × IsDistinct bytes_eq (keys_of old.index.entries)

-- the same of what is kept of a record
abbrev pub IsPlaced : Option Kept → ℕ → (old new : Held) → Type 0
IsPlaced None place old new =
    (new.index.entries ≡ old.index.entries) × (new.raw.items ≡ old.raw.items)
IsPlaced (Some kept) place old new = IsPlacedBy kept.prefix place old new

-- what is kept of the record of this place is added
pub record IsAdded (slot : Option Kept) (place : ℕ) (old new : Held) : Type 0 where
  pub slots : new.slots.items ≡ old.slots.items ++ slot ∷ []
  pub placed : IsPlaced slot place old new
  pub primary : new.primary ≡ old.primary

-- the place of what is kept at a place is kept where it is looked for
abbrev pub IsListedAt : ℕ → (old new : Held) → Type 0
IsListedAt place old new =
    (slot : Option Kept) → slice_get old.slots.items place ≡ Some slot → IsPlaced slot place old new

-- an index, and behind it the places of records the first of which has this place
abbrev pub indexed_from : ℕ → Index → List Record → Index
indexed_from i index rest =
    map (λ entry. (entry.0, entry.1 ++ places_from i (Some entry.0) rest)) index
    ++ map (λ prefix. (prefix, places_from i (Some prefix) rest))
    (filter (λ prefix. not (is_some (lookup (bytes_eq prefix) index))) (prefixes rest))

-- the records before `rest` can serve, and are held
pub record IsKept (table : Table) (primitive : Primitive) (keys : Keys) (rest : List Record) (i : ℕ)
    (held : Held) : Type 0 where
  pub fit : unfit keys primitive table ≡ unfit_from i table primitive rest
  pub kept :
      held.slots.items ++ map (kept_of table primitive) rest
      ≡ map (kept_of table primitive) keys.records
  pub index : indexed_from i held.index.entries rest ≡ prefix_index keys.records
  pub raw : held.raw.items ++ places_from i None rest ≡ places_of None keys.records
  pub primary : slice_get keys.records held.primary ≡ primary_of keys
  pub served : AreServed table primitive held.slots.items
  pub words : AllByRecursion HasWordId rest → AllByRecursion HasWordId keys.records

-- these are what is kept of the records of a keyset that can serve
abbrev pub AreKeptOf : List (Option Kept) → Table → Primitive → Keys → Type 0
AreKeptOf slots table primitive keys =
    (unfit keys primitive table ≡ None) × (slots ≡ map (kept_of table primitive) keys.records)

-- of any keyset of which these are kept, all places are held
pub record IsOfSlots (slots : List (Option Kept)) (primary : ℕ) (held : Held) : Type 0 where
  pub slots' : held.slots.items ≡ slots
  pub primary' : held.primary ≡ primary
  pub index : (table : Table) (primitive : Primitive) (keys : Keys)
      → AreKeptOf slots table primitive keys → held.index.entries ≡ prefix_index keys.records
  pub raw : (table : Table) (primitive : Primitive) (keys : Keys)
      → AreKeptOf slots table primitive keys → held.raw.items ≡ places_of None keys.records

-- the places below this one are held
pub record IsListing (slots : List (Option Kept)) (primary i : ℕ) (held : Held) : Type 0 where
  pub slots' : held.slots.items ≡ slots
  pub primary' : held.primary ≡ primary
  pub index : (table : Table) (primitive : Primitive) (keys : Keys)
      → AreKeptOf slots table primitive keys
      → indexed_from i held.index.entries (drop i keys.records) ≡ prefix_index keys.records
  pub raw : (table : Table) (primitive : Primitive) (keys : Keys)
      → AreKeptOf slots table primitive keys
      → held.raw.items ++ places_from i None (drop i keys.records) ≡ places_of None keys.records
