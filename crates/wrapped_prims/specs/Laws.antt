-- The laws of what keysets answer, over the definitions alone.
use Rattle.std.specs.Prelude.{◌≡◌, ℕ, List, [], ◌∷◌, map, take, drop, Option, Some, None, true, slice_get}
use Rattle.std.specs.List.{AllByRecursion}
use Rattle.key_msgs.specs.declared.key.KeyKind.{KeyKind}
use Rattle.key_msgs.specs.declared.primitive.Primitive.{Primitive}
use Rattle.key_msgs.specs.declared.primitive.Primitive.TheVariants.{Aead, Daead}
use Rattle.keyset_model.specs.Keyset.{Keys, fault_of, primary_of}
use Rattle.keyset_model.specs.declared.record.Record.{Record}
use Rattle.managers.specs.Laws.{IsFor}
use Rattle.managers.specs.Table.{Table}
use Rattle.wrapped_prims.specs.Answers.{Sealed, dopen_answer, dseal_answer, open_answer, seal_answer, tag_answer, verify_answer}
use Rattle.wrapped_prims.specs.Candidates.{candidates, enabled_with, prefix_of}
use Rattle.wrapped_prims.specs.Fitness.{key_of_record}
use Rattle.wrapped_prims.specs.Making.{HasWordId}
use Rattle.wrapped_prims.specs.Prefixes.{places_of, places_under, prefix_index}

-- no fault of a keyset holds, and ids are numbers of 32 bits
pub record IsKeyset (keys : Keys) : Type 0 where
  pub faultless : fault_of keys ≡ None
  pub words : AllByRecursion HasWordId keys.records

-- Where exactly one ENABLED record has the prefix with which the bytes begin, that record is the first
-- candidate, with the rest.
abbrev pub SoleFirst : Type 0
SoleFirst = (keys : Keys) (bytes : List ℕ) (r : Record)
    → enabled_with (Some (take 5 bytes)) keys.records ≡ r ∷ []
    → slice_get (candidates keys bytes) 0 ≡ Some (r, drop 5 bytes)

-- the records at the places that have a prefix, or none, are the ENABLED records with it, in order
abbrev pub PlacesGive : Type 0
PlacesGive = (prefix : Option (List ℕ)) (records : List Record)
    → map (slice_get records) (places_of prefix records) ≡ map Some (enabled_with prefix records)

-- a look-up in the index of a keyset gives the places that have the prefix. So the first five bytes of
-- some bytes give those of the candidates before the RAW ones.
abbrev pub IndexFinds : Type 0
IndexFinds = (prefix : List ℕ) (records : List Record)
    → places_under prefix (prefix_index records) ≡ places_of (Some prefix) records

-- the second record is ENABLED, with all that makes the key of the first
pub record IsSameKey (r s : Record) : Type 0 where
  pub enabled : s.status ≡ 1
  pub id : s.id ≡ r.id
  pub prefix : s.prefix ≡ r.prefix
  pub url : s.url ≡ r.url
  pub value : s.value ≡ r.value
  pub material : s.material ≡ r.material

-- the keyset has the key of that record, ENABLED
pub record HasKey (r : Record) (keys : Keys) : Type 0 where
  pub place : ℕ
  pub other : Record
  pub there : slice_get keys.records place ≡ Some other
  pub same : IsSameKey r other

-- Exactly one ENABLED record of the keyset has the prefix of that record, and it is that record's key.
-- It is said of records that have a prefix.
pub record HasSameKey (r : Record) (keys : Keys) : Type 0 where
  pub only : Record
  pub alone : enabled_with (prefix_of r) keys.records ≡ only ∷ []
  pub same : IsSameKey r only

-- the key of that record under the table is a valid one of the primitive
abbrev pub GivesKeyFor : Table → Primitive → Record → Type 0
GivesKeyFor table primitive r =
    (key : KeyKind) × (key_of_record table primitive r ≡ Some key) × IsFor primitive key

-- What the primary record of an old keyset sealed, a new one opens in which that key is alone under its
-- prefix. The record has a prefix.
abbrev pub SameKeyOpens : Type 0
SameKeyOpens = (table : Table) (old new : Keys) (r : Record) (prefix plain ad random : List ℕ)
    (sealed : Sealed) → primary_of old ≡ Some r → prefix_of r ≡ Some prefix
    → GivesKeyFor table Aead r → HasSameKey r new
    → seal_answer old table plain ad random ≡ Some sealed
    → open_answer new table sealed.bytes ad ≡ Some plain

-- the same without an IV
abbrev pub SameKeyDopens : Type 0
SameKeyDopens = (table : Table) (old new : Keys) (r : Record) (prefix plain ad sealed : List ℕ)
    → primary_of old ≡ Some r → prefix_of r ≡ Some prefix
    → GivesKeyFor table Daead r → HasSameKey r new
    → dseal_answer old table plain ad ≡ Some sealed
    → dopen_answer new table sealed ad ≡ Some plain

-- Where a new one has that key, of any prefix type, it opens the bytes to some plaintext: another key
-- with that prefix, or a RAW one, may open them by chance.
abbrev pub EnabledKeyOpens : Type 0
EnabledKeyOpens = (table : Table) (old new : Keys) (r : Record) (plain ad random : List ℕ)
    (sealed : Sealed) → primary_of old ≡ Some r → GivesKeyFor table Aead r → HasKey r new
    → seal_answer old table plain ad random ≡ Some sealed
    → (other : List ℕ) × (open_answer new table sealed.bytes ad ≡ Some other)

-- the same without an IV
abbrev pub EnabledKeyDopens : Type 0
EnabledKeyDopens = (table : Table) (old new : Keys) (r : Record) (plain ad sealed : List ℕ)
    → primary_of old ≡ Some r → GivesKeyFor table Daead r → HasKey r new
    → dseal_answer old table plain ad ≡ Some sealed
    → (other : List ℕ) × (dopen_answer new table sealed ad ≡ Some other)

-- a tag of the primary record of an old keyset verifies under a new one with that key, of any prefix
-- type
abbrev pub SameKeyVerifies : Type 0
SameKeyVerifies = (table : Table) (old new : Keys) (r : Record) (tag body : List ℕ)
    → primary_of old ≡ Some r → HasKey r new → tag_answer old table body ≡ Some tag
    → verify_answer new table tag body ≡ true
