-- Keysets (tink.proto): a primary id and a list of records.
--
--   Keys          a primary id and records, whatever they are
--   is_primary    the record is ENABLED and has the primary id
--   primary_of    the first such record, if there is one
--   first_without the place of the first record that fails a test
--   first_two     the places of the first two records that pass a test
--   fault_of      the first of nine faults, by which they are no keyset, or none
--   built         the keyset, or that fault
--
-- Places are counted from 0.
use Rattle.std.specs.Prelude.{ℕ, suc, ◌+◌, ◌≤◌, ◌^◌, List, [], ◌∷◌, length, drop, Bool, not, ◌&&◌, ◌||◌, ◌==◌, nat_lt, nat_le, Option, Some, None, option_map, Result, Ok, Err, find, position, if◌then◌else◌}
use Rattle.std.specs.Option.{option_and_then, option_or}
use Rattle.std.specs.List.{list_any}
use Rattle.keyset_model.specs.declared.record.Record.{Record}
use Rattle.keyset_model.specs.declared.keyset.KeysetRefusal.{KeysetRefusal}
use Rattle.keyset_model.specs.declared.keyset.KeysetRefusal.TheVariants as faults

-- a primary id and records, whatever they are
pub record Keys : Type 0 where
  pub primary : ℕ
  pub records : List Record

-- the bounds on a record's text and bytes
pub record HasSizes (record' : Record) : Type 0 where
  pub url : length record'.url ≤ 2 ^ 30
  pub value : length record'.value ≤ 2 ^ 30

-- URL and value have at most so many bytes each
pub record IsWithin (size : ℕ) (record' : Record) : Type 0 where
  pub url : length record'.url ≤ size
  pub value : length record'.value ≤ size

-- What can be written: URL and value have together at most 256 bytes less than 2 ^ 31, so that each
-- message with them, and with the numbers beside them, has fewer than 2 ^ 31. A keyset read from at
-- most 2 ^ 30 bytes has such records.
abbrev pub IsShort : Record → Type 0
IsShort r = length r.url + length r.value + 256 ≤ 2 ^ 31

-- the status and the output prefix type have names
pub record IsKnown (record' : Record) : Type 0 where
  pub least_status : 1 ≤ record'.status
  pub most_status : record'.status ≤ 3
  pub least_prefix : 1 ≤ record'.prefix
  pub most_prefix : record'.prefix ≤ 4

-- the status is ENABLED
abbrev pub is_enabled : Record → Bool
is_enabled r = r.status == 1

-- the status is DESTROYED
abbrev pub is_destroyed : Record → Bool
is_destroyed r = r.status == 3

-- no key data: URL and value are empty and the material is 0
abbrev pub is_bare : Record → Bool
is_bare r = length r.url == 0 && length r.value == 0 && r.material == 0

-- the status has a name
abbrev pub has_status : Record → Bool
has_status r = nat_le 1 r.status && nat_le r.status 3

-- the output prefix type has a name
abbrev pub has_prefix : Record → Bool
has_prefix r = nat_le 1 r.prefix && nat_le r.prefix 4

-- the key material type has a number up to 4, and 0 only in a DESTROYED record
abbrev pub has_material : Record → Bool
has_material r = nat_le r.material 4 && (nat_le 1 r.material || is_destroyed r)

-- only a DESTROYED record has no URL
abbrev pub has_key_data : Record → Bool
has_key_data r = nat_le 1 (length r.url) || is_destroyed r

-- the record has this id
abbrev pub has_id : ℕ → Record → Bool
has_id id r = r.id == id

-- a record has this id
abbrev pub is_in : List Record → ℕ → Bool
is_in records id = list_any (has_id id) records

-- the record is ENABLED and has the primary id
abbrev pub is_primary : ℕ → Record → Bool
is_primary primary r = has_id primary r && is_enabled r

-- the first record that is ENABLED and has the primary id
abbrev pub primary_of : Keys → Option Record
primary_of keys = find (is_primary keys.primary) keys.records

-- the place of the first record that fails the test
unfoldable pub first_without : (Record → Bool) → List Record → Option ℕ
first_without test records = position (λ r. not (test r)) records

-- a place i, and the place that is k behind the next one
abbrev pub pair_from : ℕ → ℕ → ℕ × ℕ
pair_from i k = (i, suc i + k)

-- the place i, and that of the first record behind it that passes the test
abbrev pub next_behind : (Record → Bool) → List Record → ℕ → Option (ℕ × ℕ)
next_behind test records i = option_map (pair_from i) (position test (drop (suc i) records))

-- the places of the first two records that pass the test
unfoldable pub first_two : (Record → Bool) → List Record → Option (ℕ × ℕ)
first_two test records = option_and_then (next_behind test records) (position test records)

-- the first that is there
unfoldable pub first_some : {A : Type 0} → List (Option A) → Option A
first_some [] = None
first_some (option ∷ later) = option_or option (first_some later)

-- this one, where the test holds
unfoldable pub when : {A : Type 0} → Bool → A → Option A
when test value = if test then Some value else None

-- the fault that the records of these two places are both primary
abbrev pub ambiguous : ℕ × ℕ → KeysetRefusal
ambiguous places = faults.AmbiguousPrimary places.0 places.1

-- the first fault, in the order of `KeysetRefusal`
unfoldable pub fault_of : Keys → Option KeysetRefusal
fault_of keys = first_some (
    when (length keys.records == 0) faults.Empty
    ∷ when (nat_lt 1000 (length keys.records)) faults.TooMany
    ∷ option_map faults.UnknownStatus (first_without has_status keys.records)
    ∷ option_map faults.UnknownPrefix (first_without has_prefix keys.records)
    ∷ option_map faults.UnknownMaterial (first_without has_material keys.records)
    ∷ option_map faults.MissingKeyData (first_without has_key_data keys.records)
    ∷ when (not (is_in keys.records keys.primary)) faults.NoPrimary
    ∷ when (not (list_any (is_primary keys.primary) keys.records)) faults.PrimaryNotEnabled
    ∷ option_map ambiguous (first_two (is_primary keys.primary) keys.records)
    ∷ [])

-- the keys, where no fault holds
abbrev pub unless_fault : Option KeysetRefusal → Keys → Result Keys KeysetRefusal
unless_fault (Some fault) keys = Err fault
unless_fault None keys = Ok keys

-- the keys as a keyset, or their first fault
abbrev pub built : Keys → Result Keys KeysetRefusal
built keys = unless_fault (fault_of keys) keys
