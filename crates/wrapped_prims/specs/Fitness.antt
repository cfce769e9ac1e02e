-- The keys of a keyset's records under a table of managers, and the first record that can't serve.
--
--   key_of_record     the key of a record, where its value reads as one under its URL's scheme
--   Unfit             why a record can't serve
--   fault_of_record   that of an ENABLED record
--   unfit             the first record that can't serve, by its place, and why
use Rattle.std.specs.Prelude.{ℕ, ◌+◌, if◌then◌else◌, List, [], ◌∷◌, Option, Some, None, Result, Ok, Err}
use Rattle.std.specs.Option.{option_map}
use Rattle.key_msgs.specs.declared.key.KeyKind.{KeyKind}
use Rattle.key_msgs.specs.declared.primitive.Primitive.{Primitive}
use Rattle.key_msgs.specs.declared.primitive.Primitive.TheVariants.{Aead, Daead, Mac, Prf, Stream}
use Rattle.key_msgs.specs.declared.rule.Rule.{Rule}
use Rattle.keyset_model.specs.Keyset.{Keys, is_enabled}
use Rattle.keyset_model.specs.declared.record.Record.{Record}
use Rattle.managers.specs.Schemes.{key_under}
use Rattle.managers.specs.Table.{Table, scheme_at}
use Rattle.wrapped_prims.specs.Candidates.{is_raw}

-- what the value reads as under the scheme of the record's URL, where that URL is in the table
abbrev pub reading_of : Table → Primitive → Record → Option (Result KeyKind Rule)
reading_of table primitive r =
    option_map (λ scheme. key_under scheme r.value) (scheme_at table primitive r.url)

-- the key that was read, where there is one
abbrev pub read_key : Option (Result KeyKind Rule) → Option KeyKind
read_key None = None
read_key (Some (Ok key)) = Some key
read_key (Some (Err rule)) = None

-- the record's key
abbrev pub key_of_record : Table → Primitive → Record → Option KeyKind
key_of_record table primitive r = read_key (reading_of table primitive r)

-- why a record can't serve
pub data Unfit : Type 0 where
  -- no manager of the primitive has its URL
  NoManager : Unfit
  -- its value breaks this rule of the manager's scheme first
  BadKey : Rule → Unfit
  -- it has an output prefix, where the primitive has no place for one
  NotRaw : Unfit

-- pseudo-random functions have no place for a prefix
abbrev pub prefix_fault : Primitive → Record → Option Unfit
prefix_fault Prf r = if is_raw r then None else Some NotRaw
prefix_fault Aead r = None
prefix_fault Daead r = None
prefix_fault Mac r = None
prefix_fault Stream r = None

-- the first of the three faults, by what the value reads as and by the fault of the prefix
abbrev pub first_of_three : Option (Result KeyKind Rule) → Option Unfit → Option Unfit
first_of_three None later = Some NoManager
first_of_three (Some (Err rule)) later = Some (BadKey rule)
first_of_three (Some (Ok key)) later = later

-- the fault of a record; one that isn't ENABLED has none
abbrev pub fault_of_record : Table → Primitive → Record → Option Unfit
fault_of_record table primitive r =
    if is_enabled r
    then first_of_three (reading_of table primitive r) (prefix_fault primitive r)
    else None

-- this fault, of the record of this place, or else a later one
abbrev pub or_later : ℕ → Option Unfit → Option (ℕ × Unfit) → Option (ℕ × Unfit)
or_later place None later = later
or_later place (Some fault) later = Some (place, fault)

-- of records the first of which has this place, the first that can't serve
abbrev pub unfit_from : ℕ → Table → Primitive → List Record → Option (ℕ × Unfit)
unfit_from place table primitive [] = None
unfit_from place table primitive (r ∷ records) =
    or_later place (fault_of_record table primitive r)
    (unfit_from (place + 1) table primitive records)

-- the first ENABLED record that can't serve, by its place from 0, and its first fault
abbrev pub unfit : Keys → Primitive → Table → Option (ℕ × Unfit)
unfit keys primitive table = unfit_from 0 table primitive keys.records
