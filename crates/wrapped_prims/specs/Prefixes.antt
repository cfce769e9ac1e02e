-- The index of a keyset by output prefix, on its list of records. Places are counted from 0.
--
--   places_of      the places of the ENABLED records with a prefix, or with none
--   prefixes       the prefixes of the ENABLED records that have one, each once
--   prefix_index   each of those prefixes, with its places
--   places_under   what a look-up in an index gives
use Rattle.std.specs.Prelude.{ℕ, ◌+◌, if◌then◌else◌, List, [], ◌∷◌, map, filter, Option, Some, None, unwrap_or, not}
use Rattle.std.specs.List.{filter_map}
use Rattle.std.specs.Map.{lookup}
use Rattle.std.specs.Str.{bytes_eq}
use Rattle.keyset_model.specs.Keyset.{is_enabled}
use Rattle.keyset_model.specs.declared.record.Record.{Record}
use Rattle.wrapped_prims.specs.Candidates.{is_enabled_with, prefix_of}

-- of records the first of which has this place, the places of those that are ENABLED, with this prefix
-- or with none
abbrev pub places_from : ℕ → Option (List ℕ) → List Record → List ℕ
places_from place prefix [] = []
places_from place prefix (r ∷ records) =
    if is_enabled_with prefix r then place ∷ places_from (place + 1) prefix records
    else places_from (place + 1) prefix records

-- the places of the ENABLED records with this prefix, or with none, in the keyset's order
abbrev pub places_of : Option (List ℕ) → List Record → List ℕ
places_of prefix records = places_from 0 prefix records

-- the prefix of a record that is ENABLED and has one
abbrev pub own_prefix : Record → Option (List ℕ)
own_prefix r = if is_enabled r then prefix_of r else None

-- each of these once, where it stands first
abbrev pub once : List (List ℕ) → List (List ℕ)
once [] = []
once (first ∷ others) = first ∷ filter (λ other. not (bytes_eq first other)) (once others)

-- the prefixes of the ENABLED records that have one, each once, in the order of their first records
abbrev pub prefixes : List Record → List (List ℕ)
prefixes records = once (filter_map own_prefix records)

-- prefixes, each with places
abbrev pub Index : Type 0
Index = List (List ℕ × List ℕ)

-- each of those prefixes, in that order, with the places of its ENABLED records
abbrev pub prefix_index : List Record → Index
prefix_index records =
    map (λ prefix. (prefix, places_of (Some prefix) records)) (prefixes records)

-- what a look-up in an index gives: the places under a prefix, and none where it isn't there
abbrev pub places_under : List ℕ → Index → List ℕ
places_under prefix index = unwrap_or (lookup (bytes_eq prefix) index) []
