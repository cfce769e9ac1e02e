-- Which keys of a keyset may have made some bytes, by what stands in front of them (Tink's wire
-- format).
--
--   prefix_of      the five bytes in front of what a record seals or tags, none for RAW
--   enabled_with   the ENABLED records with a prefix, or with none
--   candidates     the records that may have made the bytes, each with the part that it made
use Rattle.std.specs.Prelude.{ℕ, ◌==◌, Bool, true, false, ◌&&◌, if◌then◌else◌, List, [], ◌∷◌, ◌++◌, map, filter, take, drop, Option, Some, None}
use Rattle.std.specs.Int.{to_be_bytes, w32}
use Rattle.std.specs.Str.{bytes_eq}
use Rattle.keyset_model.specs.Keyset.{Keys, is_enabled}
use Rattle.keyset_model.specs.declared.record.Record.{Record}

-- its output prefix type is RAW, so nothing stands in front of its outputs
abbrev pub is_raw : Record → Bool
is_raw r = r.prefix == 3

-- it is LEGACY, whose tags are those of the body and one byte 0
abbrev pub is_legacy : Record → Bool
is_legacy r = r.prefix == 2

-- 1 for TINK, and 0 for LEGACY and CRUNCHY
abbrev pub first_byte : Record → ℕ
first_byte r = if r.prefix == 1 then 1 else 0

-- that byte and the key id as four bytes, the highest first
abbrev pub prefix_of : Record → Option (List ℕ)
prefix_of r = if is_raw r then None else Some (first_byte r ∷ to_be_bytes w32 r.id)

-- the bytes of a prefix
abbrev pub prefix_bytes : Option (List ℕ) → List ℕ
prefix_bytes None = []
prefix_bytes (Some prefix) = prefix

-- two prefixes are one, or there is none on both sides
abbrev pub same_prefix : Option (List ℕ) → Option (List ℕ) → Bool
same_prefix None None = true
same_prefix None (Some b) = false
same_prefix (Some a) None = false
same_prefix (Some a) (Some b) = bytes_eq a b

-- ENABLED, with this prefix, or with none
abbrev pub is_enabled_with : Option (List ℕ) → Record → Bool
is_enabled_with prefix r = is_enabled r && same_prefix (prefix_of r) prefix

-- those records, in order
abbrev pub enabled_with : Option (List ℕ) → List Record → List Record
enabled_with prefix records = filter (is_enabled_with prefix) records

-- these records, each with these bytes
abbrev pub each_with : List ℕ → List Record → List (Record × List ℕ)
each_with part records = map (λ (r : Record). (r, part)) records

-- The ENABLED records whose prefix is the first five bytes, each with the rest, and then the ENABLED
-- RAW records, each with all the bytes. Fewer than five bytes are no prefix.
abbrev pub candidates : Keys → List ℕ → List (Record × List ℕ)
candidates keys bytes =
    each_with (drop 5 bytes) (enabled_with (Some (take 5 bytes)) keys.records)
    ++ each_with bytes (enabled_with None keys.records)
