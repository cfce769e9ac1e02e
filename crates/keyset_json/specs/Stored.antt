-- What a keyset that is read of JSON is held to.
--
--   JsonIsStored    what the types of its records hold, so that it can be written again
--   JsonIsShort     that its records are short, where the source is
use Rattle.std.specs.Prelude.{◌≡◌, ℕ, ◌<◌, ◌≤◌, ◌^◌, List, length, None, Ok}
use Rattle.std.specs.List.{AllByRecursion}
use Rattle.keyset_model.specs.Keyset.{Keys, IsShort, fault_of}
use Rattle.keyset_json.specs.Reading.{reads_json}
use Rattle.keyset_json.specs.Writing.{HasJsonBounds}

-- A keyset that is read of JSON has no fault, its ids are below 2 ^ 32, its URLs are UTF-8 and its
-- values bytes, however long the source is. Of the source nothing is asked: only UTF-8 is read.
abbrev pub JsonIsStored : Type 0
JsonIsStored = (bytes : List ℕ) (keys : Keys) → reads_json bytes ≡ Ok keys
    → (fault_of keys ≡ None) × (keys.primary < 2 ^ 32) × AllByRecursion HasJsonBounds keys.records

-- URL and value of each record are short enough to be written in the binary form too, where the
-- source has at most 2 ^ 29 bytes.
abbrev pub JsonIsShort : Type 0
JsonIsShort = (bytes : List ℕ) (keys : Keys) → length bytes ≤ 2 ^ 29 → reads_json bytes ≡ Ok keys
    → AllByRecursion IsShort keys.records
