-- What a keyset becomes when it is changed in place.
--
--   with_record                  one more record, after all others
--   with_primary                 another primary id
--   changed_at                   the record of a place becomes another one
--   with_status_at, destroyed_at so it is with its status; with its key data
--   without_at                   the record of a place goes
--
-- Places are counted from 0.
use Rattle.std.specs.Prelude.{ℕ, zero, suc, List, [], ◌∷◌, ◌++◌}
use Rattle.std.specs.List.{remove}
use Rattle.keyset_model.specs.declared.record.Record.{Record}
use Rattle.keyset_model.specs.Keyset.{Keys}

-- the record stands last, and the primary id stays
abbrev pub with_record : Keys → Record → Keys
with_record keys r = record keys { records = keys.records ++ r ∷ [] }

-- the records stay
abbrev pub with_primary : Keys → (id : ℕ) → Keys
with_primary keys id = record keys { primary = id }

-- the record of that place becomes another one, and all others stay
unfoldable pub changed_at : (Record → Record) → (place : ℕ) → List Record → List Record
changed_at change place [] = []
changed_at change zero (r ∷ later) = change r ∷ later
changed_at change (suc place) (r ∷ later) = r ∷ changed_at change place later

-- the record of that place gets another status
abbrev pub with_status_at : Keys → (place status : ℕ) → Keys
with_status_at keys place status =
    record keys { records = changed_at (λ r. record r { status = status }) place keys.records }

-- the record of that place is DESTROYED, with no key data
abbrev pub destroyed_at : Keys → (place : ℕ) → Keys
destroyed_at keys place = record keys {
  records = changed_at (λ r. record r { status = 3; url = []; value = []; material = 0 }) place
      keys.records;
}

-- the record of that place goes, and all others stay in their order
abbrev pub without_at : Keys → (place : ℕ) → Keys
without_at keys place = record keys { records = remove keys.records place }
