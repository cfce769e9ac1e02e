-- Under which key of a keyset some bytes were sealed, as the output prefix in front of them tells (Tink's wire
-- format): what is told of bytes that no key opened. It is a function of the ids, the statuses and the output
-- prefix types of the records, and of the first bytes alone.
--
--   stands_under   a record's output prefix is this front
--   named          the records of a keyset whose it is
--   raw_count      how many records put nothing in front, and so may have made any bytes
--   record_named   the one record among those named that is told
--   sealer_of      what is told of sealed bytes
--   envelope_sealer_of, keyset_sealer_of   what is told of an envelope, and of an encrypted keyset
--   sealer_text    the second line that tells it, without its front
use Rattle.std.specs.Prelude.{ℕ, Bool, List, ◌++◌, ◌||◌, length, take, drop, filter, find, nat_lt, Option, Some, None, Result, if◌then◌else◌, codes}
use Rattle.std.specs.Fmt.{decimal}
use Rattle.std.specs.Option.{option_or}
use Rattle.keyset_model.specs.Keyset.{Keys, is_destroyed, is_enabled}
use Rattle.keyset_model.specs.declared.record.Record.{Record}
use Rattle.seal_wrap.specs.Unwrapped.{Refusal, encrypted_bytes}
use Rattle.tinkey_plans.specs.declared.sealer.Sealer.{Sealer}
use Rattle.tinkey_plans.specs.declared.sealer.Sealer.TheVariants as sealers
use Rattle.tinkey_plans.specs.declared.sealer.Unopened.{Unopened}
use Rattle.tinkey_plans.specs.declared.sealer.Unopened.TheVariants as unopened
use Rattle.wrapped_prims.specs.Candidates.{is_enabled_with, is_raw, prefix_of, same_prefix}

-- ---- the records

-- its output prefix is this
abbrev pub stands_under : (front : List ℕ) → Record → Bool
stands_under front r = same_prefix (prefix_of r) (Some front)

-- the records whose output prefix this is, of any status, in order
abbrev pub named : Keys → (front : List ℕ) → List Record
named keys front = filter (stands_under front) keys.records

-- how many of the records have none
abbrev pub raw_count : Keys → ℕ
raw_count keys = length (filter is_raw keys.records)

-- it may have made bytes with this front: that is its output prefix, or it has none
abbrev pub may_have_made : (front : List ℕ) → Record → Bool
may_have_made front r = is_raw r || stands_under front r

-- the first ENABLED record whose output prefix this is, or else the first of any status
abbrev pub record_named : Keys → (front : List ℕ) → Option Record
record_named keys front =
    option_or (find (is_enabled_with (Some front)) keys.records)
    (find (stands_under front) keys.records)

-- ---- what is told

-- a record, by its id and its status
abbrev pub told_record : Record → Sealer
told_record r =
    if is_enabled r then sealers.Enabled r.id
    else if is_destroyed r then sealers.Destroyed r.id
    else sealers.Disabled r.id

-- that no record is named, and whether some have no output prefix
abbrev pub told_none : Keys → Sealer
told_none keys = if nat_lt 0 (raw_count keys) then sealers.Raw else sealers.Unnamed

-- the record, where there is one
abbrev pub told_or : Option Record → Sealer → Sealer
told_or None other = other
told_or (Some r) other = told_record r

-- what is told of bytes with this front
abbrev pub sealer_under : Keys → (front : List ℕ) → Sealer
sealer_under keys front = told_or (record_named keys front) (told_none keys)

-- of sealed bytes, by the first five
abbrev pub sealer_of : Keys → (bytes : List ℕ) → Sealer
sealer_of keys bytes = sealer_under keys (take 5 bytes)

-- of an envelope, by the first five bytes of its sealed data key, which stands behind the four of its length
abbrev pub envelope_sealer_of : Keys → (bytes : List ℕ) → Sealer
envelope_sealer_of keys bytes = sealer_of keys (drop 4 bytes)

-- of an encrypted keyset, by the first five of its encrypted bytes; where they can't be read, there are none
abbrev pub keyset_sealer_of : (master : Keys) → (encrypted : Result (List ℕ) Refusal) → Sealer
keyset_sealer_of master encrypted = sealer_of master (encrypted_bytes encrypted)

-- ---- the second line, without its front

-- no key is named
unfoldable pub none_text : Unopened → List ℕ
none_text unopened.Text = codes "the text names no key of this keyset"
none_text unopened.Envelope = codes "the envelope names no key of this keyset"
none_text unopened.DataKey = codes "the envelope names no key of this keyset"
none_text unopened.Keyset = codes "the keyset names no key of the master"

-- what is said of an ENABLED key, which opened nothing
unfoldable pub enabled_text : Unopened → List ℕ
enabled_text unopened.Text =
    codes ", which is ENABLED: other associated data, or the text was changed"
enabled_text unopened.Envelope =
    codes ", which is ENABLED: other associated data or --dek-template, or the envelope was changed"
enabled_text unopened.DataKey =
    codes ", which is ENABLED: another --dek-template, or the envelope was changed"
enabled_text unopened.Keyset =
    codes " of the master, which is ENABLED: other associated data, or the keyset was changed"

-- of a DISABLED one
unfoldable pub disabled_text : Unopened → List ℕ
disabled_text unopened.Keyset = codes " of the master, which is DISABLED"
disabled_text other = codes ", which is DISABLED"

-- of a DESTROYED one
unfoldable pub destroyed_text : Unopened → List ℕ
destroyed_text unopened.Keyset = codes " of the master, which was DESTROYED"
destroyed_text other = codes ", which was DESTROYED"

-- a key's id, and what is said of it
abbrev pub under_key : (id : ℕ) → (says : List ℕ) → List ℕ
under_key id says = codes "sealed under key " ++ decimal id ++ says

unfoldable pub sealer_text : Unopened → Sealer → List ℕ
sealer_text what sealers.Unnamed = none_text what
sealer_text what sealers.Raw = none_text what ++ codes ", and no ENABLED RAW key opens it"
sealer_text what (sealers.Enabled id) = under_key id (enabled_text what)
sealer_text what (sealers.Disabled id) = under_key id (disabled_text what)
sealer_text what (sealers.Destroyed id) = under_key id (destroyed_text what)
