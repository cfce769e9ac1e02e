-- What a handle keeps of each record, and what that opens and verifies.
use Rattle.std.specs.Prelude.{◌≡◌, ◌==◌, ℕ, List, [], ◌∷◌, length, Option, Some, None, if◌then◌else◌, Bool, is_some, drop, take, false, ◌||◌, slice_get}
use Rattle.std.specs.List.{filter_map}
use Rattle.std.specs.Option.{option_and_then, option_flatten, option_map, option_or}
use Rattle.std.specs.Str.{bytes_eq}
use Rattle.key_msgs.specs.declared.key.KeyKind.{KeyKind}
use Rattle.key_msgs.specs.declared.primitive.Primitive.{Primitive}
use Rattle.key_msgs.specs.declared.primitive.Primitive.TheVariants.{Aead, Daead}
use Rattle.keyset_model.specs.Keyset.{Keys, is_enabled, primary_of}
use Rattle.keyset_model.specs.declared.record.Record.{Record}
use Rattle.managers.specs.Schemes.{IsAdmitted}
use Rattle.managers.specs.Table.{Entry, Table, entries_of, place_of}
use Rattle.managers.specs.Uses.{tag_of, tagged}
use Rattle.wrapped_prims.specs.Answers.{opened_under, tried}
use Rattle.wrapped_prims.specs.Candidates.{is_legacy, prefix_of}
use Rattle.wrapped_prims.specs.Fitness.{key_of_record}
use Rattle.wrapped_prims.specs.Prefixes.{Index, places_under}
use Rattle.wrapped_prims.specs.declared.held.Held.{Held}
use Rattle.wrapped_prims.specs.declared.held.Kept.{Kept}

-- the manager at that place admits the key
abbrev pub IsServedBy : Option Entry → KeyKind → Type 0
IsServedBy None key = ⊥
IsServedBy (Some entry) key = IsAdmitted entry.scheme key

-- what is kept is admitted by the manager at its place
abbrev pub IsServed : Table → Primitive → Option Kept → Type 0
IsServed table primitive None = Unit {0}
IsServed table primitive (Some kept) =
    IsServedBy (slice_get (entries_of table primitive) kept.place) kept.key

-- each kept key is
abbrev pub AreServed : Table → Primitive → List (Option Kept) → Type 0
AreServed table primitive slots =
    (i : ℕ) (slot : Option Kept) → slice_get slots i ≡ Some slot → IsServed table primitive slot

-- a record's key, with the place of its manager, its prefix and whether it is LEGACY
abbrev pub kept_with : Record → ℕ → KeyKind → Kept
kept_with r at key =
    record { place = at; prefix = prefix_of r; is_legacy = is_legacy r; key = key }

-- what is kept of a record: nothing of one that isn't ENABLED
abbrev pub kept_of : Table → Primitive → Record → Option Kept
kept_of table primitive r =
    if is_enabled r
    then option_and_then (λ at. option_map (kept_with r at) (key_of_record table primitive r))
    (place_of table primitive r.url)
    else None

-- what a look-up of these bytes gives. Other than five bytes are no prefix.
abbrev pub places_at : List ℕ → Index → List ℕ
places_at prefix index = if length prefix == 5 then places_under prefix index else []

-- the key that is kept at a place
abbrev pub kept_in : List (Option Kept) → ℕ → Option Kept
kept_in slots place = option_flatten (slice_get slots place)

-- those at some places, in order
abbrev pub kept_at : List (Option Kept) → List ℕ → List Kept
kept_at slots places = filter_map (kept_in slots) places

-- those with a prefix, by the index
abbrev pub kept_under : List ℕ → Held → List Kept
kept_under prefix held = kept_at held.slots.items (places_at prefix held.index.entries)

-- those with none
abbrev pub kept_raw : Held → List Kept
kept_raw held = kept_at held.slots.items held.raw.items

-- the plaintext of the first key that opens the part
abbrev pub open_with : Primitive → List ℕ → List ℕ → List Kept → Option (List ℕ)
open_with primitive part ad [] = None
open_with primitive part ad (kept ∷ later) =
    option_or (opened_under primitive part ad kept.key) (open_with primitive part ad later)

-- by the keys of this prefix, and then by those of none
abbrev pub open_kept : Primitive → Held → (bytes ad : List ℕ) → Option (List ℕ)
open_kept primitive held bytes ad =
    option_or (open_with primitive (drop 5 bytes) ad (kept_under (take 5 bytes) held))
    (open_with primitive bytes ad (kept_raw held))

-- the count of trials after these keys were tried on the part
abbrev pub tries_with : Primitive → List ℕ → List ℕ → List Kept → ℕ → ℕ
tries_with primitive part ad kept count =
    tried (λ k. is_some (opened_under primitive part ad k.key)) kept count

-- and after those of the prefix, and where none of them opens, those of none
abbrev pub tries_kept : Primitive → Held → (bytes ad : List ℕ) → ℕ → ℕ
tries_kept primitive held bytes ad count =
    let first = kept_under (take 5 bytes) held in
    let later = tries_with primitive (drop 5 bytes) ad first count in
    if is_some (open_with primitive (drop 5 bytes) ad first) then later
    else tries_with primitive bytes ad (kept_raw held) later

-- keys of these primitives open
abbrev pub Opens : Primitive → Type 0
Opens Aead = Unit {0}
Opens Daead = Unit {0}
Opens _ = ⊥

-- the tag of the body under what is kept
abbrev pub tag_with : Kept → List ℕ → List ℕ
tag_with kept body = tag_of kept.key (tagged kept.is_legacy body)

-- some key's tag of the body is this one
abbrev pub verify_with : (tag body : List ℕ) → List Kept → Bool
verify_with tag body [] = false
verify_with tag body (kept ∷ later) =
    bytes_eq tag (tag_with kept body) || verify_with tag body later

-- the count of trials after these keys were tried on the tag
abbrev pub tag_tries_with : (tag body : List ℕ) → List Kept → ℕ → ℕ
tag_tries_with tag body kept count = tried (λ k. bytes_eq tag (tag_with k body)) kept count

-- and after those of the prefix, and where the tag is that of none of them, those of none
abbrev pub tag_tries_kept : Held → (tag body : List ℕ) → ℕ → ℕ
tag_tries_kept held tag body count =
    let first = kept_under (take 5 tag) held in
    let later = tag_tries_with (drop 5 tag) body first count in
    if verify_with (drop 5 tag) body first then later
    else tag_tries_with tag body (kept_raw held) later

-- by the keys of this prefix, and then by those of none
abbrev pub verify_kept : Held → (tag body : List ℕ) → Bool
verify_kept held tag body =
    verify_with (drop 5 tag) body (kept_under (take 5 tag) held)
    || verify_with tag body (kept_raw held)

-- what is kept is the primary record's key
pub record IsPrimary (table : Table) (primitive : Primitive) (keys : Keys) (kept : Kept) : Type 0 where
  pub under' : Record
  pub primary : primary_of keys ≡ Some under'
  pub key : key_of_record table primitive under' ≡ Some kept.key
  pub prefix : kept.prefix ≡ prefix_of under'
  pub legacy : kept.is_legacy ≡ is_legacy under'
