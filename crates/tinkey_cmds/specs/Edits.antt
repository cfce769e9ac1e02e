-- The seven edits of a keyset, and its first keyset, as functions of whole keysets.
--
--   new_id        an id that isn't in use, by at most 64 draws
--   new_record    the record of a template: its id and then its key are drawn
--   refusal_of    why an edit is refused, before anything is drawn
--   effect_of     what an edit does that isn't
--   step, first   an edit, and the creation of a keyset
use Rattle.std.specs.Prelude.{ℕ, zero, suc, ◌%◌, ◌^◌, List, [], ◌∷◌, ◌++◌, length, Bool, true, false, not, ◌&&◌, ◌||◌, ◌==◌, nat_le, Option, Some, None, option_map, option_and_then, Ok, Err, find, if◌then◌else◌}
use Rattle.std.specs.Int.{w32, from_be_bytes}
use Rattle.std.specs.List.{list_any}
use Rattle.std.specs.Result.{result_err}
use Rattle.key_msgs.specs.declared.primitive.Primitive.{Primitive}
use Rattle.key_msgs.specs.declared.primitive.Primitive.TheVariants.{Aead, Daead, Mac, Prf, Stream}
use Rattle.key_msgs.specs.declared.rule.Rule.{Rule}
use Rattle.key_msgs.specs.KeyTypes.{type_of_url, url_of_type, primitive_of_type}
use Rattle.key_msgs.specs.Reading.{key_of}
use Rattle.key_msgs.specs.declared.template.Template.{Template}
use Rattle.key_msgs.specs.Templates.{Row, seen, made, type_made, random_of}
use Rattle.key_msgs.specs.Writing.{value_of}
use Rattle.keyset_model.specs.declared.record.Record.{Record}
use Rattle.keyset_model.specs.Keyset.{Keys, has_id, is_in, is_enabled, is_destroyed, is_primary, primary_of, first_some, when}
use Rattle.tinkey_cmds.specs.declared.command.EditRefusal.{EditRefusal}
use Rattle.tinkey_cmds.specs.declared.command.EditRefusal.TheVariants.{KeyNotFound, KeyIsPrimary, KeyNotEnabled, KeyDestroyed, KeyRefused, MixedPrimitive, IdsExhausted, TooManyKeys, AmbiguousPrimary}
use Rattle.tinkey_cmds.specs.declared.command.KeysetEdit.{KeysetEdit}
use Rattle.tinkey_cmds.specs.declared.command.KeysetEdit.TheVariants as commands
use Rattle.tinkey_cmds.specs.Draws.{Drawn, Draw, answered, fill, and_then}

-- an edit, by a template or the id of a record
pub data EditOf (A : Type 0) : Type 0 where
  Add Rotate : (template : A) → EditOf A
  Promote Enable Disable Destroy Delete : (id : ℕ) → EditOf A

-- an edit by a row of the table of templates
abbrev pub Edit : Type 0
Edit = EditOf Row

-- the edit of a command
abbrev pub seen_by : {T A : Type 0} → (T → A) → KeysetEdit T → EditOf A
seen_by see (commands.Add template) = Add (see template)
seen_by see (commands.Rotate template) = Rotate (see template)
seen_by see (commands.Promote id) = Promote id
seen_by see (commands.Enable id) = Enable id
seen_by see (commands.Disable id) = Disable id
seen_by see (commands.Destroy id) = Destroy id
seen_by see (commands.Delete id) = Delete id

-- the edit that a command of the code stands for
abbrev pub seen_edit : KeysetEdit Template → Edit
seen_edit command = seen_by seen command

-- what comes of an edit, behind what is found by its template
abbrev pub edit_then : {A B P : Type 0} → (A → (B → P) → P) → EditOf A → (EditOf B → P) → P
edit_then find (Add template) next = find template (λ found. next (Add found))
edit_then find (Rotate template) next = find template (λ found. next (Rotate found))
edit_then find (Promote id) next = next (Promote id)
edit_then find (Enable id) next = next (Enable id)
edit_then find (Disable id) next = next (Disable id)
edit_then find (Destroy id) next = next (Destroy id)
edit_then find (Delete id) next = next (Delete id)

-- ---- new records

-- four bytes, big-endian
abbrev pub id_of : List ℕ → ℕ
id_of group = from_be_bytes w32 group % 2 ^ 32

-- 0 isn't an id for a new record, nor is one in use
abbrev pub is_taken : List Record → ℕ → Bool
is_taken records id = id == 0 || is_in records id

-- the first of at most so many groups of four bytes that is no id taken
unfoldable pub new_id : (tries : ℕ) → List Record → Draw ℕ
new_id zero records random = answered (Err IdsExhausted) random
new_id (suc tries) records random = and_then (fill 4 random) (λ group left.
    if is_taken records (id_of group) then new_id tries records left
    else answered (Ok (id_of group)) left)

-- the ENABLED record that a template makes of random bytes
abbrev pub record_of : Row → (id : ℕ) → (random : List ℕ) → Record
record_of row id random = record {
  id = id;
  status = 1;
  prefix = row.prefix;
  url = url_of_type (type_made row);
  value = value_of (made row random);
  material = 1;
}

-- the record of this id, whose key is the next bytes
abbrev pub with_key : Row → (id : ℕ) → Draw Record
with_key row id random = and_then (fill (random_of row) random) (λ key left.
    answered (Ok (record_of row id key)) left)

-- the id is drawn first, and then the key
abbrev pub new_record : Row → List Record → Draw Record
new_record row records random = and_then (new_id 64 records random) (with_key row)

-- the keyset that a new record makes
abbrev pub grown : (Record → Keys) → Row → List Record → Draw Keys
grown keys_with row records random = and_then (new_record row records random) (λ r left.
    answered (Ok (keys_with r)) left)

-- ---- refusals

-- the primitive of a type URL, or none where the URL isn't known
abbrev pub primitive_of : List ℕ → Option Primitive
primitive_of url = option_map primitive_of_type (type_of_url url)

-- the first rule that a key message breaks, or none, also where the URL isn't known
abbrev pub rule_of : (url value : List ℕ) → Option Rule
rule_of url value = option_and_then (λ type. result_err (key_of type value)) (type_of_url url)

-- the primitive of the primary record's URL
abbrev pub primary_primitive : Keys → Option Primitive
primary_primitive keys = option_and_then (λ r. primitive_of r.url) (primary_of keys)

-- one primitive, or none twice
abbrev pub is_same : Option Primitive → Option Primitive → Bool
is_same None None = true
is_same (Some Aead) (Some Aead) = true
is_same (Some Daead) (Some Daead) = true
is_same (Some Mac) (Some Mac) = true
is_same (Some Prf) (Some Prf) = true
is_same (Some Stream) (Some Stream) = true
is_same _ _ = false

-- the first record with that id, which an edit names by it
abbrev pub named : Keys → ℕ → Option Record
named keys id = find (has_id id) keys.records

-- all records but the first with that id, in their order
unfoldable pub without : (id : ℕ) → List Record → List Record
without id [] = []
without id (r ∷ later) = if has_id id r then later else r ∷ without id later

-- the refusals of an edit of one record, in order
unfoldable pub of_named : Option Record → (Record → List (Option EditRefusal)) → Option EditRefusal
of_named None refusals = Some KeyNotFound
of_named (Some r) refusals = first_some (refusals r)

-- the refusals of a new record, in order
unfoldable pub full_or_mixed : Keys → Row → Option EditRefusal
full_or_mixed keys row = first_some (
    when (nat_le 1000 (length keys.records)) TooManyKeys
    ∷ when (not (is_same (primary_primitive keys) (Some (primitive_of_type (type_made row)))))
    MixedPrimitive
    ∷ [])

-- the first refusal, in order; IdsExhausted comes later, with the draws
unfoldable pub refusal_of : Keys → Edit → Option EditRefusal
refusal_of keys (Add row) = full_or_mixed keys row
refusal_of keys (Rotate row) = full_or_mixed keys row
refusal_of keys (Promote id) = of_named (named keys id) (λ r.
    when (not (is_enabled r)) KeyNotEnabled
    ∷ when (list_any (is_primary id) (without id keys.records)) AmbiguousPrimary ∷ [])
refusal_of keys (Enable id) = of_named (named keys id) (λ r.
    when (is_destroyed r) KeyDestroyed
    ∷ when (id == keys.primary && not (is_enabled r)) AmbiguousPrimary
    ∷ when (not (is_same (primitive_of r.url) (primary_primitive keys))) MixedPrimitive
    ∷ option_map KeyRefused (rule_of r.url r.value) ∷ [])
refusal_of keys (Disable id) = of_named (named keys id) (λ r.
    when (id == keys.primary) KeyIsPrimary ∷ when (is_destroyed r) KeyDestroyed ∷ [])
refusal_of keys (Destroy id) = of_named (named keys id) (λ r.
    when (id == keys.primary) KeyIsPrimary ∷ [])
refusal_of keys (Delete id) = of_named (named keys id) (λ r.
    when (id == keys.primary) KeyIsPrimary ∷ [])

-- ---- effects

-- the first record with that id changes, all others stay
unfoldable pub changed : (Record → Record) → (id : ℕ) → List Record → List Record
changed change id [] = []
changed change id (r ∷ later) =
    if has_id id r then change r ∷ later else r ∷ changed change id later

-- a record with another status
abbrev pub with_status : ℕ → Record → Record
with_status status r = record r { status = status }

-- DESTROYED, with no key data
abbrev pub destroyed : Record → Record
destroyed r = record r { status = 3; url = []; value = []; material = 0 }

-- a keyset with other records
abbrev pub with_records : Keys → List Record → Keys
with_records keys records = record keys { records = records }

-- the new record stands last, and the primary stays
abbrev pub added : Keys → Record → Keys
added keys r = with_records keys (keys.records ++ r ∷ [])

-- the new record stands last, and is primary
abbrev pub rotated : Keys → Record → Keys
rotated keys r = record { primary = r.id; records = keys.records ++ r ∷ [] }

-- the keyset of other records, with all bytes left
abbrev pub changes : Keys → List Record → Draw Keys
changes keys records random = answered (Ok (with_records keys records)) random

-- what an edit does that isn't refused
unfoldable pub effect_of : Keys → Edit → Draw Keys
effect_of keys (Add row) random = grown (added keys) row keys.records random
effect_of keys (Rotate row) random = grown (rotated keys) row keys.records random
effect_of keys (Promote id) random = answered (Ok (record keys { primary = id })) random
effect_of keys (Enable id) random = changes keys (changed (with_status 1) id keys.records) random
effect_of keys (Disable id) random = changes keys (changed (with_status 2) id keys.records) random
effect_of keys (Destroy id) random = changes keys (changed destroyed id keys.records) random
effect_of keys (Delete id) random = changes keys (without id keys.records) random

-- ---- edits

-- the keyset or the refusal, and the random bytes that are left
abbrev pub Stepped : Type 0
Stepped = Drawn Keys

-- the effect, unless there is a refusal
abbrev pub unless_refused : Option EditRefusal → Draw Keys → Draw Keys
unless_refused (Some fault) effect random = answered (Err fault) random
unless_refused None effect random = effect random

-- an edit; none where the random bytes run out
abbrev pub step : Keys → Edit → List ℕ → Option Stepped
step keys edit random = unless_refused (refusal_of keys edit) (effect_of keys edit) random

-- the keyset of this one record, primary
abbrev pub alone : Record → Keys
alone r = record { primary = r.id; records = r ∷ [] }

-- the first keyset of a template: one new record, primary
abbrev pub first : Row → List ℕ → Option Stepped
first row random = grown alone row [] random
