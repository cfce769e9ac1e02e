-- What stays readable: the laws of keysets under the standard table of managers, and of edits
-- between a sealing and an opening, over the definitions alone.
--
--   IsSound     each ENABLED key is a valid one of the primitive
--   after       the keyset after edits, accepted or refused
--   IsEdited    one keyset is another one after some edits
use Rattle.std.specs.Prelude.{◌≡◌, ◌↔◌, ℕ, List, [], ◌∷◌, true, Option, Some, None, Result, Ok, Err, option_and_then}
use Rattle.std.specs.List.{AllByRecursion}
use Rattle.key_msgs.specs.KeyTypes.{primitive_of_type}
use Rattle.key_msgs.specs.Templates.{Row, type_made}
use Rattle.key_msgs.specs.declared.primitive.Primitive.{Primitive}
use Rattle.keyset_model.specs.Keyset.{Keys, is_enabled, primary_of}
use Rattle.keyset_model.specs.declared.record.Record.{Record}
use Rattle.managers.specs.Standard.{standard_table}
use Rattle.tinkey_cmds.specs.Edits.{Edit, Stepped, first, primitive_of, rule_of, step}
use Rattle.tinkey_cmds.specs.Laws.{HasTemplate, IsTemplate}
use Rattle.tinkey_cmds.specs.declared.command.EditRefusal.{EditRefusal}
use Rattle.wrapped_prims.specs.Answers.{Sealed, dopen_answer, dseal_answer, open_answer, seal_answer, tag_answer, verify_answer}
use Rattle.wrapped_prims.specs.Candidates.{prefix_of}
use Rattle.wrapped_prims.specs.Fitness.{unfit}
use Rattle.wrapped_prims.specs.Laws.{HasKey, HasSameKey, IsKeyset}

-- ---- sound keysets

-- the URL is that of a key type for the primitive, and the value a valid key of that type
pub record IsKeyFor (primitive : Primitive) (r : Record) : Type 0 where
  pub named : primitive_of r.url ≡ Some primitive
  pub valid : rule_of r.url r.value ≡ None

-- where the record is ENABLED
abbrev pub IsUsable : Primitive → Record → Type 0
IsUsable primitive r = is_enabled r ≡ true → IsKeyFor primitive r

-- a keyset whose ENABLED records are all valid keys for the primitive
pub record IsSound (primitive : Primitive) (keys : Keys) : Type 0 where
  pub keyset : IsKeyset keys
  pub usable : AllByRecursion (IsUsable primitive) keys.records

-- No record of a keyset is unfit exactly where the keyset is sound. Of pseudo-random functions that
-- isn't so, since their keys have to be RAW too.
abbrev pub SoundIsUsable : Primitive → Type 0
SoundIsUsable primitive = (keys : Keys) → IsKeyset keys
    → (unfit keys primitive standard_table ≡ None) ↔ IsSound primitive keys

-- an accepted edit of a sound keyset is sound, for the same primitive
abbrev pub EditsKeepSound : Type 0
EditsKeepSound = (primitive : Primitive) (old new : Keys) (edit : Edit) (random : List ℕ)
    (s : Stepped)
    → HasTemplate edit → IsSound primitive old → step old edit random ≡ Some s → s.answer ≡ Ok new
    → IsSound primitive new

-- the first keyset of a template is sound for the primitive of its keys
abbrev pub FirstsAreSound : Type 0
FirstsAreSound = (new : Keys) (row : Row) (random : List ℕ) (s : Stepped)
    → IsTemplate row → first row random ≡ Some s → s.answer ≡ Ok new
    → IsSound (primitive_of_type (type_made row)) new

-- ---- many edits

-- an edit, and the random bytes that it draws from
pub record Asked : Type 0 where
  pub edit : Edit
  pub random : List ℕ

-- its template, if it has one, is a row of the table
abbrev pub IsAsked : Asked → Type 0
IsAsked asked = HasTemplate asked.edit

-- the keyset after an edit, the same where it was refused
abbrev pub kept : Keys → Result Keys EditRefusal → Keys
kept keys (Ok edited) = edited
kept keys (Err fault) = keys

-- the keyset after edits, one after another; none where one of them runs out of random bytes
unfoldable pub after : Keys → List Asked → Option Keys
after keys [] = Some keys
after keys (asked ∷ later) =
    option_and_then (λ s. after (kept keys s.answer) later) (step keys asked.edit asked.random)

-- some edits, accepted or refused, lead from the old keyset to the new one
pub record IsEdited (old new : Keys) : Type 0 where
  pub edits : List Asked
  pub asked : AllByRecursion IsAsked edits
  pub last : after old edits ≡ Some new

-- a keyset stays one
abbrev pub EditedIsKeyset : Type 0
EditedIsKeyset = (old new : Keys) → IsEdited old new → IsKeyset old → IsKeyset new

-- a sound one stays sound, for the same primitive
abbrev pub EditedIsSound : Type 0
EditedIsSound = (primitive : Primitive) (old new : Keys)
    → IsEdited old new → IsSound primitive old → IsSound primitive new

-- What the primary record of a keyset sealed, a keyset opens to its plaintext, while that record's
-- key is ENABLED there and alone under its prefix. The record has a prefix. That it is a valid key need
-- not be said, since it has sealed, and the other records may be anything. The two keysets may be any, so
-- also one after edits of the other.
abbrev pub KeptOpen : Type 0
KeptOpen = (old new : Keys) (r : Record) (prefix plain ad random : List ℕ) (sealed : Sealed)
    → HasSameKey r new → primary_of old ≡ Some r → prefix_of r ≡ Some prefix
    → seal_answer old standard_table plain ad random ≡ Some sealed
    → open_answer new standard_table sealed.bytes ad ≡ Some plain

-- the same without an IV
abbrev pub KeptDopen : Type 0
KeptDopen = (old new : Keys) (r : Record) (prefix plain ad sealed : List ℕ)
    → HasSameKey r new → primary_of old ≡ Some r → prefix_of r ≡ Some prefix
    → dseal_answer old standard_table plain ad ≡ Some sealed
    → dopen_answer new standard_table sealed ad ≡ Some plain

-- Of a record of any prefix type it is some plaintext, while that record's key is there, ENABLED: another
-- RAW key, or one under the same prefix, may open the bytes by chance.
abbrev pub KeptOpenPresent : Type 0
KeptOpenPresent = (old new : Keys) (r : Record) (plain ad random : List ℕ) (sealed : Sealed)
    → HasKey r new → primary_of old ≡ Some r
    → seal_answer old standard_table plain ad random ≡ Some sealed
    → (other : List ℕ) × (open_answer new standard_table sealed.bytes ad ≡ Some other)

-- the same without an IV: it opens to some plaintext
abbrev pub KeptDopenPresent : Type 0
KeptDopenPresent = (old new : Keys) (r : Record) (plain ad sealed : List ℕ)
    → HasKey r new → primary_of old ≡ Some r
    → dseal_answer old standard_table plain ad ≡ Some sealed
    → (other : List ℕ) × (dopen_answer new standard_table sealed ad ≡ Some other)

-- a tag verifies, whatever the prefix type
abbrev pub KeptTag : Type 0
KeptTag = (old new : Keys) (r : Record) (tag body : List ℕ)
    → HasKey r new → primary_of old ≡ Some r
    → tag_answer old standard_table body ≡ Some tag
    → verify_answer new standard_table tag body ≡ true
