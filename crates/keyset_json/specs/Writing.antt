-- A keyset written as JSON: the compact text that the crate `serde_json` prints of a value, whose
-- names are in byte order, and a newline. Enums are their names, and bytes are standard base64 with
-- padding. A bare record has no `keyData`.
use Rattle.std.specs.Prelude.{◌≡◌, ℕ, ◌<◌, ◌^◌, true, None, Ok, List, [], ◌∷◌, ◌++◌, if◌then◌else◌, codes, map}
use Rattle.base64.specs.GeneralPurpose.{encode_of, IsBytes}
use Rattle.base64.specs.Engines.{standard}
use Rattle.serde_json.specs.Data.{unsigned, Data, number, string, array, object, Members, no_members, member}
use Rattle.serde_json.specs.View.{items_of}
use Rattle.serde_json.specs.Written.{compact_text}
use Rattle.keyset_model.specs.declared.record.Record.{Record}
use Rattle.keyset_model.specs.Keyset.{Keys, is_bare, fault_of}
use Rattle.std.specs.List.{AllByRecursion}
use Rattle.std.specs.Str.{is_utf8}
use Rattle.keyset_json.specs.Reading.{reads_json}
use Rattle.keyset_json.specs.Names.{status_names, prefix_names, material_names, name_at}

-- the object of a record's key data
unfoldable pub data_value : Record → Data
data_value r = object (
    member (codes "keyMaterialType") (string (name_at material_names r.material))
    (member (codes "typeUrl") (string r.url)
    (member (codes "value") (string (encode_of standard r.value)) no_members)))

-- the members behind the key data
abbrev pub key_members : Record → Members
key_members r =
    member (codes "keyId") (number (unsigned r.id))
    (member (codes "outputPrefixType") (string (name_at prefix_names r.prefix))
    (member (codes "status") (string (name_at status_names r.status)) no_members))

-- the key data as a member alone
abbrev pub data_member : Record → Members
data_member r = if is_bare r then no_members else member (codes "keyData") (data_value r) no_members

-- the object of a record
unfoldable pub key_value : Record → Data
key_value r = object (
    if is_bare r then key_members r else member (codes "keyData") (data_value r) (key_members r))

-- the object of a keyset
unfoldable pub keyset_value : Keys → Data
keyset_value keys = object (
    member (codes "key") (array (items_of (map key_value keys.records)))
    (member (codes "primaryKeyId") (number (unsigned keys.primary)) no_members))

-- the whole text
unfoldable pub json_of : Keys → List ℕ
json_of keys = compact_text (keyset_value keys) ++ 10 ∷ []

-- what the types of a record hold it to; in keys without a fault its other numbers are small, and the
-- primary id is that of a record
pub record HasJsonBounds (r : Record) : Type 0 where
  pub id : r.id < 2 ^ 32
  pub utf8 : is_utf8 r.url ≡ true
  pub bytes : IsBytes r.value

-- The JSON form of keys without a fault reads back to them.
abbrev pub JsonBack : Type 0
JsonBack = (keys : Keys) → fault_of keys ≡ None → AllByRecursion HasJsonBounds keys.records
    → reads_json (json_of keys) ≡ Ok keys
