-- A keyset that is sealed under a master keyset, as a text (tink.proto: EncryptedKeyset and
-- KeysetInfo). The binary form has its fields by number; numbers that are 0 and bytes that are empty
-- are left out, and messages are always written. The JSON form is the compact text that the crate
-- `serde_json` prints of a value, whose names are in byte order, and a newline; enums are their names,
-- and bytes standard base64 with padding.
--
--   wrapped_binary   the binary form, of the sealed bytes and the info
--   wrapped_json     the JSON form of the same
--   wrapped_text     one of the two
--   wrap_of          a keyset sealed under a master, as such a text
use Rattle.std.specs.Prelude.{ℕ, Bool, List, [], ◌∷◌, ◌++◌, ◌==◌, length, map, codes, Option, option_map, if◌then◌else◌}
use Rattle.base64.specs.GeneralPurpose.{encode_of}
use Rattle.base64.specs.Engines.{standard}
use Rattle.serde_json.specs.Data.{unsigned, Data, number, string, array, object, Members, no_members, member}
use Rattle.serde_json.specs.View.{items_of}
use Rattle.serde_json.specs.Written.{compact_text}
use Rattle.proto_wire.specs.Written.{Entry, uint32, content, message, written_all}
use Rattle.keyset_model.specs.Keyset.{Keys}
use Rattle.keyset_model.specs.Writing.{binary_of}
use Rattle.keyset_json.specs.Names.{status_names, prefix_names, name_at}
use Rattle.managers.specs.Table.{Table}
use Rattle.wrapped_prims.specs.Answers.{Sealed, seal_answer}
use Rattle.seal_wrap.specs.Info.{KeyInfo, Info, info_of}

-- ---- the binary form

-- type_url 1, status 2, key_id 3 and output_prefix_type 4
abbrev pub key_info_entries : KeyInfo → List Entry
key_info_entries key =
    content 1 key.url ∷ uint32 2 key.status ∷ uint32 3 key.id ∷ uint32 4 key.prefix ∷ []

-- a key_info is field 2
abbrev pub key_info_entry : KeyInfo → Entry
key_info_entry key = message 2 (written_all (key_info_entries key))

-- primary_key_id 1, and a key_info 2 for each key, in order
abbrev pub info_entries : Info → List Entry
info_entries info = uint32 1 info.primary ∷ map key_info_entry info.keys

-- the bytes of the `KeysetInfo` message
abbrev pub info_written : Info → List ℕ
info_written info = written_all (info_entries info)

-- encrypted_keyset 2 and keyset_info 3
abbrev pub wrapped_entries : List ℕ → Info → List Entry
wrapped_entries sealed info = content 2 sealed ∷ message 3 (info_written info) ∷ []

-- the bytes of the `EncryptedKeyset` message
unfoldable pub wrapped_binary : List ℕ → Info → List ℕ
wrapped_binary sealed info = written_all (wrapped_entries sealed info)

-- ---- the JSON form

-- the type URL as a member, and none where it is empty
abbrev pub url_member : List ℕ → Members
url_member url = if length url == 0 then no_members else member (codes "typeUrl") (string url) no_members

-- the object of a key
unfoldable pub key_info_value : KeyInfo → Data
key_info_value key = object (
    member (codes "keyId") (number (unsigned key.id))
    (member (codes "outputPrefixType") (string (name_at prefix_names key.prefix))
    (member (codes "status") (string (name_at status_names key.status)) (url_member key.url))))

-- the object of the info
unfoldable pub info_value : Info → Data
info_value info = object (
    member (codes "keyInfo") (array (items_of (map key_info_value info.keys)))
    (member (codes "primaryKeyId") (number (unsigned info.primary)) no_members))

-- the object of the whole
unfoldable pub wrapped_value : List ℕ → Info → Data
wrapped_value sealed info = object (
    member (codes "encryptedKeyset") (string (encode_of standard sealed))
    (member (codes "keysetInfo") (info_value info) no_members))

-- the whole text
unfoldable pub wrapped_json : List ℕ → Info → List ℕ
wrapped_json sealed info = compact_text (wrapped_value sealed info) ++ 10 ∷ []

-- ---- wrapping

-- JSON, or else the binary form
abbrev pub wrapped_text : (json : Bool) → (sealed : List ℕ) → Info → List ℕ
wrapped_text json sealed info =
    if json then wrapped_json sealed info else wrapped_binary sealed info

-- a text, and the random bytes that are left
pub record Wrapped : Type 0 where
  pub text : List ℕ
  pub left : List ℕ

-- the text of what was sealed, with this info
abbrev pub wrapped_with : Bool → Info → Sealed → Wrapped
wrapped_with json info sealed =
    record { text = wrapped_text json sealed.bytes info; left = sealed.left }

-- The text of the keyset: the sealing of its binary form under the master, with empty associated data,
-- beside its info. None where the random bytes are too few, or the master's primary record has no key
-- under the table.
abbrev pub wrap_of : Keys → (master : Keys) → Table → (random : List ℕ) → (json : Bool) → Option Wrapped
wrap_of keys master table random json =
    option_map (wrapped_with json (info_of keys))
    (seal_answer master table (binary_of keys) [] random)
