-- The messages of keys, as they are written: fields by number, inner messages always.
--
--   plain_written   a message with one key value, by its field numbers
--   value_of        the message of a key
--   ListsWithin     its lists have at most so many bytes each
--   AreNumbers      its numbers have 32 bits
--   KeysReadBack    the message reads back to the key
--   IsLayout        what the field numbers of a message are
use Rattle.std.specs.Prelude.{◌≡◌, ℕ, ◌<◌, ◌≤◌, ◌^◌, List, [], ◌∷◌, ◌++◌, length, Ok, ◌==◌, nat_lt, if◌then◌else◌}
use Rattle.tink_spec.specs.Wire.{greatest_number}
use Rattle.proto_wire.specs.Written.{Entry, uint32, content, message, written_all}
use Rattle.key_msgs.specs.declared.key.KeyKind.{KeyKind}
use Rattle.key_msgs.specs.declared.key_type.KeyType.{KeyType}
use Rattle.key_msgs.specs.declared.key_type.KeyType.TheVariants as types
use Rattle.key_msgs.specs.declared.layout.Layout.{Layout}
use Rattle.key_msgs.specs.Contents.{Contents, nothing}
use Rattle.key_msgs.specs.KeyTypes.{layout_of, aes_ctr_fields, hmac_fields}
use Rattle.key_msgs.specs.Keys.{type_of, contents_of, IsValid}
use Rattle.key_msgs.specs.Reading.{key_of}

-- an entry of a message that has such a field
abbrev pub if_field : ℕ → Entry → List Entry
if_field number entry = if number == 0 then [] else entry ∷ []

-- the fields of hmac_params: hash and tag_size
abbrev pub hmac_entries : Contents → List Entry
hmac_entries m = uint32 1 m.mac_hash ∷ uint32 2 m.mac_tag_size ∷ []

-- the fields of params, in the order of their numbers in each message
abbrev pub params_entries : Layout → Contents → List Entry
params_entries layout m =
    if_field layout.iv_size (uint32 layout.iv_size m.iv_size)
    ++ (if_field layout.segment (uint32 layout.segment m.segment)
    ++ (if_field layout.derived (uint32 layout.derived m.derived)
    ++ (if_field layout.hash (uint32 layout.hash m.hash)
    ++ (if_field layout.tag_size (uint32 layout.tag_size m.tag_size)
    ++ (if_field layout.salt (content layout.salt m.salt)
    ++ if_field layout.hmac_params (message layout.hmac_params (written_all (hmac_entries m))))))))

-- params, always written where the message has it
abbrev pub params_entry : Layout → Contents → List Entry
params_entry layout m = if_field layout.params (message layout.params (written_all (params_entries layout m)))

-- the fields of a message with one key value, by number; the version is 0, so it isn't written
abbrev pub plain_entries : Layout → Contents → List Entry
plain_entries layout m =
    if nat_lt layout.key_value layout.params then content layout.key_value m.key ∷ params_entry layout m
    else params_entry layout m ++ (content layout.key_value m.key ∷ [])

-- the bytes of such a message
unfoldable pub plain_written : Layout → Contents → List ℕ
plain_written layout m = written_all (plain_entries layout m)

-- the contents of the HMAC key beside a cipher
abbrev pub mac_contents : Contents → Contents
mac_contents m = record nothing { hash = m.mac_hash; tag_size = m.mac_tag_size; key = m.mac }

-- the message of a type with these contents; aes_ctr_key is field 2 and hmac_key field 3
abbrev pub written_by : KeyType → Contents → List ℕ
written_by types.AesCtrHmac m = written_all (
    message 2 (plain_written aes_ctr_fields m) ∷ message 3 (plain_written hmac_fields (mac_contents m)) ∷ [])
written_by type m = plain_written (layout_of type) m

-- the message of a key
abbrev pub value_of : KeyKind → List ℕ
value_of key = written_by (type_of key) (contents_of key)

-- each list of bytes has at most so many of them
pub record ListsWithin (size : ℕ) (m : Contents) : Type 0 where
  pub key : length m.key ≤ size
  pub salt : length m.salt ≤ size
  pub mac : length m.mac ≤ size

-- numbers of 32 bits, as the fields of messages are
pub record AreNumbers (m : Contents) : Type 0 where
  pub version : m.version < 2 ^ 32
  pub iv_size : m.iv_size < 2 ^ 32
  pub segment : m.segment < 2 ^ 32
  pub derived : m.derived < 2 ^ 32
  pub hash : m.hash < 2 ^ 32
  pub tag_size : m.tag_size < 2 ^ 32
  pub mac_hash : m.mac_hash < 2 ^ 32
  pub mac_tag_size : m.mac_tag_size < 2 ^ 32

-- The message of a valid key, with lists of at most 2 ^ 31 bytes each, reads back to that key, under the
-- key's own type.
abbrev pub KeysReadBack : Type 0
KeysReadBack = (key : KeyKind) → IsValid key → AreNumbers (contents_of key)
    → ListsWithin (2 ^ 31) (contents_of key) → key_of (type_of key) (value_of key) ≡ Ok key

-- field numbers, or 0
pub record IsLayout (layout : Layout) : Type 0 where
  pub params : layout.params ≤ greatest_number
  pub iv_size : layout.iv_size ≤ greatest_number
  pub segment : layout.segment ≤ greatest_number
  pub derived : layout.derived ≤ greatest_number
  pub hash : layout.hash ≤ greatest_number
  pub tag_size : layout.tag_size ≤ greatest_number
  pub salt : layout.salt ≤ greatest_number
  pub hmac_params : layout.hmac_params ≤ greatest_number
  pub least : 0 < layout.key_value
  pub key_value : layout.key_value ≤ greatest_number
