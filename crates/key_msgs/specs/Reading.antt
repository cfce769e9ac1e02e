-- The key of a type that a message gives, or the first rule that the message breaks.
--
--   plain         the contents of a message with one key value, by its field numbers
--   ctr_hmac      those of an AesCtrHmacAeadKey message
--   key_of        the key of the bytes of a message, or that rule
use Rattle.std.specs.Prelude.{◌≡◌, ℕ, max, List, Option, Some, None, Result, Ok, Err}
use Rattle.tink_spec.specs.Wire.{WireField, cut}
use Rattle.tink_spec.specs.Messages.{◌>>=◌, number_in, bytes_in, merged}
use Rattle.proto_wire.specs.declared.field.FieldsError.{FieldsError}
use Rattle.proto_wire.specs.declared.field.FieldsError.TheVariants as errors
use Rattle.key_msgs.specs.declared.key.KeyFault.{KeyFault}
use Rattle.key_msgs.specs.declared.key.KeyFault.TheVariants as faults
use Rattle.key_msgs.specs.declared.key.KeyKind.{KeyKind}
use Rattle.key_msgs.specs.declared.key_type.KeyType.{KeyType}
use Rattle.key_msgs.specs.declared.key_type.KeyType.TheVariants as types
use Rattle.key_msgs.specs.declared.layout.Layout.{Layout}
use Rattle.key_msgs.specs.declared.rule.Rule.{Rule}
use Rattle.key_msgs.specs.declared.rule.Rule.TheVariants as broken
use Rattle.key_msgs.specs.Contents.{Contents, nothing}
use Rattle.key_msgs.specs.KeyTypes.{layout_of, aes_ctr_fields, hmac_fields}
use Rattle.key_msgs.specs.Keys.{key_from}
use Rattle.key_msgs.specs.Rules.{first_broken}

-- version is field 1 of each message, and hash and tag_size are fields 1 and 2 of hmac_params
unfoldable pub plain : Layout → List WireField → Result Contents ℕ
plain layout fields = do
  version ← number_in 1 fields
  params ← merged layout.params fields
  iv_size ← number_in layout.iv_size params
  segment ← number_in layout.segment params
  derived ← number_in layout.derived params
  hash ← number_in layout.hash params
  tag_size ← number_in layout.tag_size params
  salt ← bytes_in layout.salt params
  hmac ← merged layout.hmac_params params
  mac_hash ← number_in 1 hmac
  mac_tag_size ← number_in 2 hmac
  key ← bytes_in layout.key_value fields
  Ok (record nothing {
    version = version;
    iv_size = iv_size;
    segment = segment;
    derived = derived;
    hash = hash;
    tag_size = tag_size;
    salt = salt.1;
    key = key.1;
    mac_hash = mac_hash;
    mac_tag_size = mac_tag_size;
  })

-- aes_ctr_key is field 2 and hmac_key field 3
unfoldable pub ctr_hmac : List WireField → Result Contents ℕ
ctr_hmac fields = do
  version ← number_in 1 fields
  aes_message ← merged 2 fields
  aes ← plain aes_ctr_fields aes_message
  mac_message ← merged 3 fields
  mac ← plain hmac_fields mac_message
  Ok (record aes {
    version = max version (max aes.version mac.version);
    mac_hash = mac.hash;
    mac_tag_size = mac.tag_size;
    mac = mac.key;
  })

-- what the fields of a type's message hold, or the place of a field at fault
abbrev pub contents_in : KeyType → List WireField → Result Contents ℕ
contents_in types.AesCtrHmac fields = ctr_hmac fields
contents_in type fields = plain (layout_of type) fields

-- what is read, or the rule that it is a message
abbrev pub formed : {A : Type 0} → Result A ℕ → Result A Rule
formed (Ok value) = Ok value
formed (Err place) = Err broken.Form

-- the key, unless a rule is broken
abbrev pub unless_broken : Option Rule → Result KeyKind Rule → Result KeyKind Rule
unless_broken None key = key
unless_broken (Some rule) key = Err rule

-- the key of these contents, or the first rule that they break
abbrev pub checked : KeyType → Contents → Result KeyKind Rule
checked type m = unless_broken (first_broken type m) (key_from type m)

-- the key of contents that could be read
abbrev pub and_checked : KeyType → Result Contents Rule → Result KeyKind Rule
and_checked type (Ok m) = checked type m
and_checked type (Err rule) = Err rule

-- the key of the bytes of a message, or the first rule that the message breaks
unfoldable pub key_of : KeyType → List ℕ → Result KeyKind Rule
key_of type value = and_checked type (formed (cut 0 value >>= contents_in type))

-- The value is what the definition gives, or the rule is. Of want of memory nothing is said.
abbrev pub GivesKey : {A : Type 0} → Result A KeyFault → Result A Rule → Type 0
GivesKey (Ok value) read = read ≡ Ok value
GivesKey (Err faults.NotKnown) read = ⊥
GivesKey (Err (faults.Bad rule)) read = read ≡ Err rule
GivesKey (Err faults.NoMemory) read = Unit {0}

-- the key of a message under a type URL
abbrev pub ReadsKey : Result KeyKind KeyFault → Option KeyType → List ℕ → Type 0
ReadsKey result (Some type) value = GivesKey result (key_of type value)
ReadsKey result None value = result ≡ Err faults.NotKnown

-- fields that can't be cut or merged break the rule that they are a message
abbrev pub of_fields_error : FieldsError → KeyFault
of_fields_error (errors.Wire wire) = faults.Bad broken.Form
of_fields_error errors.NoMemory = faults.NoMemory
