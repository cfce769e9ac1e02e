-- Keysets in Tink's JSON form, by the definitions. The examples are by hand, but for base64's.
use Rattle.std.proofs.Common.{◌≡◌, [], ◌∷◌, Some, None, Ok, Err, codes, refl}
use Rattle.base64.proofs.OnLiterals.{base64_on_literals}
use Rattle.serde_json.proofs.OnLiterals.{serde_json_on_literals}
use Rattle.std.specs.Prelude.{⊤}
use Rattle.std.specs.Fmt.{digits}
use Rattle.std.specs.Str.{chars, is_utf8}
use Rattle.keyset_model.specs.declared.record.Record.{Record}
use Rattle.keyset_model.specs.declared.keyset.KeysetRefusal.TheVariants as faults
use Rattle.keyset_model.specs.Keyset.{fault_of, first_some, first_two, first_without, when}
use Rattle.keyset_json.specs.Members.{name_of, field_name_of, member_of}
use Rattle.keyset_json.specs.Nesting.{is_shallow, nests_within}
use Rattle.keyset_json.specs.Reading.{json_value, without_newline, of_keyset, of_key, record_of, records_of, keys_of, NotJson, Shape, Fault, reads_json}
use Rattle.keyset_json.specs.Writing.{data_value, key_value, keyset_value, json_of}
use Rattle.keyset_json.specs.declared.member.Member.TheVariants as members
use Rattle.keyset_json.specs.Base64Text.{bytes_of_text}
use Rattle.tink_base.specs.Decimal.{number_in}
use Rattle.base64.specs.GeneralPurpose.{decoded_of}

-- what unfolds to compute the reading of a literal
unfoldable pub json_examples : ⊤
unfolding reads_json json_value is_shallow nests_within without_newline keys_of records_of record_of member_of fault_of first_some first_two first_without when chars is_utf8 digits name_of field_name_of serde_json_on_literals base64_on_literals bytes_of_text number_in
json_examples = tt

-- RFC 4648, section 10, and the same without padding
pub padded : bytes_of_text (codes "Zm9vYg==") ≡ Some (codes "foob")
unfolding bytes_of_text first_some decoded_of base64_on_literals
padded = refl

pub both_alphabets : bytes_of_text (codes "+_8=") ≡ None
unfolding bytes_of_text first_some decoded_of base64_on_literals
both_alphabets = refl

pub leading_zeros : number_in (codes "007") ≡ Some 7
unfolding number_in
leading_zeros = refl

pub too_large : number_in (codes "4294967296") ≡ None
unfolding number_in
too_large = refl

pub a_list : reads_json (codes "[]") ≡ Err (Shape (of_keyset members.Keyset))
unfolding json_examples
a_list = refl

pub no_key : reads_json (codes "{}\n") ≡ Err (Fault faults.Empty)
unfolding json_examples
no_key = refl

pub a_number_as_a_key : reads_json (codes "{\"key\":[7]}") ≡ Err (Shape (of_key 0 members.Key))
unfolding json_examples
a_number_as_a_key = refl

pub no_end : reads_json (codes "{") ≡ Err NotJson
unfolding json_examples
no_end = refl

abbrev pub one : Record
one = record { id = 7; status = 1; prefix = 3; url = codes "u"; value = 255 ∷ []; material = 1 }

-- the text of one key, and the key that it reads back as
pub written : json_of (record { primary = 7; records = one ∷ [] })
    ≡ codes "{\"key\":[{\"keyData\":{\"keyMaterialType\":\"SYMMETRIC\",\"typeUrl\":\"u\",\"value\":\"/w==\"},\"keyId\":7,\"outputPrefixType\":\"RAW\",\"status\":\"ENABLED\"}],\"primaryKeyId\":7}\n"
unfolding json_of keyset_value key_value data_value json_examples
written = refl

-- other spellings of the same
pub spelled : reads_json (codes "{\"primary_key_id\":\"7\",\"key\":[{\"key_data\":{\"type_url\":\"u\",\"value\":\"_w\",\"key_material_type\":1},\"status\":1,\"key_id\":7,\"output_prefix_type\":3}]}")
    ≡ Ok (record { primary = 7; records = one ∷ [] })
unfolding json_examples
spelled = refl
