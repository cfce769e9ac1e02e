-- The members of a keyset in JSON: their names (the JSON mapping of proto3), and what an object
-- has of them.
use Rattle.std.specs.Prelude.{ℕ, List, Option, Some, None, codes}
use Rattle.std.specs.Option.{option_or}
use Rattle.serde_json.specs.Data.{Data, null, boolean, number, string, array, object}
use Rattle.serde_json.specs.Find.{get}
use Rattle.keyset_json.specs.declared.member.Member.{Member}
use Rattle.keyset_json.specs.declared.member.Member.TheVariants as members

-- the name of a member; the keyset itself has one in refusals alone
unfoldable pub name_of : Member → List ℕ
name_of members.Keyset = codes "keyset"
name_of members.PrimaryKeyId = codes "primaryKeyId"
name_of members.Key = codes "key"
name_of members.KeyData = codes "keyData"
name_of members.TypeUrl = codes "typeUrl"
name_of members.Value = codes "value"
name_of members.KeyMaterialType = codes "keyMaterialType"
name_of members.Status = codes "status"
name_of members.KeyId = codes "keyId"
name_of members.OutputPrefixType = codes "outputPrefixType"

-- the name of its field in tink.proto
unfoldable pub field_name_of : Member → List ℕ
field_name_of members.Keyset = codes "keyset"
field_name_of members.PrimaryKeyId = codes "primary_key_id"
field_name_of members.Key = codes "key"
field_name_of members.KeyData = codes "key_data"
field_name_of members.TypeUrl = codes "type_url"
field_name_of members.Value = codes "value"
field_name_of members.KeyMaterialType = codes "key_material_type"
field_name_of members.Status = codes "status"
field_name_of members.KeyId = codes "key_id"
field_name_of members.OutputPrefixType = codes "output_prefix_type"

-- null counts as missing
abbrev pub unless_null : Option Data → Option Data
unless_null None = None
unless_null (Some null) = None
unless_null (Some (boolean b)) = Some (boolean b)
unless_null (Some (number n)) = Some (number n)
unless_null (Some (string s)) = Some (string s)
unless_null (Some (array ds)) = Some (array ds)
unless_null (Some (object ms)) = Some (object ms)

-- what an object has by the member's name or, where it has none of that name, by the field's; other
-- members are passed over
unfoldable pub member_of : Member → Data → Option Data
member_of m d = unless_null (option_or (get (name_of m) d) (get (field_name_of m) d))
