-- Encrypted keysets in both forms, by the definitions. The bytes are those that protoc 3.21.12 encodes of
-- this `EncryptedKeyset`, and the JSON is what Python's json prints of protobuf's mapping of it, with
-- sorted names and no spaces.
use Rattle.std.proofs.Common.{◌≡◌, ◌++◌, ◌∷◌, [], List, ℕ, refl}
use Rattle.std.specs.Prelude.{Ok, Err, codes}
use Rattle.standard_examples.proofs.TinkJson.{json_examples}
use Rattle.standard_examples.proofs.TinkWire.{wire_on_literals}
use Rattle.proto_wire.specs.Written.{groups_of}
use Rattle.seal_wrap.specs.Info.{Info}
use Rattle.seal_wrap.specs.Wrapped.{info_value, key_info_value, wrapped_binary, wrapped_json, wrapped_value}
use Rattle.seal_wrap.specs.Unwrapped.{encrypted_of, sealed_in_binary, sealed_in_json, OuterWire, Member}

-- three bytes that are sealed
abbrev sealed : List ℕ
sealed = 0x01 ∷ 0x02 ∷ 0xFF ∷ []

-- an ENABLED RAW key with the URL `u`, and a DESTROYED TINK one without a URL
abbrev info : Info
info = record {
  primary = 300;
  keys = record { url = codes "u"; status = 1; id = 300; prefix = 3 }
      ∷ record { url = []; status = 3; id = 6; prefix = 1 } ∷ [];
}

unfoldable pub text : List ℕ
text = 0x12 ∷ 0x03 ∷ 0x01 ∷ 0x02 ∷ 0xFF ∷ 0x1A ∷ 0x17 ∷ 0x08 ∷ 0xAC ∷ 0x02
    ∷ 0x12 ∷ 0x0A ∷ 0x0A ∷ 0x01 ∷ 0x75 ∷ 0x10 ∷ 0x01 ∷ 0x18 ∷ 0xAC ∷ 0x02 ∷ 0x20 ∷ 0x03
    ∷ 0x12 ∷ 0x06 ∷ 0x10 ∷ 0x03 ∷ 0x18 ∷ 0x06 ∷ 0x20 ∷ 0x01 ∷ []

pub binary_written : wrapped_binary sealed info ≡ text
unfolding text groups_of wrapped_binary
binary_written = refl

pub binary_read : sealed_in_binary text ≡ Ok sealed
unfolding text wire_on_literals sealed_in_binary
binary_read = refl

-- a second field of encrypted bytes counts, and info that is a number is at fault
pub binary_again : sealed_in_binary (0x12 ∷ 0x01 ∷ 0x07 ∷ 0x12 ∷ 0x03 ∷ sealed) ≡ Ok sealed
unfolding wire_on_literals sealed_in_binary
binary_again = refl

pub binary_fault : sealed_in_binary (0x12 ∷ 0x03 ∷ sealed ++ 0x18 ∷ 0x01 ∷ []) ≡ Err (OuterWire 5)
unfolding wire_on_literals sealed_in_binary
binary_fault = refl

pub json_written : wrapped_json sealed info
    ≡ codes "{\"encryptedKeyset\":\"AQL/\",\"keysetInfo\":{\"keyInfo\":[{\"keyId\":300,\"outputPrefixType\":\"RAW\",\"status\":\"ENABLED\",\"typeUrl\":\"u\"},{\"keyId\":6,\"outputPrefixType\":\"TINK\",\"status\":\"DESTROYED\"}],\"primaryKeyId\":300}}\n"
unfolding wrapped_json wrapped_value info_value key_info_value json_examples
json_written = refl

pub json_read : sealed_in_json (codes "{\"encrypted_keyset\":\"AQL_\",\"keysetInfo\":7}\n") ≡ Ok sealed
unfolding sealed_in_json encrypted_of json_examples
json_read = refl

-- null wins before the field's name
pub json_null : sealed_in_json (codes "{\"encryptedKeyset\":null,\"encrypted_keyset\":\"AQL/\"}") ≡ Ok []
unfolding sealed_in_json encrypted_of json_examples
json_null = refl

pub json_list : sealed_in_json (codes "[]") ≡ Err Member
unfolding sealed_in_json encrypted_of json_examples
json_list = refl
