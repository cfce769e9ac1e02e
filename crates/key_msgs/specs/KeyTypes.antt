-- The key types (Tink, *.proto): for each its message's name, its primitive and its fields.
--
--   row_of        the table of these
--   aes_ctr_fields, hmac_fields   the fields of the messages inside AesCtrHmacAeadKey
--   all_types     the twelve key types
--   type_of_url   the key type of a type URL
--
-- The fields are the field numbers of a message with one key value; 0 is no number of a field, so it
-- stands for a field that the message doesn't have.
use Rattle.std.specs.Prelude.{ℕ, List, [], ◌∷◌, ◌++◌, Option, find, codes}
use Rattle.std.specs.Str.{bytes_eq}
use Rattle.key_msgs.specs.declared.key_type.KeyType.{KeyType}
use Rattle.key_msgs.specs.declared.key_type.KeyType.TheVariants as types
use Rattle.key_msgs.specs.declared.layout.Layout.{Layout}
use Rattle.key_msgs.specs.declared.primitive.Primitive.{Primitive}
use Rattle.key_msgs.specs.declared.primitive.Primitive.TheVariants.{Aead, Daead, Mac, Prf, Stream}

-- a message with no field but version = 1, which each has
abbrev pub no_fields : Layout
no_fields = record {
  params = 0;
  iv_size = 0;
  segment = 0;
  derived = 0;
  hash = 0;
  tag_size = 0;
  salt = 0;
  hmac_params = 0;
  key_value = 0;
}

-- what is known of a key type: its message's name, its primitive and its fields
pub record Row : Type 0 where
  pub name : List ℕ
  pub primitive : Primitive
  pub fields : Layout

-- the table of the key types
abbrev pub row_of : KeyType → Row
row_of types.AesGcm = record {
  name = codes "AesGcmKey";
  primitive = Aead;
  fields = record no_fields { key_value = 3 };
}
row_of types.AesEax = record {
  name = codes "AesEaxKey";
  primitive = Aead;
  fields = record no_fields { params = 2; iv_size = 1; key_value = 3 };
}
-- aes_ctr_key = 2 and hmac_key = 3 are messages of their own
row_of types.AesCtrHmac = record {
  name = codes "AesCtrHmacAeadKey";
  primitive = Aead;
  fields = no_fields;
}
row_of types.AesSiv = record {
  name = codes "AesSivKey";
  primitive = Daead;
  fields = record no_fields { key_value = 2 };
}
row_of types.Hmac = record {
  name = codes "HmacKey";
  primitive = Mac;
  fields = record no_fields { params = 2; hash = 1; tag_size = 2; key_value = 3 };
}
row_of types.AesCmac = record {
  name = codes "AesCmacKey";
  primitive = Mac;
  fields = record no_fields { key_value = 2; params = 3; tag_size = 1 };
}
row_of types.HkdfPrf = record {
  name = codes "HkdfPrfKey";
  primitive = Prf;
  fields = record no_fields { params = 2; hash = 1; salt = 2; key_value = 3 };
}
row_of types.HmacPrf = record {
  name = codes "HmacPrfKey";
  primitive = Prf;
  fields = record no_fields { params = 2; hash = 1; key_value = 3 };
}
row_of types.CmacPrf = record {
  name = codes "AesCmacPrfKey";
  primitive = Prf;
  fields = record no_fields { key_value = 2 };
}
row_of types.GcmStream = record {
  name = codes "AesGcmHkdfStreamingKey";
  primitive = Stream;
  fields = record no_fields { params = 2; segment = 1; derived = 2; hash = 3; key_value = 3 };
}
row_of types.CtrStream = record {
  name = codes "AesCtrHmacStreamingKey";
  primitive = Stream;
  fields = record no_fields { params = 2; segment = 1; derived = 2; hash = 3; hmac_params = 4; key_value = 3 };
}
row_of types.AesGcmSiv = record {
  name = codes "AesGcmSivKey";
  primitive = Aead;
  fields = record no_fields { key_value = 3 };
}

-- the inner messages of AesCtrHmacAeadKey; an AesCtrKey is no key type by itself
abbrev pub aes_ctr_fields : Layout
aes_ctr_fields = record no_fields { params = 2; iv_size = 1; key_value = 3 }

-- the HMAC key beside a cipher is an HmacKey
abbrev pub hmac_fields : Layout
hmac_fields = (row_of types.Hmac).fields

-- the fields of a type's message
abbrev pub layout_of : KeyType → Layout
layout_of type = (row_of type).fields

-- what keys of the type are for
abbrev pub primitive_of_type : KeyType → Primitive
primitive_of_type type = (row_of type).primitive

-- the type URL: Tink's prefix and the message's name
abbrev pub url_of_type : KeyType → List ℕ
url_of_type type = codes "type.googleapis.com/google.crypto.tink." ++ (row_of type).name

-- the twelve key types
abbrev pub all_types : List KeyType
all_types = types.AesGcm ∷ types.AesEax ∷ types.AesCtrHmac ∷ types.AesSiv ∷ types.Hmac ∷ types.AesCmac
    ∷ types.HkdfPrf ∷ types.HmacPrf ∷ types.CmacPrf ∷ types.GcmStream ∷ types.CtrStream
    ∷ types.AesGcmSiv ∷ []

-- the type of a URL, compared byte by byte, or none
unfoldable pub type_of_url : List ℕ → Option KeyType
type_of_url url = find (λ type. bytes_eq (url_of_type type) url) all_types
