-- What is known of the key of some contents, by one line for each type.
use Rattle.std.proofs.Common.{◌≡◌, refl, ℕ, Option, Some, None, Result}
use Rattle.std.specs.Prelude.{IfOk}
use Rattle.tink_base.specs.Hash.{hash_of_number}
use Rattle.tink_base.specs.declared.hash.Hash.{Hash}
use Rattle.key_msgs.specs.Contents.{Contents}
use Rattle.key_msgs.specs.Keys.{contents_of, key_from, type_of, with_hash}
use Rattle.key_msgs.specs.declared.key.KeyKind.{KeyKind}
use Rattle.key_msgs.specs.declared.key_type.KeyType.{KeyType}
use Rattle.key_msgs.specs.declared.key_type.KeyType.TheVariants as types
use Rattle.key_msgs.specs.declared.rule.Rule.{Rule}

-- it has their type, and the cipher's key is theirs
pub record IsFrom (type : KeyType) (m : Contents) (key : KeyKind) : Type 0 where
  pub of_type : type_of key ≡ type
  pub value : (contents_of key).key ≡ m.key

hashed : (type : KeyType) (m : Contents) (hash : Option Hash) (next : Hash → Result KeyKind Rule)
    → ((h : Hash) → IfOk (next h) (IsFrom type m)) → IfOk (with_hash hash next) (IsFrom type m)
hashed type m None next each = tt
hashed type m (Some h) next each = each h

pub key_from-is : (type : KeyType) (m : Contents) → IfOk (key_from type m) (IsFrom type m)
key_from-is types.AesGcm m = record { of_type = refl; value = refl }
key_from-is types.AesEax m = record { of_type = refl; value = refl }
key_from-is types.AesCtrHmac m = hashed _ m (hash_of_number m.mac_hash) _ (λ h. record { of_type = refl; value = refl })
key_from-is types.AesSiv m = record { of_type = refl; value = refl }
key_from-is types.Hmac m = hashed _ m (hash_of_number m.hash) _ (λ h. record { of_type = refl; value = refl })
key_from-is types.AesCmac m = record { of_type = refl; value = refl }
key_from-is types.HkdfPrf m = hashed _ m (hash_of_number m.hash) _ (λ h. record { of_type = refl; value = refl })
key_from-is types.HmacPrf m = hashed _ m (hash_of_number m.hash) _ (λ h. record { of_type = refl; value = refl })
key_from-is types.CmacPrf m = record { of_type = refl; value = refl }
key_from-is types.GcmStream m = hashed _ m (hash_of_number m.hash) _ (λ h. record { of_type = refl; value = refl })
key_from-is types.CtrStream m = hashed _ m (hash_of_number m.hash) _ (λ h. hashed _ m (hash_of_number m.mac_hash) _ (λ k. record { of_type = refl; value = refl }))
key_from-is types.AesGcmSiv m = record { of_type = refl; value = refl }
