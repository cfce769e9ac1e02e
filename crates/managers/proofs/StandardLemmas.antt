-- The managers of the standard table serve the key types of their primitive, each under its own URL.
use Rattle.std.proofs.Common.{◌≡◌, ◌∙◌, refl, ap, subst, Bool, true, false, Some}
use Rattle.key_msgs.specs.KeyTypes.{primitive_of_type, url_of_type}
use Rattle.key_msgs.specs.declared.key_type.KeyType.{KeyType}
use Rattle.key_msgs.specs.declared.key_type.KeyType.TheVariants as types
use Rattle.key_msgs.specs.declared.primitive.Primitive.{Primitive}
use Rattle.key_msgs.specs.declared.primitive.Primitive.TheVariants.{Stream}
use Rattle.managers.specs.Schemes.{Scheme, Gcm, Eax, CtrHmac, GcmSiv, Siv, Hmac, Cmac, HkdfPrf, HmacPrf, CmacPrf, type_under}
use Rattle.managers.specs.Standard.{standard_table}
use Rattle.managers.specs.Table.{scheme_at}

-- primitives that have managers
abbrev pub is_served : Primitive → Bool
is_served Stream = false
is_served _ = true

-- the manager of a key type
pub record HasScheme (primitive : Primitive) (type : KeyType) : Type 0 where
  pub scheme : Scheme
  pub at : scheme_at standard_table primitive (url_of_type type) ≡ Some scheme
  pub under : type_under scheme ≡ type

own_scheme : (type : KeyType) → is_served (primitive_of_type type) ≡ true → HasScheme (primitive_of_type type) type
own_scheme types.AesGcm e = record { scheme = Gcm; at = refl; under = refl }
own_scheme types.AesEax e = record { scheme = Eax; at = refl; under = refl }
own_scheme types.AesCtrHmac e = record { scheme = CtrHmac; at = refl; under = refl }
own_scheme types.AesSiv e = record { scheme = Siv; at = refl; under = refl }
own_scheme types.Hmac e = record { scheme = Hmac; at = refl; under = refl }
own_scheme types.AesCmac e = record { scheme = Cmac; at = refl; under = refl }
own_scheme types.HkdfPrf e = record { scheme = HkdfPrf; at = refl; under = refl }
own_scheme types.HmacPrf e = record { scheme = HmacPrf; at = refl; under = refl }
own_scheme types.CmacPrf e = record { scheme = CmacPrf; at = refl; under = refl }
own_scheme types.GcmStream e = absurd cc
own_scheme types.CtrStream e = absurd cc
own_scheme types.AesGcmSiv e = record { scheme = GcmSiv; at = refl; under = refl }

pub has_scheme : (primitive : Primitive) (type : KeyType) → is_served primitive ≡ true → primitive_of_type type ≡ primitive → HasScheme primitive type
has_scheme primitive type served is = subst (λ p. HasScheme p type) is (own_scheme type (ap is_served is ∙ served))
