-- A key that a message reads as is a valid one of its type, and each type's URL is its own.
use Rattle.std.proofs.Common.{◌≡◌, ◌∙◌, ap, subst, refl, ℕ, List, Option, Some, None, Result, Ok, Err}
use Rattle.std.specs.Prelude.{IfOk}
use Rattle.key_msgs.specs.Contents.{Contents}
use Rattle.key_msgs.specs.KeyTypes.{type_of_url, url_of_type}
use Rattle.key_msgs.specs.Keys.{key_from, IsValid}
use Rattle.tink_spec.specs.Messages.{◌>>=◌}
use Rattle.tink_spec.specs.Wire.{cut}
use Rattle.key_msgs.specs.Reading.{contents_in, key_of, and_checked, unless_broken, formed, GivesKey, ReadsKey}
use Rattle.key_msgs.specs.Rules.{first_broken}
use Rattle.key_msgs.specs.declared.key.KeyFault.{KeyFault}
use Rattle.key_msgs.specs.declared.key.KeyKind.{KeyKind}
use Rattle.key_msgs.specs.declared.key_type.KeyType.{KeyType}
use Rattle.key_msgs.specs.declared.key_type.KeyType.TheVariants as types
use Rattle.key_msgs.specs.declared.rule.Rule.{Rule}
use Rattle.key_msgs.proofs.FromContents.{IsFrom, key_from-is}
use Rattle.key_msgs.proofs.Validity.{key_from-valid}
use Rattle.managers.specs.Schemes.{IsOfType}

-- the URL of a type is that of no other type
pub type_of_url-own : (type : KeyType) → type_of_url (url_of_type type) ≡ Some type
unfolding type_of_url
type_of_url-own types.AesGcm = refl
type_of_url-own types.AesEax = refl
type_of_url-own types.AesCtrHmac = refl
type_of_url-own types.AesSiv = refl
type_of_url-own types.Hmac = refl
type_of_url-own types.AesCmac = refl
type_of_url-own types.HkdfPrf = refl
type_of_url-own types.HmacPrf = refl
type_of_url-own types.CmacPrf = refl
type_of_url-own types.GcmStream = refl
type_of_url-own types.CtrStream = refl
type_of_url-own types.AesGcmSiv = refl

-- what is read under the URL of a type is read as that type
pub read_by_own : (result : Result KeyKind KeyFault) (url : List ℕ) (type : KeyType) (value : List ℕ)
    → url ≡ url_of_type type → ReadsKey result (type_of_url url) value → GivesKey result (key_of type value)
read_by_own result url type value same reads =
    subst (λ (found : Option KeyType). ReadsKey result found value) (ap type_of_url same ∙ type_of_url-own type) reads

if_ok : (P : KeyKind → Type 0) (read : Result KeyKind Rule) (key : KeyKind) → IfOk read P → read ≡ Ok key → P key
if_ok P read key holds same = subst (λ (r : Result KeyKind Rule). IfOk r P) same holds

unless : (type : KeyType) (m : Contents) (broken : Option Rule) (key : KeyKind)
    → first_broken type m ≡ broken → unless_broken broken (key_from type m) ≡ Ok key → IsOfType type key
unless type m None key none same =
    ((if_ok (IsFrom type m) (key_from type m) key (key_from-is type m) same).of_type, if_ok IsValid (key_from type m) key (key_from-valid type m none) same)
unless type m (Some rule) key some same = cc

from_contents : (type : KeyType) (read : Result Contents Rule) (key : KeyKind) → and_checked type read ≡ Ok key → IsOfType type key
from_contents type (Ok m) key same = unless type m (first_broken type m) key refl same
from_contents type (Err rule) key same = cc

-- a key that a message reads as is a valid one of the type
pub read_of_type : (type : KeyType) (value : List ℕ) (key : KeyKind) → key_of type value ≡ Ok key → IsOfType type key
unfolding key_of
read_of_type type value key same = from_contents type (formed (cut 0 value >>= contents_in type)) key same
