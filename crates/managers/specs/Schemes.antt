-- What a manager of keys is for, which contracts alone see.
--
--   Scheme        the kinds of keys that aren't for streams
--   aead_scheme, mac_scheme, prf_scheme   the schemes that the code names
--   type_under    the key type of a scheme
--   IsReading     a key or a broken rule is what a message reads as
--   IsAdmitted    a key is a valid one of the scheme
use Rattle.std.specs.Prelude.{◌≡◌, ℕ, List, Result, Ok, Err}
use Rattle.key_msgs.specs.Keys.{type_of, IsValid}
use Rattle.key_msgs.specs.Reading.{key_of}
use Rattle.key_msgs.specs.declared.key.KeyKind.{KeyKind}
use Rattle.key_msgs.specs.declared.key_type.KeyType.{KeyType}
use Rattle.key_msgs.specs.declared.key_type.KeyType.TheVariants as types
use Rattle.key_msgs.specs.declared.rule.Rule.{Rule}
use Rattle.managers.specs.declared.aead.AeadScheme.{AeadScheme}
use Rattle.managers.specs.declared.aead.AeadScheme.TheVariants as aeads
use Rattle.managers.specs.declared.mac.MacScheme.{MacScheme}
use Rattle.managers.specs.declared.mac.MacScheme.TheVariants as macs
use Rattle.managers.specs.declared.prf.PrfScheme.{PrfScheme}
use Rattle.managers.specs.declared.prf.PrfScheme.TheVariants as prfs
use Rattle.managers.specs.declared.interfaces.CheckFault.{CheckFault}
use Rattle.managers.specs.declared.interfaces.CheckFault.TheVariants.{Bad, NoMemory}

-- the kinds of keys that aren't for streams
pub data Scheme : Type 0 where
  Gcm : Scheme
  Eax : Scheme
  CtrHmac : Scheme
  GcmSiv : Scheme
  Siv : Scheme
  Hmac : Scheme
  Cmac : Scheme
  HkdfPrf : Scheme
  HmacPrf : Scheme
  CmacPrf : Scheme

-- the scheme of an AEAD that the code names
abbrev pub aead_scheme : AeadScheme → Scheme
aead_scheme aeads.Gcm = Gcm
aead_scheme aeads.Eax = Eax
aead_scheme aeads.CtrHmac = CtrHmac
aead_scheme aeads.GcmSiv = GcmSiv

-- the same of a MAC
abbrev pub mac_scheme : MacScheme → Scheme
mac_scheme macs.Hmac = Hmac
mac_scheme macs.Cmac = Cmac

-- and of a pseudo-random function
abbrev pub prf_scheme : PrfScheme → Scheme
prf_scheme prfs.Hkdf = HkdfPrf
prf_scheme prfs.Hmac = HmacPrf
prf_scheme prfs.Cmac = CmacPrf

-- the type of the scheme's keys
abbrev pub type_under : Scheme → KeyType
type_under Gcm = types.AesGcm
type_under Eax = types.AesEax
type_under CtrHmac = types.AesCtrHmac
type_under GcmSiv = types.AesGcmSiv
type_under Siv = types.AesSiv
type_under Hmac = types.Hmac
type_under Cmac = types.AesCmac
type_under HkdfPrf = types.HkdfPrf
type_under HmacPrf = types.HmacPrf
type_under CmacPrf = types.CmacPrf

-- the key of a message under the scheme, or the first rule that the message breaks
abbrev pub key_under : Scheme → List ℕ → Result KeyKind Rule
key_under scheme value = key_of (type_under scheme) value

-- The answer is that key or that rule. Of want of memory nothing is said.
abbrev pub IsReading : Result KeyKind Rule → Result KeyKind CheckFault → Type 0
IsReading read (Ok key) = read ≡ Ok key
IsReading read (Err (Bad rule)) = read ≡ Err rule
IsReading read (Err NoMemory) = Unit {0}

-- a key of that type that keeps every rule
abbrev pub IsOfType : KeyType → KeyKind → Type 0
IsOfType type key = (type_of key ≡ type) × IsValid key

-- a valid key of the scheme
abbrev pub IsAdmitted : Scheme → KeyKind → Type 0
IsAdmitted scheme key = IsOfType (type_under scheme) key
