-- The table of the program: a manager for each scheme, in the list of its primitive, under the type
-- URL of its keys.
use Rattle.std.specs.Prelude.{[], ◌∷◌}
use Rattle.key_msgs.specs.KeyTypes.{url_of_type}
use Rattle.managers.specs.Schemes.{Scheme, Gcm, Eax, CtrHmac, GcmSiv, Siv, Hmac, Cmac, HkdfPrf, HmacPrf, CmacPrf, type_under}
use Rattle.managers.specs.Table.{Entry, Table}

-- the manager of a scheme under the type URL of its keys
abbrev pub standard_entry : Scheme → Entry
standard_entry scheme = record { url = url_of_type (type_under scheme); scheme = scheme }

-- each of the ten schemes once, in the list of its primitive, under its own type URL
abbrev pub standard_table : Table
standard_table = record {
  aead = standard_entry Gcm ∷ standard_entry Eax ∷ standard_entry CtrHmac ∷ standard_entry GcmSiv ∷ [];
  daead = standard_entry Siv ∷ [];
  mac = standard_entry Hmac ∷ standard_entry Cmac ∷ [];
  prf = standard_entry HkdfPrf ∷ standard_entry HmacPrf ∷ standard_entry CmacPrf ∷ [];
}
