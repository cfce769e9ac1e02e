-- What a wrapped keyset tells in clear of the keyset inside it (tink.proto: KeysetInfo).
--
--   KeyInfo    type URL, status, id and output prefix type of a key
--   Info       the primary id, and the info of each key, in order
--   info_of    that of a keyset
--   without_keys   a keyset less its key messages and key material types
use Rattle.std.specs.Prelude.{ℕ, List, [], map}
use Rattle.keyset_model.specs.Keyset.{Keys}
use Rattle.keyset_model.specs.declared.record.Record.{Record}

-- what is told of a key
pub record KeyInfo : Type 0 where
  pub url : List ℕ
  pub status : ℕ
  pub id : ℕ
  pub prefix : ℕ

-- what is told of a keyset
pub record Info : Type 0 where
  pub primary : ℕ
  pub keys : List KeyInfo

-- that of a record
abbrev pub key_info_of : Record → KeyInfo
key_info_of r = record { url = r.url; status = r.status; id = r.id; prefix = r.prefix }

-- that of a primary id and records
abbrev pub info_of : Keys → Info
info_of keys = record { primary = keys.primary; keys = map key_info_of keys.records }

-- a record less its key message and the key material type
abbrev pub without_key : Record → Record
without_key r = record {
  id = r.id;
  status = r.status;
  prefix = r.prefix;
  url = r.url;
  value = [];
  material = 0;
}

-- a keyset less all of them
abbrev pub without_keys : Keys → Keys
without_keys keys = record {
  primary = keys.primary;
  records = map without_key keys.records;
}
