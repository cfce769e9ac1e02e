-- What the messages of key types hold (Tink, *.proto), apart from where they hold it.
--
--   Contents   the known fields of a key message, those of its inner messages among them
--   nothing    those of a message that has none
use Rattle.std.specs.Prelude.{ℕ, List, []}

-- the known fields of a key message, those of its inner messages among them; 0 and no byte stand
-- for what the message doesn't have
pub record Contents : Type 0 where
  -- the greatest version of the message and its inner key messages
  pub version : ℕ
  pub iv_size : ℕ
  -- ciphertext_segment_size
  pub segment : ℕ
  -- derived_key_size
  pub derived : ℕ
  -- the number of the hash function; of a stream it is that of HKDF
  pub hash : ℕ
  pub tag_size : ℕ
  pub salt : List ℕ
  -- key_value; of AesCtrHmacAeadKey that of its AesCtrKey
  pub key : List ℕ
  -- hash, tag_size and key_value of the HMAC beside a cipher
  pub mac_hash : ℕ
  pub mac_tag_size : ℕ
  pub mac : List ℕ

-- a message with nothing in it
abbrev pub nothing : Contents
nothing = record {
  version = 0;
  iv_size = 0;
  segment = 0;
  derived = 0;
  hash = 0;
  tag_size = 0;
  salt = [];
  key = [];
  mac_hash = 0;
  mac_tag_size = 0;
  mac = [];
}
