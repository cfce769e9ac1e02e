-- A keyset of 90 bytes in the wire format of Tink, its neighbours, its listing and what is written of it,
-- by the definitions.
use Rattle.std.proofs.Common.{◌≡◌, ◌++◌, ◌∷◌, [], List, ℕ, length, take, drop, refl}
use Rattle.std.specs.Prelude.{Ok, Err, codes, replicate}
use Rattle.std.specs.Fmt.{digits}
use Rattle.std.specs.Str.{is_utf8, chars}
use Rattle.standard_examples.proofs.TinkWire.{wire_on_literals, url, keyset}
use Rattle.proto_wire.specs.Written.{groups_of}
use Rattle.keyset_model.specs.declared.keyset.KeysetRefusal.TheVariants as faults
use Rattle.keyset_model.specs.Keyset.{Keys, first_two, first_without, first_some, when, fault_of}
use Rattle.keyset_model.specs.Listing.{status_text, prefix_text, escaped, record_lines, info_of}
use Rattle.keyset_model.specs.Reading.{record_of, key_of, reads_binary, Wire, Fault}
use Rattle.keyset_model.specs.Writing.{binary_of}
use lib.Utf8.{encode}

-- one name for what unfolds in an example
unfoldable pub keysets_on_literals : Unit {0}
unfolding wire_on_literals url keyset is_utf8 chars encode record_of key_of first_two first_without first_some when fault_of reads_binary
keysets_on_literals = tt

-- the keyset of those 90 bytes: an AES-GCM key of 16 zero bytes
unfoldable pub one_key : Keys
unfolding url
one_key = record {
  primary = 16909060;
  records = record { id = 16909060; status = 1; prefix = 1; url = url; value = 0x1A ∷ 0x10 ∷ replicate 16 0; material = 1 } ∷ [];
}

pub read_whole : reads_binary keyset ≡ Ok one_key
unfolding keysets_on_literals one_key
read_whole = refl

-- the URL in a first part of key_data, the rest in a second, in 92 bytes
unfoldable pub two_parts : List ℕ
unfolding url
two_parts = 0x08 ∷ 0x84 ∷ 0x86 ∷ 0x88 ∷ 0x08 ∷ 0x12 ∷ 0x55 ∷ 0x0A ∷ 0x32 ∷ 0x0A ∷ 0x30 ∷ url
    ++ 0x0A ∷ 0x16 ∷ 0x12 ∷ 0x12 ∷ 0x1A ∷ 0x10 ∷ replicate 16 0 ++ 0x18 ∷ 0x01 ∷ []
    ++ 0x10 ∷ 0x01 ∷ 0x18 ∷ 0x84 ∷ 0x86 ∷ 0x88 ∷ 0x08 ∷ 0x20 ∷ 0x01 ∷ []

pub read_two_parts : reads_binary two_parts ≡ Ok one_key
unfolding keysets_on_literals two_parts one_key
read_two_parts = refl

-- without its last byte the key runs past the end, and its tag stands at 5
pub read_cut_short : reads_binary (take 89 keyset) ≡ Err (Wire 5)
unfolding keysets_on_literals
read_cut_short = refl

-- a field 5, which no message here knows
pub read_unknown : reads_binary (keyset ++ 0x28 ∷ 0x07 ∷ []) ≡ Ok one_key
unfolding keysets_on_literals one_key
read_unknown = refl

-- a field of wire type 3
pub read_group : reads_binary (keyset ++ 0x2B ∷ []) ≡ Err (Wire 90)
unfolding keysets_on_literals
read_group = refl

-- of two primary ids the last counts
pub read_last_primary : reads_binary (0x08 ∷ 0x05 ∷ keyset) ≡ Ok one_key
unfolding keysets_on_literals one_key
read_last_primary = refl

pub read_nothing : reads_binary [] ≡ Err (Fault faults.Empty)
unfolding keysets_on_literals
read_nothing = refl

-- the primary id 5, and the key as before
pub read_other_primary : reads_binary (0x08 ∷ 0x05 ∷ drop 5 keyset) ≡ Err (Fault faults.NoPrimary)
unfolding keysets_on_literals
read_other_primary = refl

-- a second key, which is empty
pub read_two_keys : reads_binary (keyset ++ 0x12 ∷ 0x00 ∷ []) ≡ Err (Fault (faults.UnknownStatus 1))
unfolding keysets_on_literals
read_two_keys = refl

-- a type URL of the byte 0xFF, which isn't UTF-8, three messages deep
pub read_no_text : reads_binary (0x12 ∷ 0x05 ∷ 0x0A ∷ 0x03 ∷ 0x0A ∷ 0x01 ∷ 0xFF ∷ []) ≡ Err (Wire 0)
unfolding keysets_on_literals
read_no_text = refl

-- it is written in those 90 bytes again
pub write_one_key : binary_of one_key ≡ keyset
unfolding url keyset one_key groups_of binary_of
write_one_key = refl

-- primary id and key id 5, and a DESTROYED key without key data, of id 6
unfoldable pub bare_key : Keys
bare_key = record {
  primary = 5;
  records = record { id = 5; status = 1; prefix = 3; url = 0x61 ∷ []; value = []; material = 1 }
      ∷ record { id = 6; status = 3; prefix = 1; url = []; value = []; material = 0 } ∷ [];
}

-- 0a0161 and 1801 are the URL and the material, and behind the bare key's tag and length stand its
-- status, id and prefix alone
pub write_bare_key : binary_of bare_key ≡ 0x08 ∷ 0x05 ∷ 0x12 ∷ 0x0D ∷ 0x0A ∷ 0x05 ∷ 0x0A ∷ 0x01 ∷ 0x61 ∷ 0x18 ∷ 0x01 ∷ 0x10 ∷ 0x01 ∷ 0x18 ∷ 0x05 ∷ 0x20 ∷ 0x03
    ∷ 0x12 ∷ 0x06 ∷ 0x10 ∷ 0x03 ∷ 0x18 ∷ 0x06 ∷ 0x20 ∷ 0x01 ∷ []
unfolding groups_of bare_key binary_of
write_bare_key = refl

unfoldable pub its_listing : List ℕ
unfolding url
its_listing = codes "primary_key_id: 16909060\nkey_info {\n  type_url: \"" ++ url
    ++ codes "\"\n  status: ENABLED\n  key_id: 16909060\n  output_prefix_type: TINK\n}\n"

pub list_one_key : info_of one_key ≡ its_listing
unfolding url one_key its_listing digits status_text prefix_text record_lines info_of
list_one_key = refl

pub listing_of_165_bytes : length its_listing ≡ 165
unfolding url its_listing
listing_of_165_bytes = refl

-- a quote, a backslash, bytes that don't print and the two bytes of an é
pub escape_bytes : escaped (0x61 ∷ 0x22 ∷ 0x5C ∷ 0x0A ∷ 0x1F ∷ 0x20 ∷ 0x7E ∷ 0x7F ∷ 0xC3 ∷ 0xA9 ∷ []) ≡ codes "a\\\"\\\\\\012\\037 ~\\177\\303\\251"
escape_bytes = refl
