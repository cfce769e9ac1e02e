-- The wire format of Protocol Buffers, as Tink writes its keysets in it, computed from the
-- definitions.
use Rattle.std.proofs.Common.{◌≡◌, ◌++◌, ◌∷◌, [], List, ℕ, ◌+◌, ◌^◌, ◌-◌, length, take, refl}
use Rattle.std.specs.Prelude.{Some, Ok, Err, codes, replicate}
use Rattle.tink_spec.specs.Varint.{varint_front, number_front}
use Rattle.tink_spec.specs.Wire.{varint, bytes, payload_front, field_front, cut_within, cut}
use Rattle.tink_spec.specs.Messages.{number_in, merged}

-- one name for what unfolds in an example
unfoldable pub wire_on_literals : Unit {0}
unfolding varint_front number_front payload_front field_front cut_within
wire_on_literals = tt

-- 2 ^ 64 - 1 takes ten bytes, and a surplus bit of the tenth falls off
pub ten_bytes : number_front (0xFF ∷ 0xFF ∷ 0xFF ∷ 0xFF ∷ 0xFF ∷ 0xFF ∷ 0xFF ∷ 0xFF ∷ 0xFF ∷ 0x7F ∷ 7 ∷ []) ≡ Some (2 ^ 64 - 1, 7 ∷ [])
unfolding wire_on_literals
ten_bytes = refl

unfoldable pub url : List ℕ
url = codes "type.googleapis.com/google.crypto.tink.AesGcmKey"

-- the key data of a keyset with one AES-GCM key of 16 zero bytes
unfoldable pub key_data : List ℕ
unfolding url
key_data = 0x0A ∷ 0x30 ∷ url ++ 0x12 ∷ 0x12 ∷ 0x1A ∷ 0x10 ∷ replicate 16 0 ++ 0x18 ∷ 0x01 ∷ []

-- its one key, enabled, with the key id 16909060 and the prefix type TINK
unfoldable pub key : List ℕ
unfolding key_data
key = 0x0A ∷ 0x48 ∷ key_data ++ 0x10 ∷ 0x01 ∷ 0x18 ∷ 0x84 ∷ 0x86 ∷ 0x88 ∷ 0x08 ∷ 0x20 ∷ 0x01 ∷ []

-- the keyset, of 90 bytes
unfoldable pub keyset : List ℕ
unfolding key
keyset = 0x08 ∷ 0x84 ∷ 0x86 ∷ 0x88 ∷ 0x08 ∷ 0x12 ∷ 0x53 ∷ key

pub keyset_of_90_bytes : length keyset ≡ 90
unfolding keyset
keyset_of_90_bytes = refl

pub its_fields : cut 0 keyset ≡ Ok (
    record { number = 1; at = 0; payload = varint 16909060 }
    ∷ record { number = 2; at = 5; payload = bytes 7 key } ∷ [])
unfolding keyset wire_on_literals
its_fields = refl

pub its_keys_fields : cut 7 key ≡ Ok (
    record { number = 1; at = 7; payload = bytes 9 key_data }
    ∷ record { number = 2; at = 81; payload = varint 1 }
    ∷ record { number = 3; at = 83; payload = varint 16909060 }
    ∷ record { number = 4; at = 88; payload = varint 1 } ∷ [])
unfolding key wire_on_literals
its_keys_fields = refl

-- without its last byte the payload of the key runs past the end
pub cut_short : cut 0 (take 89 keyset) ≡ Err 5
unfolding keyset wire_on_literals
cut_short = refl

-- a payload in two parts is merged: the first has the URL, the second the value
pub merged_parts : merged 1 (
    record { number = 1; at = 0; payload = bytes 2 (0x0A ∷ 0x01 ∷ 0x78 ∷ []) }
    ∷ record { number = 2; at = 5; payload = varint 1 }
    ∷ record { number = 1; at = 7; payload = bytes 9 (0x12 ∷ 0x01 ∷ 0x79 ∷ []) } ∷ [])
    ≡ Ok (record { number = 1; at = 2; payload = bytes 4 (0x78 ∷ []) }
    ∷ record { number = 2; at = 9; payload = bytes 11 (0x79 ∷ []) } ∷ [])
unfolding wire_on_literals
merged_parts = refl

-- the last number counts, by its low 32 bits
pub last_number : number_in 3 (
    record { number = 3; at = 0; payload = varint 7 }
    ∷ record { number = 3; at = 2; payload = varint (2 ^ 32 + 5) } ∷ []) ≡ Ok 5
last_number = refl
