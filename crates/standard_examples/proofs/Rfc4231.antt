-- HMAC with SHA-2: printed cases of RFC 4231, proved of the definition alone by computing it.
use Rattle.std.proofs.Common.{◌≡◌, ℕ, List, ◌++◌, codes, refl}
use Rattle.std.specs.Prelude.{replicate}
use Rattle.std.specs.Int.{to_be_bytes, w32, w64, w128}
use Rattle.tink_base.specs.declared.hash.Hash.TheVariants.{Sha224, Sha256, Sha384, Sha512}
use Rattle.mac_prf.specs.Hmac.{hmac}
use Rattle.standard_examples.proofs.OnLiterals.{hmac_on_literals}

-- test case 2 (4.3): a key shorter than a digest
abbrev key : List ℕ
key = codes "Jefe"

abbrev text : List ℕ
text = codes "what do ya want for nothing?"

pub hmac-sha224 : hmac Sha224 key text ≡
    to_be_bytes w128 0xA30E01098BC6DBBF45690F3A7E9E6D0F
    ++ to_be_bytes w64 0x8BBEA2A39E614800 ++ to_be_bytes w32 0x8FD05E44
unfolding hmac_on_literals
hmac-sha224 = refl

pub hmac-sha256 : hmac Sha256 key text ≡
    to_be_bytes w128 0x5BDCC146BF60754E6A042426089575C7
    ++ to_be_bytes w128 0x5A003F089D2739839DEC58B964EC3843
unfolding hmac_on_literals
hmac-sha256 = refl

pub hmac-sha384 : hmac Sha384 key text ≡
    to_be_bytes w128 0xAF45D2E376484031617F78D2B58A6B1B
    ++ to_be_bytes w128 0x9C7EF464F5A01B47E42EC3736322445E
    ++ to_be_bytes w128 0x8E2240CA5E69E2C78B3239ECFAB21649
unfolding hmac_on_literals
hmac-sha384 = refl

pub hmac-sha512 : hmac Sha512 key text ≡
    to_be_bytes w128 0x164B7A7BFCF819E2E395FBE73B56E0A3
    ++ to_be_bytes w128 0x87BD64222E831FD610270CD7EA250554
    ++ to_be_bytes w128 0x9758BF75C05A994A6D034F65F8F0E6FD
    ++ to_be_bytes w128 0xCAEAB1A34D4A6B4B636E070A38BCE737
unfolding hmac_on_literals
hmac-sha512 = refl

-- test case 6 (4.7): a key longer than a block, which is hashed first
abbrev long_text : List ℕ
long_text = codes "Test Using Larger Than Block-Size Key - Hash Key First"

pub hmac-sha256-long_key : hmac Sha256 (replicate 131 0xAA) long_text ≡
    to_be_bytes w128 0x60E431591EE0B67F0D8A26AACBF5B77F
    ++ to_be_bytes w128 0x8E0BC6213728C5140546040F0EE37F54
unfolding hmac_on_literals
hmac-sha256-long_key = refl

pub hmac-sha512-long_key : hmac Sha512 (replicate 131 0xAA) long_text ≡
    to_be_bytes w128 0x80B24263C7C1A3EBB71493C1DD7BE8B4
    ++ to_be_bytes w128 0x9B46D1F41B4AEEC1121B013783F8F352
    ++ to_be_bytes w128 0x6B56D037E05F2598BD0FD2215D6A1E52
    ++ to_be_bytes w128 0x95E64F73F63F0AEC8B915A985D786598
unfolding hmac_on_literals
hmac-sha512-long_key = refl
