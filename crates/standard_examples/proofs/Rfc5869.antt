-- Printed cases of RFC 5869, proved of the definition alone by computing it.
use Rattle.std.proofs.Common.{◌≡◌, ℕ, List, [], ◌++◌, refl}
use Rattle.std.specs.Prelude.{replicate}
use Rattle.std.specs.Int.{to_be_bytes, w16, w64, w128}
use Rattle.tink_base.specs.declared.hash.Hash.TheVariants.{Sha1, Sha256}
use Rattle.mac_prf.specs.Hkdf.{hkdf}
use Rattle.standard_examples.proofs.OnLiterals.{hkdf_on_literals}

-- the inputs of A.2, 80 bytes each
abbrev long_ikm : List ℕ
long_ikm =
    to_be_bytes w128 0x000102030405060708090A0B0C0D0E0F
    ++ to_be_bytes w128 0x101112131415161718191A1B1C1D1E1F
    ++ to_be_bytes w128 0x202122232425262728292A2B2C2D2E2F
    ++ to_be_bytes w128 0x303132333435363738393A3B3C3D3E3F
    ++ to_be_bytes w128 0x404142434445464748494A4B4C4D4E4F

abbrev long_salt : List ℕ
long_salt =
    to_be_bytes w128 0x606162636465666768696A6B6C6D6E6F
    ++ to_be_bytes w128 0x707172737475767778797A7B7C7D7E7F
    ++ to_be_bytes w128 0x808182838485868788898A8B8C8D8E8F
    ++ to_be_bytes w128 0x909192939495969798999A9B9C9D9E9F
    ++ to_be_bytes w128 0xA0A1A2A3A4A5A6A7A8A9AAABACADAEAF

abbrev long_info : List ℕ
long_info =
    to_be_bytes w128 0xB0B1B2B3B4B5B6B7B8B9BABBBCBDBEBF
    ++ to_be_bytes w128 0xC0C1C2C3C4C5C6C7C8C9CACBCCCDCECF
    ++ to_be_bytes w128 0xD0D1D2D3D4D5D6D7D8D9DADBDCDDDEDF
    ++ to_be_bytes w128 0xE0E1E2E3E4E5E6E7E8E9EAEBECEDEEEF
    ++ to_be_bytes w128 0xF0F1F2F3F4F5F6F7F8F9FAFBFCFDFEFF

-- A.2: long inputs, and an output of two digests and a part of the third
pub hkdf-sha256-long : hkdf Sha256 long_ikm long_salt long_info 82 ≡
    to_be_bytes w128 0xB11E398DC80327A1C8E7F78C596A4934
    ++ to_be_bytes w128 0x4F012EDA2D4EFAD8A050CC4C19AFA97C
    ++ to_be_bytes w128 0x59045A99CAC7827271CB41C65E590E09
    ++ to_be_bytes w128 0xDA3275600C2F09B8367793A9ACA3DB71
    ++ to_be_bytes w128 0xCC30C58179EC3E87C14C01D5C1F3434F
    ++ to_be_bytes w16 0x1D87
unfolding hkdf_on_literals
hkdf-sha256-long = refl

-- A.6: an empty salt, and an empty info
pub hkdf-sha1-empty : hkdf Sha1 (replicate 22 0x0B) [] [] 42 ≡
    to_be_bytes w128 0x0AC1AF7002B3D761D1E55298DA9D0506
    ++ to_be_bytes w128 0xB9AE52057220A306E07B6B87E8DF21D0
    ++ to_be_bytes w64 0xEA00033DE03984D3
    ++ to_be_bytes w16 0x4918
unfolding hkdf_on_literals
hkdf-sha1-empty = refl
