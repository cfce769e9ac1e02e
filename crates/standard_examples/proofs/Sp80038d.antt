-- Galois/Counter Mode (SP 800-38D): test cases of The Galois/Counter Mode of Operation (McGrew and
-- Viega), appendix B, computed from the definitions alone.
use Rattle.std.proofs.Common.{◌≡◌, ℕ, Some, None, List, [], ◌++◌, take, replicate, refl, ◌∷◌}
use Rattle.std.specs.Int.{w128, to_be_bytes, w64}
use Rattle.aead_kinds.specs.Gcm.{gcm_open, gcm_seal}
use Rattle.standard_examples.proofs.OnLiterals.{gcm_on_literals, ghash_on_literals}
use Rattle.ghash.specs.Field.{prod}
use Rattle.ghash.specs.Ghash.{ghash, padded_blocks}

-- ---- GHASH

-- test case 2: X 1, the product of the block of ciphertext and H
pub prod-case_2 : prod 0x0388DACE60B6A392F328C2B971B2FE78 0x66E94BD4EF8A2C3B884CFA59CA342B2E
    ≡ 0x5E2EC746917062882C85B0685353DEB7
unfolding ghash_on_literals
prod-case_2 = refl

-- GHASH of the block of ciphertext and that of the lengths
pub ghash-case_2 : ghash 0x66E94BD4EF8A2C3B884CFA59CA342B2E
    (0x0388DACE60B6A392F328C2B971B2FE78 ∷ 0x80 ∷ []) ≡ 0xF38CBB1AD69223DCC3457AE5B6B0F885
unfolding ghash_on_literals
ghash-case_2 = refl

-- test case 4, whose associated data and ciphertext end within a block
abbrev pub associated_data : List ℕ
associated_data = take 20
    (to_be_bytes w128 0xFEEDFACEDEADBEEFFEEDFACEDEADBEEF
    ++ to_be_bytes w128 0xABADDAD2000000000000000000000000)

abbrev pub ciphertext : List ℕ
ciphertext = take 60
    (to_be_bytes w128 0x42831EC2217774244B7221B784D0D49C
    ++ to_be_bytes w128 0xE3AA212F2C02A4E035C17E2329ACA12E
    ++ to_be_bytes w128 0x21D514B25466931C7D8F6A5AAC84AA05
    ++ to_be_bytes w128 0x1BA30B396A0AAC973D58E09100000000)

pub ghash-case_4 : ghash 0xB83B533708BF535D0AA6E52980D53B78
    (padded_blocks associated_data ++ padded_blocks ciphertext
    ++ padded_blocks (to_be_bytes w64 160 ++ to_be_bytes w64 480))
    ≡ 0x698E57F70E6ECC7FD9463B7260A9AE5F
unfolding ghash_on_literals
ghash-case_4 = refl

-- ---- sealings: the cases that have an IV of 12 bytes, without and with a block, and with associated
-- data and a partial block, under keys of 16 and 32 bytes

-- the IV of cases 1, 2, 13 and 14
abbrev zero_iv : List ℕ
zero_iv = replicate 12 0

pub case_1 : gcm_seal (replicate 16 0) zero_iv [] []
    ≡ zero_iv ++ to_be_bytes w128 0x58E2FCCEFA7E3061367F1D57A4E7455A
unfolding gcm_on_literals
case_1 = refl

-- its tag opens it, and a tag that differs in the last bit doesn't
pub case_1-opens : gcm_open (replicate 16 0)
    (zero_iv ++ to_be_bytes w128 0x58E2FCCEFA7E3061367F1D57A4E7455A) [] ≡ Some []
unfolding gcm_on_literals
case_1-opens = refl

pub case_1-refused : gcm_open (replicate 16 0)
    (zero_iv ++ to_be_bytes w128 0x58E2FCCEFA7E3061367F1D57A4E7455B) [] ≡ None
unfolding gcm_on_literals
case_1-refused = refl

pub case_2 : gcm_seal (replicate 16 0) zero_iv (replicate 16 0) []
    ≡ zero_iv ++ to_be_bytes w128 0x0388DACE60B6A392F328C2B971B2FE78
    ++ to_be_bytes w128 0xAB6E47D42CEC13BDF53A67B21257BDDF
unfolding gcm_on_literals
case_2 = refl

pub case_13 : gcm_seal (replicate 32 0) zero_iv [] []
    ≡ zero_iv ++ to_be_bytes w128 0x530F8AFBC74536B9A963B4F1C4CB738B
unfolding gcm_on_literals
case_13 = refl

pub case_14 : gcm_seal (replicate 32 0) zero_iv (replicate 16 0) []
    ≡ zero_iv ++ to_be_bytes w128 0xCEA7403D4D606B6E074EC5D3BAF39D18
    ++ to_be_bytes w128 0xD0D1C8A799996BF0265B98B5D48AB919
unfolding gcm_on_literals
case_14 = refl

-- ---- cases 4 and 16

-- the key of case 4, which that of case 16 has twice
abbrev key : List ℕ
key = to_be_bytes w128 0xFEFFE9928665731C6D6A8F9467308308

abbrev iv : List ℕ
iv = take 12 (to_be_bytes w128 0xCAFEBABEFACEDBADDECAF88800000000)

abbrev ad : List ℕ
ad = take 20
    (to_be_bytes w128 0xFEEDFACEDEADBEEFFEEDFACEDEADBEEF
    ++ to_be_bytes w128 0xABADDAD2000000000000000000000000)

abbrev plain : List ℕ
plain = take 60
    (to_be_bytes w128 0xD9313225F88406E5A55909C5AFF5269A
    ++ to_be_bytes w128 0x86A7A9531534F7DA2E4C303D8A318A72
    ++ to_be_bytes w128 0x1C3C0C95956809532FCF0E2449A6B525
    ++ to_be_bytes w128 0xB16AEDF5AA0DE657BA637B3900000000)

pub case_4 : gcm_seal key iv plain ad
    ≡ iv ++ take 60
    (to_be_bytes w128 0x42831EC2217774244B7221B784D0D49C
    ++ to_be_bytes w128 0xE3AA212F2C02A4E035C17E2329ACA12E
    ++ to_be_bytes w128 0x21D514B25466931C7D8F6A5AAC84AA05
    ++ to_be_bytes w128 0x1BA30B396A0AAC973D58E09100000000)
    ++ to_be_bytes w128 0x5BC94FBC3221A5DB94FAE95AE7121A47
unfolding gcm_on_literals
case_4 = refl

pub case_16 : gcm_seal (key ++ key) iv plain ad
    ≡ iv ++ take 60
    (to_be_bytes w128 0x522DC1F099567D07F47F37A32A84427D
    ++ to_be_bytes w128 0x643A8CDCBFE5C0C97598A2BD2555D1AA
    ++ to_be_bytes w128 0x8CB08E48590DBB3DA7B08B1056828838
    ++ to_be_bytes w128 0xC5F61E6393BA7A0ABCC9F66200000000)
    ++ to_be_bytes w128 0x76FC6ECE0F4E1768CDDF8853BB2D551B
unfolding gcm_on_literals
case_16 = refl
