-- The example of RFC 5297 with one associated datum (A.1), sealed, opened and refused; and texts of
-- whole blocks and more and an empty datum, whose sealings are those of OpenSSL's AES-SIV. Each is
-- computed from the definitions alone.
use Rattle.std.proofs.Common.{◌≡◌, ℕ, Some, None, List, [], ◌++◌, take, refl}
use Rattle.std.specs.Int.{w128, to_be_bytes}
use Rattle.std.specs.List.{range_with_len}
use Rattle.siv_daead.specs.Siv.{datum_block, mac_key, siv_open, siv_seal}
use Rattle.standard_examples.proofs.OnLiterals.{siv_on_literals}

abbrev key : List ℕ
key =
    to_be_bytes w128 0xFFFEFDFCFBFAF9F8F7F6F5F4F3F2F1F0
    ++ to_be_bytes w128 0xF0F1F2F3F4F5F6F7F8F9FAFBFCFDFEFF

abbrev ad : List ℕ
ad = range_with_len 0x10 24

abbrev plain : List ℕ
plain = take 14 (to_be_bytes w128 0x112233445566778899AABBCCDDEE0000)

abbrev sealed : List ℕ
sealed =
    to_be_bytes w128 0x85632D07C6E8F37F950ACD320A2ECC93
    ++ take 14 (to_be_bytes w128 0x40C02B9690C4DC04DAEF7F6AFE5C0000)

-- CMAC(ad) xor dbl(CMAC(zero)), which the RFC prints
pub datum_block-printed : datum_block (mac_key key) ad
    ≡ to_be_bytes w128 0xEDF09DE876C642EE4D78BCE4CEEDFC4F
unfolding siv_on_literals
datum_block-printed = refl

pub siv_seal-printed : siv_seal key plain ad ≡ sealed
unfolding siv_on_literals
siv_seal-printed = refl

pub siv_open-printed : siv_open key sealed ad ≡ Some plain
unfolding siv_on_literals
siv_open-printed = refl

-- it is refused with its first bit changed, and without its last byte
pub siv_open-changed : siv_open key
    (to_be_bytes w128 0x05632D07C6E8F37F950ACD320A2ECC93
    ++ take 14 (to_be_bytes w128 0x40C02B9690C4DC04DAEF7F6AFE5C0000)) ad ≡ None
unfolding siv_on_literals
siv_open-changed = refl

pub siv_open-cut : siv_open key (take 29 sealed) ad ≡ None
unfolding siv_on_literals
siv_open-cut = refl

-- ---- by OpenSSL

-- neither text nor datum
pub siv_seal-empty : siv_seal key [] []
    ≡ to_be_bytes w128 0x499E3994710218DE7582E0F2C0AB5ED0
unfolding siv_on_literals
siv_seal-empty = refl

-- a whole block
pub siv_seal-block : siv_seal key (range_with_len 0 16) ad
    ≡ to_be_bytes w128 0x9892BD33BD55F7E955DBD2CBEAB4A927
    ++ to_be_bytes w128 0x388D7C017340B270C47028855FFD0D4F
unfolding siv_on_literals
siv_seal-block = refl

-- more than two blocks, under a key of 64 bytes
pub siv_seal-blocks : siv_seal (key ++ range_with_len 0 32) (range_with_len 0 40) ad
    ≡ to_be_bytes w128 0x9BAD45355CB5B3252AF4805FFAEA7365
    ++ to_be_bytes w128 0x1B6A9ACD9DAE75A9DA6D6B7D0978E3E5
    ++ to_be_bytes w128 0x45653E1FD41AA171D9BF443EAC9E3B06
    ++ take 8 (to_be_bytes w128 0xF1E28BAF9B432FB40000000000000000)
unfolding siv_on_literals
siv_seal-blocks = refl
