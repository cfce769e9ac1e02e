-- The examples of RFC 4493, section 4, proved of the definition alone by computing it.
use Rattle.std.proofs.Common.{◌≡◌, ◌++◌, ℕ, List, [], take, refl}
use Rattle.std.specs.Int.{to_be_bytes, w128}
use Rattle.mac_prf.specs.Cmac.{cmac, subkey1, subkey2}
use Rattle.standard_examples.proofs.OnLiterals.{cmac_on_literals}

abbrev key : List ℕ
key = to_be_bytes w128 0x2B7E151628AED2A6ABF7158809CF4F3C

abbrev message : List ℕ
message =
    to_be_bytes w128 0x6BC1BEE22E409F96E93D7E117393172A
    ++ to_be_bytes w128 0xAE2D8A571E03AC9C9EB76FAC45AF8E51
    ++ to_be_bytes w128 0x30C81C46A35CE411E5FBC1191A0A52EF
    ++ to_be_bytes w128 0xF69F2445DF4F9B17AD2B417BE66C3710

-- the subkeys
pub subkey1-printed : subkey1 key ≡ to_be_bytes w128 0xFBEED618357133667C85E08F7236A8DE
unfolding cmac_on_literals
subkey1-printed = refl

pub subkey2-printed : subkey2 key ≡ to_be_bytes w128 0xF7DDAC306AE266CCF90BC11EE46D513B
unfolding cmac_on_literals
subkey2-printed = refl

-- example 1: the empty message
pub cmac-empty : cmac key [] ≡ to_be_bytes w128 0xBB1D6929E95937287FA37D129B756746
unfolding cmac_on_literals
cmac-empty = refl

-- example 2: one whole block
pub cmac-block : cmac key (take 16 message) ≡ to_be_bytes w128 0x070A16B46B4D4144F79BDD9DD04A287C
unfolding cmac_on_literals
cmac-block = refl

-- example 3: the last block is padded
pub cmac-padded : cmac key (take 40 message) ≡ to_be_bytes w128 0xDFA66747DE9AE63030CA32611497C827
unfolding cmac_on_literals
cmac-padded = refl

-- example 4: whole blocks
pub cmac-blocks : cmac key message ≡ to_be_bytes w128 0x51F0BEBF7E3B9D92FC49741779363CFE
unfolding cmac_on_literals
cmac-blocks = refl
