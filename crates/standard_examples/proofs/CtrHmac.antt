-- A sealing that tink-go 2.4.0 opens, with SHA-224, an IV of 15 bytes and a tag cut to 20; and one worked
-- out with Python's cryptography and hmac, of a text longer than a block under SHA-256, with an IV of 12
-- bytes and a tag cut to 16. Each is computed from the definitions alone.
use Rattle.std.proofs.Common.{◌≡◌, ℕ, Some, None, List, [], ◌∷◌, ◌++◌, take, refl}
use Rattle.std.specs.Int.{w128, to_be_bytes}
use Rattle.std.specs.List.{range_with_len}
use Rattle.tink_base.specs.declared.hash.Hash.TheVariants.{Sha224, Sha256}
use Rattle.aead_kinds.specs.CtrHmac.{ctr_hmac_open, ctr_hmac_seal}
use Rattle.standard_examples.proofs.OnLiterals.{ctr_hmac_on_literals}

-- ---- that of tink-go

abbrev aes : List ℕ
aes = to_be_bytes w128 0xD6F33471A9DC83DB908C3A80DE20F0E1

-- 144 bytes, more than a block of the hash function
abbrev mac : List ℕ
mac =
    to_be_bytes w128 0x134FE916A0ED1EECB1169BEEC55C5ADD
    ++ to_be_bytes w128 0xA66EC00B22059A2421980D2BEAB5DF84
    ++ to_be_bytes w128 0x6FB68EFBDABB5282A79FC47A96615E3B
    ++ to_be_bytes w128 0xC97CE293B77CF5BBEABD4E8113E888DE
    ++ to_be_bytes w128 0x4C5D73F61756B692A547C7BAFEF639A3
    ++ to_be_bytes w128 0x7FFDFAD2638DD24F2B411B733C5BC011
    ++ to_be_bytes w128 0x6654E3366CEC75EA187ACE8C564EA020
    ++ to_be_bytes w128 0xA5BDB127EEBBAA12FB58B78AE4F5A082
    ++ to_be_bytes w128 0xC967F59717AB7B51135FA5A79BF401F5

abbrev ad : List ℕ
ad = take 20
    (to_be_bytes w128 0xF9B03C1D7ACB1A8BDC7278F4C6B4EC0A
    ++ to_be_bytes w128 0x7FE7E9DB000000000000000000000000)

abbrev sealed : List ℕ
sealed = take 36
    (to_be_bytes w128 0xF9590019A0715C03F1D42E10CD5FEDFD
    ++ to_be_bytes w128 0x44AD47EB920D4FA29BC97FBF62FBA09E
    ++ to_be_bytes w128 0xC82FADA8000000000000000000000000)

pub tink-sealed : ctr_hmac_seal aes Sha224 mac 20 (take 15 sealed) (0xEA ∷ []) ad ≡ sealed
unfolding ctr_hmac_on_literals
tink-sealed = refl

pub tink-opens : ctr_hmac_open aes 15 Sha224 mac 20 sealed ad ≡ Some (0xEA ∷ [])
unfolding ctr_hmac_on_literals
tink-opens = refl

-- ---- that of Python

abbrev iv : List ℕ
iv = range_with_len 0xF0 12

-- the sealing, whose last byte is this
abbrev worked_out : ℕ → List ℕ
worked_out last = iv ++ take 35
    (to_be_bytes w128 0x2B5EDE4E34DE786D91AD6A13F15EB870
    ++ to_be_bytes w128 0x83251A0D2F0975622FDA33656590BA23
    ++ to_be_bytes w128 0x79A14700000000000000000000000000)
    ++ last ∷ []

pub longer-sealed : ctr_hmac_seal (range_with_len 0 16) Sha256 (range_with_len 0 32) 16 iv
    (range_with_len 0x41 20) (range_with_len 0 5) ≡ worked_out 0x5C
unfolding ctr_hmac_on_literals
longer-sealed = refl

-- and where the tag's last bit is another, it doesn't open
pub longer-refused : ctr_hmac_open (range_with_len 0 16) 12 Sha256 (range_with_len 0 32) 16
    (worked_out 0x5D) (range_with_len 0 5) ≡ None
unfolding ctr_hmac_on_literals
longer-refused = refl
