-- Two of the EAX paper's test vectors, written down from memory and checked with Python's cryptography:
-- an empty message, and one longer than a block. Each is
-- computed from the definitions alone.
use Rattle.std.proofs.Common.{◌≡◌, ℕ, Some, None, List, [], ◌++◌, take, refl}
use Rattle.std.specs.Int.{w64, w128, to_be_bytes}
use Rattle.aead_kinds.specs.Eax.{eax_open, eax_seal}
use Rattle.standard_examples.proofs.OnLiterals.{eax_on_literals}

-- ---- the first one

abbrev first_key : List ℕ
first_key = to_be_bytes w128 0x233952DEE4D5ED5F9B9C6D6FF80FF478

abbrev first_iv : List ℕ
first_iv = to_be_bytes w128 0x62EC67F9C3A4A407FCB2A8C49031A8B3

abbrev first_header : List ℕ
first_header = to_be_bytes w64 0x6BFB914FD07EAE6B

pub first : eax_seal first_key first_iv [] first_header
    ≡ first_iv ++ to_be_bytes w128 0xE037830E8389F27B025A2D6527E79D01
unfolding eax_on_literals
first = refl

-- its tag opens it, and a tag that differs in the last bit doesn't
pub first-opens : eax_open first_key 16
    (first_iv ++ to_be_bytes w128 0xE037830E8389F27B025A2D6527E79D01) first_header ≡ Some []
unfolding eax_on_literals
first-opens = refl

pub first-refused : eax_open first_key 16
    (first_iv ++ to_be_bytes w128 0xE037830E8389F27B025A2D6527E79D00) first_header ≡ None
unfolding eax_on_literals
first-refused = refl

-- ---- the last one, of 21 bytes

abbrev last_iv : List ℕ
last_iv = to_be_bytes w128 0x22E7ADD93CFC6393C57EC0B3C17D6B44

pub last : eax_seal (to_be_bytes w128 0x8395FCF1E95BEBD697BD010BC766AAC3) last_iv
    (take 21 (to_be_bytes w128 0xCA40D7446E545FFAED3BD12A740A659F
    ++ to_be_bytes w64 0xFBBB3CEAB7000000))
    (to_be_bytes w64 0x126735FCC320D25A)
    ≡ last_iv ++ take 21 (to_be_bytes w128 0xCB8920F87A6C75CFF39627B56E3ED197
    ++ to_be_bytes w64 0xC552D295A7000000)
    ++ to_be_bytes w128 0xCFC46AFC253B4652B1AF3795B124AB6E
unfolding eax_on_literals
last = refl
