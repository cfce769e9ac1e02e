-- Printed examples of SP 800-38A, proved of the definitions alone, by computation; and that each counter
-- block is a block.
use Rattle.std.proofs.Common.{◌≡◌, ℕ, List, ◌++◌, length, take, refl}
use Rattle.std.specs.Int.{to_be_bytes, w128}
use Rattle.aes_core.specs.Counter.{counter_plus, ctr, ctr_on_literals}
use Rattle.aes_core.proofs.CounterLemmas.{length-counter_plus}
use Rattle.aes_core.specs.declared.counter.CtrKind.TheVariants.{All128, First32, Low32}
use Rattle.aes_core.specs.Chain.{chain_on_literals, chained, whole_blocks}

-- the first two blocks of F.2.1 (CBC-AES128): each ciphertext block of CBC is the chain from the IV up to
-- its block
pub chain_128 : chained (to_be_bytes w128 0x2B7E151628AED2A6ABF7158809CF4F3C)
    (to_be_bytes w128 0x000102030405060708090A0B0C0D0E0F)
    (whole_blocks (to_be_bytes w128 0x6BC1BEE22E409F96E93D7E117393172A
    ++ to_be_bytes w128 0xAE2D8A571E03AC9C9EB76FAC45AF8E51))
    ≡ to_be_bytes w128 0x5086CB9B507219EE95DB113A917678B2
unfolding chain_on_literals
chain_128 = refl

-- F.5.1 (CTR-AES128): its first two blocks, the second of them cut short
pub ctr_128 :
    ctr (to_be_bytes w128 0x2B7E151628AED2A6ABF7158809CF4F3C)
    (to_be_bytes w128 0xF0F1F2F3F4F5F6F7F8F9FAFBFCFDFEFF) All128
    (to_be_bytes w128 0x6BC1BEE22E409F96E93D7E117393172A
    ++ take 7 (to_be_bytes w128 0xAE2D8A571E03AC9C9EB76FAC45AF8E51)) ≡
    to_be_bytes w128 0x874D6191B620E3261BEF6864990DB6CE
    ++ take 7 (to_be_bytes w128 0x9806F66B7970FDFF8617187BB9FFFDFF)
unfolding ctr_on_literals
ctr_128 = refl

-- Each counter block T j is a block of 16 bytes (6.5).
pub length-counter_blocks : (t : List ℕ) (j : ℕ) → length t ≡ 16
    → (length (counter_plus Low32 t j) ≡ 16) × (length (counter_plus First32 t j) ≡ 16)
    × (length (counter_plus All128 t j) ≡ 16)
length-counter_blocks t j block = (
  length-counter_plus Low32 t j block,
  length-counter_plus First32 t j block,
  length-counter_plus All128 t j block,
)
