-- CMAC (SP 800-38B of 2005) over AES, on lists of bytes. Numbers in parentheses are the standard's
-- sections, and CIPH is `cipher`. Its blocks count from 1.
--
--   subkey1, subkey2   K1 and K2
--   block_count        n
--   message_block      M i, whose last one is masked
--   chain              C i
--   cmac               the tag of 16 bytes, under a key and of a message
use Rattle.std.specs.Prelude.{ℕ, zero, suc, ◌+◌, ◌-◌, ◌*◌, ◌/◌, ◌==◌, List, ◌∷◌, ◌++◌, length, take, drop, replicate, max, nat_lt, if◌then◌else◌}
use Rattle.std.specs.Int.{w128, from_be_bytes, to_be_bytes}
use Rattle.aes_core.specs.Aes.{cipher}
use Rattle.aes_core.specs.Bytes.{xor_bytes}
use Rattle.ghash.specs.Field.{doubled}

-- 0^128
abbrev pub zero_block : List ℕ
zero_block = replicate 16 0

-- a block shifted by one bit, with R 128 added where a 1 fell out (6.1, steps 2 and 3)
abbrev pub doubled_block : List ℕ → List ℕ
doubled_block block = to_be_bytes w128 (doubled (from_be_bytes w128 block))

-- K1, of L = CIPH (0^128) (6.1, steps 1 and 2)
abbrev pub subkey1 : List ℕ → List ℕ
subkey1 key = doubled_block (cipher key zero_block)

-- K2 (6.1, step 3)
abbrev pub subkey2 : List ℕ → List ℕ
subkey2 key = doubled_block (subkey1 key)

-- n, the number of blocks: one where the message is empty (6.2, step 2)
abbrev pub block_count : List ℕ → ℕ
block_count m = max 1 ((length m + 15) / 16)

-- the bytes of the message from block i on, those of the blocks before left out (6.2, step 3)
abbrev pub from_block : List ℕ → ℕ → List ℕ
from_block m i = drop ((i - 1) * 16) m

-- the last block, masked: a whole one with K1, and any other, padded by a bit 1 and zeros, with
-- K2 (6.2, step 4)
abbrev pub masked : List ℕ → List ℕ → List ℕ
masked key part =
    if length part == 16 then xor_bytes (subkey1 key) part
    else xor_bytes (subkey2 key) (part ++ 0x80 ∷ replicate (15 - length part) 0)

-- M i, for i from 1 to n (6.2, steps 3 and 4)
abbrev pub message_block : List ℕ → List ℕ → ℕ → List ℕ
message_block key m i =
    if nat_lt i (block_count m) then take 16 (from_block m i) else masked key (from_block m i)

-- C i (6.2, steps 5 and 6)
unfoldable pub chain : List ℕ → List ℕ → ℕ → List ℕ
chain key m zero = zero_block
chain key m (suc i) = cipher key (xor_bytes (chain key m i) (message_block key m (suc i)))

-- the tag, untruncated (6.2, step 7)
unfoldable pub cmac : List ℕ → List ℕ → List ℕ
cmac key m = chain key m (block_count m)
