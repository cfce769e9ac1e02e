-- EAX (Bellare, Rogaway and Wagner, The EAX Mode of Operation, 2004) over AES, on lists of bytes, with
-- whole tags of 16 bytes. K, M and C are the paper's; the IV is its nonce, and the associated data its
-- header.
--
--   omac         OMAC^t_K
--   eax_text     C of M, and M of C
--   eax_tag      Tag
--   eax_seal     IV, C and Tag joined
--   eax_open     M of those bytes, or none, which stands for INVALID
use Rattle.std.specs.Prelude.{ℕ, Option, List, ◌++◌}
use Rattle.std.specs.Int.{w128, to_be_bytes}
use Rattle.aes_core.specs.Bytes.{xor_bytes}
use Rattle.aes_core.specs.Counter.{ctr}
use Rattle.aes_core.specs.declared.counter.CtrKind.TheVariants.{All128}
use Rattle.mac_prf.specs.Cmac.{cmac}
use Rattle.aead_kinds.specs.EncryptThenTag.{opened_by, sealed_by}

-- OMAC^t_K(M): the tag of CMAC, which was OMAC first, of the number t in a block and of M
unfoldable pub omac : ℕ → List ℕ → List ℕ → List ℕ
omac t key m = cmac key (to_be_bytes w128 t ++ m)

-- C: counter mode from OMAC^0 of the IV, a block of which all 128 bits count
unfoldable pub eax_text : List ℕ → List ℕ → List ℕ → List ℕ
eax_text key iv text = ctr key (omac 0 key iv) All128 text

-- Tag: the sum of OMAC^0 of the IV, OMAC^1 of the associated data and OMAC^2 of C
unfoldable pub eax_tag : List ℕ → List ℕ → List ℕ → List ℕ → List ℕ
eax_tag key iv ad text = xor_bytes (xor_bytes (omac 0 key iv) (omac 1 key ad)) (omac 2 key text)

-- the IV, C of M, and Tag, joined
unfoldable pub eax_seal : List ℕ → List ℕ → List ℕ → List ℕ → List ℕ
eax_seal key iv plain ad = sealed_by (eax_text key) (eax_tag key) iv plain ad

-- M of such bytes, which have an IV of that size at their front; none where the tag isn't the right one
unfoldable pub eax_open : List ℕ → ℕ → List ℕ → List ℕ → Option (List ℕ)
eax_open key iv_size bytes ad = opened_by (eax_text key) (eax_tag key) iv_size 16 bytes ad
