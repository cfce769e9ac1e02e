-- AES-GCM (SP 800-38D of 2007) on lists of bytes, with an IV of 12 bytes and a tag of 16. Numbers in
-- parentheses are the standard's sections, and its lengths count bits. CIPH is `cipher`, and a block
-- that is hashed is a number whose 16 bytes stand highest first.
--
--   hash_subkey     H
--   first_counter   J0
--   incremented     inc 32
--   gctr            GCTR
--   lengths         the lengths of A and C, 64 bits each
--   hashed          S
--   gcm_text        C of P, and P of C
--   gcm_tag         T
--   gcm_seal        IV, C and T joined, of IV, P and A
--   gcm_open        P of IV, C and T joined, and of A, or none, which stands for FAIL
use Rattle.std.specs.Prelude.{ℕ, ◌-◌, ◌*◌, Bool, nat_lt, if◌then◌else◌, Option, Some, None, List, [], ◌∷◌, ◌++◌, length, take, drop, replicate}
use Rattle.std.specs.Int.{w64, w128, from_be_bytes, to_be_bytes}
use Rattle.std.specs.Str.{bytes_eq}
use Rattle.aes_core.specs.Aes.{cipher}
use Rattle.aes_core.specs.Counter.{counter_plus, ctr}
use Rattle.aes_core.specs.declared.counter.CtrKind.TheVariants.{Low32}
use Rattle.ghash.specs.Ghash.{ghash, padded_blocks}

-- H, the cipher of the block of zeros (7.1, step 1)
unfoldable pub hash_subkey : List ℕ → ℕ
hash_subkey key = from_be_bytes w128 (cipher key (replicate 16 0))

-- J0 of an IV of 96 bits: the IV, 31 bits 0 and a bit 1 (7.1, step 2)
abbrev pub first_counter : List ℕ → List ℕ
first_counter iv = iv ++ 0 ∷ 0 ∷ 0 ∷ 1 ∷ []

-- inc 32: the last 32 bits of a block as a number, one greater modulo 2 ^ 32 (6.2)
abbrev pub incremented : List ℕ → List ℕ
incremented block = counter_plus Low32 block 1

-- GCTR under a key, from an initial counter block, of a text: counter mode over inc 32 (6.5)
abbrev pub gctr : List ℕ → List ℕ → List ℕ → List ℕ
gctr key start text = ctr key start Low32 text

-- the lengths of A and C in bits, each in 64 bits (7.1, step 5)
abbrev pub lengths : List ℕ → List ℕ → List ℕ
lengths ad text = to_be_bytes w64 (8 * length ad) ++ to_be_bytes w64 (8 * length text)

-- S: GHASH of A and C, each with zeros after it up to a whole block, and of the lengths (7.1, steps
-- 4 and 5)
unfoldable pub hashed : List ℕ → List ℕ → List ℕ → List ℕ
hashed key ad text =
    to_be_bytes w128 (ghash (hash_subkey key)
    (padded_blocks ad ++ padded_blocks text ++ padded_blocks (lengths ad text)))

-- C of P (7.1, step 3), and P of C (7.2, step 4)
unfoldable pub gcm_text : List ℕ → List ℕ → List ℕ → List ℕ
gcm_text key iv text = gctr key (incremented (first_counter iv)) text

-- T of A and C, all 128 bits of it (7.1, step 6)
unfoldable pub gcm_tag : List ℕ → List ℕ → List ℕ → List ℕ → List ℕ
gcm_tag key iv ad text = gctr key (first_counter iv) (hashed key ad text)

-- authenticated encryption (7.1): what it gives, behind the IV
unfoldable pub gcm_seal : List ℕ → List ℕ → List ℕ → List ℕ → List ℕ
gcm_seal key iv plain ad =
    let text = gcm_text key iv plain in iv ++ text ++ gcm_tag key iv ad text

-- ---- IV, C and T of the bytes that are opened

-- the 12 bytes of IV in front
abbrev pub iv_of : List ℕ → List ℕ
iv_of bytes = take 12 bytes

-- the ciphertext between IV and tag
abbrev pub text_of : List ℕ → List ℕ
text_of bytes = take (length bytes - 28) (drop 12 bytes)

-- the 16 bytes of tag at the end
abbrev pub tag_of : List ℕ → List ℕ
tag_of bytes = drop (length bytes - 16) bytes

-- whether the tag is the one computed anew (7.2, steps 7 and 8)
abbrev pub is_authentic : List ℕ → List ℕ → List ℕ → Bool
is_authentic key bytes ad =
    bytes_eq (tag_of bytes) (gcm_tag key (iv_of bytes) ad (text_of bytes))

-- authenticated decryption (7.2): FAIL where there are fewer bytes than an IV and a tag have, and
-- where the tag isn't the one computed anew
unfoldable pub gcm_open : List ℕ → List ℕ → List ℕ → Option (List ℕ)
gcm_open key bytes ad =
    if nat_lt (length bytes) 28 then None
    else if is_authentic key bytes ad then Some (gcm_text key (iv_of bytes) (text_of bytes))
    else None
