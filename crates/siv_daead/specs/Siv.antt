-- AES-SIV (RFC 5297 of 2008) on lists of bytes, with exactly one associated datum, which may be
-- empty: an empty datum isn't the same as none. Numbers in parentheses are the RFC's sections, and
-- its lengths count bits. AES-CMAC is `cmac`, and dbl is `doubled_block` (2.3).
--
--   mac_key, ctr_key   K1 and K2
--   xor_end            xorend
--   pad                pad
--   datum_block        D, with the associated datum taken in
--   mac_text           T of S2V
--   s2v                S2V, which gives V
--   first_counter      Q
--   siv_text           C of P, and P of C, under V
--   siv_seal           Z, of K, P and AD
--   siv_open           P, of K, Z and AD, or none, which stands for FAIL
use Rattle.std.specs.Prelude.{ℕ, ◌-◌, ◌/◌, Bool, nat_lt, if◌then◌else◌, Option, Some, None, List, ◌∷◌, ◌++◌, length, take, drop, replicate, bit_and}
use Rattle.std.specs.Int.{w128, from_be_bytes, to_be_bytes}
use Rattle.std.specs.Str.{bytes_eq}
use Rattle.aes_core.specs.Bytes.{xor_bytes}
use Rattle.aes_core.specs.Counter.{ctr}
use Rattle.aes_core.specs.declared.counter.CtrKind.TheVariants.{All128}
use Rattle.mac_prf.specs.Cmac.{cmac, doubled_block, zero_block}

-- K1, the leftmost half of the key (2.6)
abbrev pub mac_key : List ℕ → List ℕ
mac_key key = take (length key / 2) key

-- K2, the rightmost half of the key (2.6)
abbrev pub ctr_key : List ℕ → List ℕ
ctr_key key = drop (length key / 2) key

-- A xorend B: B added onto the end of A, which is at least as long (2.1)
abbrev pub xor_end : List ℕ → List ℕ → List ℕ
xor_end a b =
    take (length a - length b) a ++ xor_bytes (drop (length a - length b) a) b

-- pad(X) of less than 16 bytes: a bit 1 behind them, and zeros up to a block (2.1)
abbrev pub pad : List ℕ → List ℕ
pad x = x ++ 0x80 ∷ replicate (15 - length x) 0

-- D behind the loop over AD, the one string before the last (2.4)
unfoldable pub datum_block : List ℕ → List ℕ → List ℕ
datum_block key ad = xor_bytes (doubled_block (cmac key zero_block)) (cmac key ad)

-- T, of D and of P, the last string (2.4)
unfoldable pub mac_text : List ℕ → List ℕ → List ℕ
mac_text d plain =
    if nat_lt (length plain) 16 then xor_bytes (doubled_block d) (pad plain) else xor_end plain d

-- V, which is S2V of AD and P (2.4)
unfoldable pub s2v : List ℕ → List ℕ → List ℕ → List ℕ
s2v key ad plain = cmac key (mac_text (datum_block key ad) plain)

-- the bits 1^64 0 1^31 0 1^31, by which the 31st and the 63rd bit from the right are cleared, where
-- the rightmost is the 0th (2.5, 2.6)
abbrev pub kept_bits : ℕ
kept_bits = 0xFFFFFFFFFFFFFFFF7FFFFFFF7FFFFFFF

-- Q, the counter at which CTR begins: V bitand those bits (2.5, 2.6)
abbrev pub first_counter : List ℕ → List ℕ
first_counter v = to_be_bytes w128 (bit_and (from_be_bytes w128 v) kept_bits)

-- C of P (2.6), and P of C (2.7): counter mode under K2 from Q, of which all 128 bits count
unfoldable pub siv_text : List ℕ → List ℕ → List ℕ → List ℕ
siv_text key v text = ctr (ctr_key key) (first_counter v) All128 text

-- SIV-ENCRYPT (2.6): V and C joined
unfoldable pub siv_seal : List ℕ → List ℕ → List ℕ → List ℕ
siv_seal key plain ad =
    let v = s2v (mac_key key) ad plain in v ++ siv_text key v plain

-- V and C of the bytes that are opened, which are Z (2.7)
abbrev pub siv_of : List ℕ → List ℕ
siv_of bytes = take 16 bytes

-- the ciphertext behind the 16 bytes of SIV
abbrev pub text_of : List ℕ → List ℕ
text_of bytes = drop 16 bytes

-- P, whether or not it is given out (2.7)
abbrev pub plain_of : List ℕ → List ℕ → List ℕ
plain_of key bytes = siv_text key (siv_of bytes) (text_of bytes)

-- whether V is the one computed anew from P, which the RFC calls T (2.7)
abbrev pub is_authentic : List ℕ → List ℕ → List ℕ → Bool
is_authentic key bytes ad =
    bytes_eq (siv_of bytes) (s2v (mac_key key) ad (plain_of key bytes))

-- SIV-DECRYPT (2.7): FAIL where there are fewer bytes than V has, and where V isn't the one
-- computed anew
unfoldable pub siv_open : List ℕ → List ℕ → List ℕ → Option (List ℕ)
siv_open key bytes ad =
    if nat_lt (length bytes) 16 then None
    else if is_authentic key bytes ad then Some (plain_of key bytes)
    else None
