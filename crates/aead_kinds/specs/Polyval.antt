-- POLYVAL (RFC 8452 of 2019, 3) on lists of blocks, by way of GHASH as its appendix A has it, and as
-- its section 3 defines it. A block is a list of 16 bytes. Numbers in parentheses are the RFC's
-- sections, and "dot" has two arguments there.
--
--   rev                ByteReverse
--   mulx               mulX_GHASH, on the number of a block whose first byte is highest
--   polyval            POLYVAL, by GHASH
--   element            the element of the field that a block stands for
--   times_x            the product of an element and x
--   product            the product of two elements
--   dot                dot
--   accumulated        S_j
--   polyval_by_dot     POLYVAL, by dot
use Rattle.std.specs.Prelude.{◌≡◌, ℕ, zero, suc, ◌+◌, ◌*◌, ◌%◌, ◌^◌, ◌==◌, if◌then◌else◌, List, length, map, reverse, bit_xor, slice_index}
use Rattle.std.specs.Int.{w128, bit_at, from_be_bytes, from_le_bytes, to_be_bytes, to_le_bytes}
use Rattle.std.specs.List.{All}
use Rattle.aes_core.specs.Bytes.{IsBytes}
use Rattle.ghash.specs.Field as field
use Rattle.ghash.specs.Ghash.{ghash}

-- ---- by GHASH (appendix A)

-- ByteReverse: the bytes in the other order
abbrev pub rev : List ℕ → List ℕ
rev block = reverse block

-- mulX_GHASH: the product by x in the field of GHASH. A shift to the right by one, and 0xe1 · 2^120
-- added where the bit that fell out was a 1
abbrev pub mulx : ℕ → ℕ
mulx block = field.times_x block

-- the block for GHASH, a number, of the reversed bytes
abbrev pub turned : List ℕ → ℕ
turned block = from_be_bytes w128 (rev block)

-- POLYVAL(H, X_1, ..., X_s), which is ByteReverse(GHASH(mulX_GHASH(ByteReverse(H)),
-- ByteReverse(X_1), ..., ByteReverse(X_s)))
unfoldable pub polyval : List ℕ → List (List ℕ) → List ℕ
polyval h blocks = rev (to_be_bytes w128 (ghash (mulx (turned h)) (map turned blocks)))

-- ---- by dot (3)

-- the element of a block: the lowest bit of the first byte is the coefficient of x^0, and the highest
-- one of the last byte that of x^127. The sum of two elements is XOR
abbrev pub element : List ℕ → ℕ
element block = from_le_bytes w128 block

-- the product by x, where x^128 is x^127 + x^126 + x^121 + 1
abbrev pub times_x : ℕ → ℕ
times_x a =
    if bit_at a 127 == 0 then a * 2 % 2 ^ 128
    else bit_xor (a * 2 % 2 ^ 128) (2 ^ 127 + 2 ^ 126 + 2 ^ 121 + 1)

-- the product by x^i
unfoldable pub shifted : ℕ → ℕ → ℕ
shifted a zero = a
shifted a (suc i) = times_x (shifted a i)

-- the sum of the products by those x^i of the first factor that are below x^n
unfoldable pub partial_product : ℕ → ℕ → ℕ → ℕ
partial_product a b zero = 0
partial_product a b (suc i) =
    if bit_at a i == 0 then partial_product a b i
    else bit_xor (partial_product a b i) (shifted b i)

-- the product of two elements, whose degree is below 128
unfoldable pub product : ℕ → ℕ → ℕ
product a b = partial_product a b 128

-- x^-128, which is x^127 + x^124 + x^121 + x^114 + 1
abbrev pub inverse_of_x128 : ℕ
inverse_of_x128 = 2 ^ 127 + 2 ^ 124 + 2 ^ 121 + 2 ^ 114 + 1

-- dot(a, b), which is a * b * x^-128
unfoldable pub dot : ℕ → ℕ → ℕ
dot a b = product (product a b) inverse_of_x128

-- S_j: S_0 is 0, and S_j is dot(S_(j-1) + X_j, H). As the X count from 1, X_(j+1) is in place j
unfoldable pub accumulated : ℕ → List ℕ → ℕ → ℕ
accumulated h elements zero = 0
accumulated h elements (suc j) = dot (bit_xor (accumulated h elements j) (slice_index elements j)) h

-- POLYVAL(H, X_1, ..., X_s), which is S_s
unfoldable pub polyval_by_dot : List ℕ → List (List ℕ) → List ℕ
polyval_by_dot h blocks =
    to_le_bytes w128 (accumulated (element h) (map element blocks) (length blocks))

-- ---- laws

-- 16 bytes
abbrev pub IsBlock : List ℕ → Type 0
IsBlock block = (length block ≡ 16) × IsBytes block

-- both definitions are the same, of any list of blocks
abbrev pub PolyvalIsDot : Type 0
PolyvalIsDot = (h : List ℕ) (blocks : List (List ℕ)) → IsBlock h → All IsBlock blocks
    → polyval h blocks ≡ polyval_by_dot h blocks

-- x^-128 times x^128 is the one, in which x^128 is the one times x so often
abbrev pub InverseOfX128 : Type 0
InverseOfX128 = product inverse_of_x128 (shifted 1 128) ≡ 1
