-- Varints, after the encoding of Protocol Buffers ("Base 128 Varints"): groups of seven bits, the
-- lowest first, one a byte, with the top bit set in each byte but the last. One has at most ten
-- bytes. It stands for the low 64 bits of its groups, so the surplus bits of a tenth byte fall off.
--
--   SpellsNumber   these bytes are a varint of this value
--   number_front   the value of the varint at the front, and the bytes behind it
use Rattle.std.specs.Prelude.{◌≡◌, ℕ, ◌+◌, ◌*◌, ◌%◌, ◌^◌, ◌<◌, ◌≤◌, List, [], ◌∷◌, length, Option, Some, None, option_map, option_and_then, nat_lt, nat_le, if◌then◌else◌}

-- the groups as one number
abbrev pub groups : List ℕ → ℕ
groups [] = 0
groups (b ∷ bytes) = b % 128 + 128 * groups bytes

-- the top bit is set in each byte but the last
abbrev pub IsVarint : List ℕ → Type 0
IsVarint [] = ⊥
IsVarint (b ∷ []) = b < 128
IsVarint (b ∷ c ∷ bytes) = (128 ≤ b) × IsVarint (c ∷ bytes)

-- the bytes are a varint, of at most ten bytes, and these are its low 64 bits
pub record SpellsNumber (bytes : List ℕ) (value : ℕ) : Type 0 where
  pub form : IsVarint bytes
  pub short : length bytes ≤ 10
  pub low : value ≡ groups bytes % 2 ^ 64

-- the bytes up to the first without a top bit, and those behind it
unfoldable pub varint_front : List ℕ → Option (List ℕ × List ℕ)
varint_front [] = None
varint_front (b ∷ bytes) =
    if nat_lt b 128 then Some (b ∷ [], bytes)
    else option_map (λ cut. (b ∷ cut.0, cut.1)) (varint_front bytes)

-- the number of the varint in front, and the bytes behind it
unfoldable pub number_front : List ℕ → Option (ℕ × List ℕ)
number_front bytes = option_and_then (λ cut.
    if nat_le (length cut.0) 10 then Some (groups cut.0 % 2 ^ 64, cut.1) else None) (varint_front bytes)
